use Rattle.std.proofs.Common.{◌∙◌, string_bytes, sym}
use Rattle.mx_format.proofs.Places.{all_written, first_written, numbered}
use Rattle.mx_driver.specs.Shown.{shown_parcel}
use Rattle.mx_driver.proofs.view.View.add_parcels.Goals as goal

pub loop-number-init : goal.loop-number-init
loop-number-init g c =
    numbered (shown_parcel c.args.plan.now c.args.self.now g.C.Msg.Letter.parts) _ _ _ (string_bytes c.args.text.now)
    (c.into_iter-number-iterator.ensures.into_iter_gives ∙ c.parcels_from-number-items.ensures)

pub loop-number-preserved : goal.loop-number-preserved
loop-number-preserved g c =
    let line = shown_parcel c.args.plan.now c.args.self.now g.C.Msg.Letter.parts in
    c.loop-number.invariant ∙ first_written (λ x. line x.0 x.1) _ _ _ _ _ c.in-Some.ensures.steps c.in_ok-add_sent.ensures

pub returns : goal.returns
returns g c =
    let line = shown_parcel c.args.plan.now c.args.self.now g.C.Msg.Letter.parts in
    sym (c.loop-number.invariant ∙ all_written (λ x. line x.0 x.1) c.loop-number.number-iterator (string_bytes c.loop-number.text) c.in-None.ensures.steps.0)
