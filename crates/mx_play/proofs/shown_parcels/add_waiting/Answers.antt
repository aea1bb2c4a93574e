use Rattle.std.proofs.Common.{◌∙◌, ap, string_bytes, sym}
use Rattle.std.specs.List.{enumerate_from}
use Rattle.mx_network.specs.Step.{ClusterState}
use Rattle.mx_format.specs.LetterTexts.{letter_text}
use Rattle.mx_format.proofs.Places.{all_written, first_written, numbered}
use Rattle.mx_play.specs.Views.{waiting_line}
use Rattle.mx_play.proofs.shown_parcels.add_waiting.Goals as goal

pub loop-number-init : goal.loop-number-init
loop-number-init g c =
    numbered (waiting_line g.C.Exclusion.core (letter_text g.C.Msg.Letter.parts) c.args.plan.now c.args.to.now c.args.state.now) _ _ _ (string_bytes c.args.text.now)
    (c.into_iter-number-iterator.ensures.into_iter_gives ∙ c.parcels_from-number-items.ensures
    ∙ ap (λ (k : ClusterState g.row.C.Denot g.row.C-Msg.Denot). enumerate_from 0 k.sent) c.cluster.ensures)

pub loop-number-preserved : goal.loop-number-preserved
loop-number-preserved g c =
    let line = waiting_line g.C.Exclusion.core (letter_text g.C.Msg.Letter.parts) c.args.plan.now c.args.to.now c.args.state.now in
    c.loop-number.invariant ∙ first_written (λ x. line x.0 x.1) _ _ _ _ _ c.in-Some.ensures.steps c.in_ok-add_parcel.ensures

pub returns : goal.returns
returns g c =
    let line = waiting_line g.C.Exclusion.core (letter_text g.C.Msg.Letter.parts) c.args.plan.now c.args.to.now c.args.state.now in
    sym (c.loop-number.invariant ∙ all_written (λ x. line x.0 x.1) c.loop-number.number-iterator (string_bytes c.loop-number.text) c.in-None.ensures.steps.0)
