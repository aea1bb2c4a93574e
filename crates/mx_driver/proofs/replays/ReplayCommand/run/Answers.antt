use Rattle.std.proofs.Common.{Err, List, length, subst, sym}
use Rattle.mx_events.specs.declared.event.Event.{Event}
use Rattle.mx_cli.specs.Printing.{Report, sight}
use Rattle.mx_cli.specs.Requests.{view_of}
use Rattle.mx_cli.proofs.FrameLemmas.{prints_as}
use Rattle.mx_events.specs.Arguments.{AreEventsWithin}
use Rattle.mx_driver.specs.Viewed.{IsReplayed, IsShown, IsView}
use Rattle.mx_driver.proofs.ViewedLemmas.{is_view, no_view, replayed}
use Rattle.mx_driver.proofs.replays.ReplayCommand.run.Goals as goal

pub show-requires : goal.show-requires
show-requires g c =
    let p = c.args.plan.now in
    subst (λ (es : List Event). AreEventsWithin (length p.nodes) (length p.registers) es) (sym c.as_slice.ensures.value) c.in-Ok.ensures.within

pub returns-in-Ok : goal.returns-in-Ok
returns-in-Ok g c =
    let p = c.args.plan.now in
    let text = c.args.text.now in
    let options = view_of c.args.self.now.0 in
    let es = c.as_slice.result.now in
    let shown = λ (r : Report) (is : IsShown options p es r). replayed p text r options (is_view options p text c.in-Ok.events.items es c.in-Ok.ensures.gives c.as_slice.ensures.value r is) in
    record { prints = prints_as (IsShown options p es) (IsReplayed options p text) shown (sight g.O.Output c.args.out.now) (sight g.O.Output c.show.new.out) c.show.result c.show.ensures.prints }

pub returns-in-Err : goal.returns-in-Err
returns-in-Err g c =
    let p = c.args.plan.now in
    let text = c.args.text.now in
    let options = view_of c.args.self.now.0 in
    let out = sight g.O.Output c.args.out.now in
    record { prints = prints_as (IsView options p text) (IsReplayed options p text) (λ r. replayed p text r options) out out (Err c.from.result) (no_view options p text c.in-Err.fault out c.from.result c.in-Err.ensures.gives c.from.ensures) }
