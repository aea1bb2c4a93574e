use Rattle.std.proofs.Common.{List, length, subst, sym}
use Rattle.mx_events.specs.declared.event.Event.{Event}
use Rattle.mx_cli.specs.Printing.{Prints, sight}
use Rattle.mx_cli.specs.Requests.{part_of}
use Rattle.mx_cli.proofs.FrameLemmas.{prints_as}
use Rattle.mx_events.specs.Arguments.{AreEventsWithin}
use Rattle.mx_picture.specs.Pictures.{IsPictured, IsRunDrawn}
use Rattle.mx_picture.proofs.PictureLemmas.{listed, unlisted}
use Rattle.mx_picture.proofs.command.draw_text.Goals as goal

pub draw-requires : goal.draw-requires
draw-requires g c =
    let p = c.args.plan.now in
    subst (λ (es : List Event). AreEventsWithin (length p.nodes) (length p.registers) es) (sym c.as_slice.ensures.value)
    c.in-Ok.ensures.within

pub returns-in-Ok : goal.returns-in-Ok
returns-in-Ok g c =
    let p = c.args.plan.now in
    let part = part_of c.args.picture.now.part in
    let es = c.in-Ok.events.items in
    let o = sight g.O.Output c.args.out.now in
    let n = sight g.O.Output c.draw.new.out in
    let drawn = subst (λ (l : List Event). Prints (IsRunDrawn part p l) o n c.draw.result) c.as_slice.ensures.value c.draw.ensures.prints in
    record {
      prints = prints_as (IsRunDrawn part p es) (IsPictured part p c.args.text.now) (listed part p c.args.text.now es c.in-Ok.ensures.gives) o n c.draw.result drawn;
    }

pub returns-in-Err : goal.returns-in-Err
returns-in-Err g c = record {
  prints = unlisted (part_of c.args.picture.now.part) c.args.plan.now c.args.text.now c.in-Err.fault (sight g.O.Output c.args.out.now) c.from.result c.in-Err.ensures.gives c.from.ensures;
}
