use Rattle.std.proofs.Common.{None, Option, Some, refl, rules, subst}
use Rattle.std.specs.Str.Lines.{lines}
use Rattle.mx_cli.specs.Printing.{sight}
use Rattle.mx_shown_scripts.specs.Happenings.{HasDone}
use Rattle.mx_scripts.specs.declared.line_failure.RefusedLine.{RefusedLine}
use Rattle.mx_shown_scripts.proofs.ShownLemmas.{can_show, lacks_all, prints_done}
use Rattle.mx_shown_scripts.proofs.replay_script.show.Goals as goal

pub returns-in_err-refused : goal.returns-in_err-refused
returns-in_err-refused g c = record { prints = lacks_all _ (sight g.O.Output c.args.out.now) c.from_residual.result c.from_residual.ensures.1 }

pub show_refused-requires : goal.show_refused-requires
show_refused-requires g c = (
  first_of (search rules, search (rules, c.requires-raw)),
  (
    c.requires.members,
    can_show g.C.Exclusion.core g.C.Msg.Letter.parts c.args.showing.now.plan.now c.args.showing.now.view.now g.C.Knowledge.knows c.args.script.now c.args.start.now c.args.state.now c.args.start.now
        c.requires.same refl c.do_lines.new.happened.items c.as_slice.result.now c.as_slice.ensures.value c.in_ok-refused.refused c.in_ok-refused.ensures,
  ),
)

pub returns-in-Some : goal.returns-in-Some
returns-in-Some g c =
    let core = g.C.Exclusion.core in
    let p = c.args.showing.now.plan.now in
    let does = subst (λ (o : Option RefusedLine). HasDone core p (lines c.args.script.now) c.args.state.now c.do_lines.new.happened.items o) c.in-Some.is c.in_ok-refused.ensures in
    record {
      prints = prints_done core g.C.Msg.Letter.parts p c.args.showing.now.view.now g.C.Knowledge.knows c.args.script.now c.args.start.now c.args.state.now c.args.start.now c.requires.same refl
          c.do_lines.new.happened.items c.as_slice.result.now c.as_slice.ensures.value (Some c.in-Some.line) does (sight g.O.Output c.args.out.now) (sight g.O.Output c.show_refused.new.out)
          c.show_refused.result c.show_refused.ensures.prints;
    }

pub print-requires : goal.print-requires
print-requires g c = (
  first_of (search rules, search (rules, c.requires-raw)),
  (
    c.requires.members,
    can_show g.C.Exclusion.core g.C.Msg.Letter.parts c.args.showing.now.plan.now c.args.showing.now.view.now g.C.Knowledge.knows c.args.script.now c.args.start.now c.args.state.now c.args.start.now
        c.requires.same refl c.do_lines.new.happened.items c.as_slice-in-None.result.now c.as_slice-in-None.ensures.value c.in_ok-refused.refused c.in_ok-refused.ensures,
  ),
)

pub returns : goal.returns
returns g c =
    let core = g.C.Exclusion.core in
    let p = c.args.showing.now.plan.now in
    let does = subst (λ (o : Option RefusedLine). HasDone core p (lines c.args.script.now) c.args.state.now c.do_lines.new.happened.items o) c.in-None.is c.in_ok-refused.ensures in
    record {
      prints = prints_done core g.C.Msg.Letter.parts p c.args.showing.now.view.now g.C.Knowledge.knows c.args.script.now c.args.start.now c.args.state.now c.args.start.now c.requires.same refl
          c.do_lines.new.happened.items c.as_slice-in-None.result.now c.as_slice-in-None.ensures.value None does (sight g.O.Output c.args.out.now) (sight g.O.Output c.print.new.out)
          c.print.result c.print.ensures.prints;
    }
