use Rattle.std.proofs.Common.{List, Some, ℕ, subst}
use Rattle.mx_cli.specs.Reading.{Reads}
use Rattle.mx_play.proofs.LinePlanLemmas.{left_on_ok, plan_on_ok, stated_memory}
use Rattle.mx_play.proofs.ExpectationLemmas.{whatever}
use Rattle.mx_play.proofs.StopLemmas.{no_other, readable_after}
use Rattle.mx_play.proofs.session_files.first_plan.Goals as goal

pub returns-in-Line-clause-plan : goal.returns-in-Line-clause-plan
returns-in-Line-clause-plan g c =
    plan_on_ok (g.L.Lines.rest c.next.new.self) c.next.new.line.items (g.L.Lines.rest c.args.lines.now) c.in_ok-next.field-0 c.in-Line.is c.in_ok-next.ensures.reads c.plan_in.result
    (subst (λ (l : List ℕ). Reads (Some l) c.plan_in.result) c.as_slice.ensures.value c.plan_in.ensures.read)

pub returns-in-Line-clause-left : goal.returns-in-Line-clause-left
returns-in-Line-clause-left g c =
    left_on_ok (g.L.Lines.rest c.next.new.self) c.next.new.line.items (g.L.Lines.rest c.args.lines.now) c.in_ok-next.field-0 c.in-Line.is c.in_ok-next.ensures.reads c.plan_in.result

pub returns-in-Line-clause-stops : goal.returns-in-Line-clause-stops
returns-in-Line-clause-stops g c =
    λ readable stated. stated_memory (g.L.Lines.rest c.next.new.self) c.next.new.line.items (g.L.Lines.rest c.args.lines.now) c.in_ok-next.field-0 c.in-Line.is c.in_ok-next.ensures.reads stated c.plan_in.result
    (subst (λ (l : List ℕ). Reads (Some l) c.plan_in.result) c.as_slice.ensures.value c.plan_in.ensures.read)

pub returns-in-Line-clause-readable : goal.returns-in-Line-clause-readable
returns-in-Line-clause-readable g c =
    λ readable. whatever c.plan_in.result (readable_after c.in_ok-next.field-0 (g.L.Lines.readable c.args.lines.now) (g.L.Lines.readable c.next.new.self) readable c.in_ok-next.ensures.counts)

pub returns-clause-stops : goal.returns-clause-stops
returns-clause-stops g c =
    λ readable stated. absurd (no_other c.in_ok-next.field-0 (g.L.Lines.rest c.args.lines.now) (g.L.Lines.rest c.next.new.self) (g.L.Lines.readable c.args.lines.now) (g.L.Lines.readable c.next.new.self) c.next.new.line.items
    c.in-TooLong.is readable stated c.in_ok-next.ensures.reads c.in_ok-next.ensures.counts)
