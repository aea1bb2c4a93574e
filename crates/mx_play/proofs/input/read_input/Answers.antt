use Rattle.std.proofs.Common.{List, length, subst, ◌≤◌, ℕ}
use Rattle.mx_play.specs.Commands.{IsInputOf}
use Rattle.mx_play.specs.Lines.{ReadsNext}
use Rattle.mx_play.specs.declared.line_sources.LineRead.{LineRead}
use Rattle.mx_play.specs.declared.line_sources.TheConstants.{MAX_LINE}
use Rattle.mx_play.proofs.LinePlanLemmas.{read_line}
use Rattle.mx_play.proofs.input.read_input.Goals as goal

pub returns-in_ok-input_in-in-Line-clause-reads : goal.returns-in_ok-input_in-in-Line-clause-reads
returns-in_ok-input_in-in-Line-clause-reads g c =
    let p = c.args.plan.now in
    let of = c.in_ok-input_in-in-Line.field-0 in
    let lines = g.L.Lines.rest c.args.lines.now in
    let left = g.L.Lines.rest c.next.new.self in
    let buffer = c.next.new.line.items in
    read_line p lines left buffer of
    (subst (λ (r : LineRead). ReadsNext lines r buffer left) c.in-Line.is c.in_ok-next.ensures.reads)
    (subst (λ (l : List ℕ). length l ≤ MAX_LINE → IsInputOf p l of l) c.as_slice.ensures.value c.in_ok-input_in-in-Line.ensures.means)
