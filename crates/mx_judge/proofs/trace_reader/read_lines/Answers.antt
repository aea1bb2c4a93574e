use Rattle.std.proofs.Common.{◌≡◌, ◌∙◌, ◌+◌, ◌<◌, Err, Ok, ap, arith, length, refl, subst, sym}
use Rattle.std.specs.List.{before_first}
use Rattle.mx_plan.specs.Text.{Text}
use Rattle.mx_judge.specs.Faults.{line_fault}
use Rattle.mx_judge.specs.Listed.{listed, nothing}
use Rattle.mx_judge.specs.Traces.{GivesTrace, RefusesItem, line_item, with_item}
use Rattle.mx_judge.specs.declared.faults.ItemFault.{ItemFault}
use Rattle.mx_judge.specs.declared.faults.TraceFault.{TraceFault}
use Rattle.mx_judge.proofs.ItemLemmas.{added, gives_refused, refused}
use Rattle.mx_judge.proofs.LineLemmas.{from_lines, is_feed, less_after, line_refused, lines_end, lines_go_on, within_text}
use Rattle.mx_judge.proofs.trace_reader.read_lines.Goals as goal

pub returns-in-Err : goal.returns-in-Err
returns-in-Err c =
    let p = c.args.plan.now in
    let t = listed c.lines.trace in
    let k = c.lines.number in
    let rest = c.lines.rest.now in
    let fault = c.in-Err.fault in
    let found = refused k t c.line_in-item.result (line_item p c.split_line.result.0.now t.names) fault c.line_in-item.ensures c.in-Err.ensures.err in
    let here = subst (λ (l : Text). RefusesItem (with_item k t (line_item p l t.names)) fault) c.split_line.ensures.line found in
    let named = λ (e : ItemFault) (is : with_item k t (line_item p (before_first is_feed rest) t.names) ≡ Err e). c.lines.invariant.same ∙ line_refused p t k rest e is in
    subst (λ (f : TraceFault). GivesTrace (from_lines p nothing 1 c.args.text.now) (Err f)) (sym c.of_line.ensures)
    (gives_refused line_fault k (from_lines p nothing 1 c.args.text.now) (with_item k t (line_item p (before_first is_feed rest) t.names)) fault refl named here)

pub returns-then-line-rest : goal.returns-then-line-rest
returns-then-line-rest c =
    let p = c.args.plan.now in
    let t = listed c.lines.trace in
    let more = listed c.add_item.new.trace in
    let line = c.split_line.result.0.now in
    let is = added c.lines.number t more c.line_in-item.result (line_item p line t.names) c.line_in-item.ensures c.in_default.ensures.ok in
    let here = subst (λ (l : Text). with_item c.lines.number t (line_item p l t.names) ≡ Ok more) c.split_line.ensures.line is in
    c.lines.invariant.same ∙ lines_end p t c.lines.number c.lines.rest.now more (ap length (sym c.split_line.ensures.line) ∙ c.if-line-rest.true) here

pub lines-preserved : goal.lines-preserved
lines-preserved c =
    let p = c.args.plan.now in
    let t = listed c.lines.trace in
    let more = listed c.add_item.new.trace in
    let rest = c.lines.rest.now in
    let line = c.split_line.result.0.now in
    let is = added c.lines.number t more c.line_in-item.result (line_item p line t.names) c.line_in-item.ensures c.in_default.ensures.ok in
    let here = subst (λ (l : Text). with_item c.lines.number t (line_item p l t.names) ≡ Ok more) c.split_line.ensures.line is in
    let same : length line ≡ length (before_first is_feed rest) = ap length c.split_line.ensures.line in
    let less : length (before_first is_feed rest) < length rest = omega (arith, within_text rest, same) in
    let after = ap length c.split_line.ensures.rest in record {
      same = c.lines.invariant.same ∙ lines_go_on p t more c.lines.number rest less here
          ∙ ap (from_lines p more (c.lines.number + 1)) (sym c.split_line.ensures.rest);
      few = omega (arith, after, less_after rest less);
    }
