use Rattle.std.proofs.Common.{subst, sym, ◌∙◌, Option, Result}
use Rattle.serde_json.specs.View.{view}
use Rattle.mx_judge.specs.Members.{AnswersItem}
use Rattle.mx_judge.specs.declared.entry_reader.Item.{Item}
use Rattle.mx_judge.specs.declared.faults.ItemFault.{ItemFault}
use Rattle.mx_judge.proofs.ItemLemmas.{line_read, line_unread}
use Rattle.mx_judge.proofs.trace_reader.line_in.Goals as goal

pub returns-in-Ok : goal.returns-in-Ok
returns-in-Ok c =
    let p = c.args.plan.now in
    let line = c.args.line.now in
    let read = line_read p line (view c.in-Ok.value) (sym c.is_blank_line.ensures ∙ c.if-is_blank_line.false) (sym c.is_marked.ensures ∙ c.if-is_marked.false) c.in-Ok.ensures.ok c.args.names.now in
    subst (λ (wanted : Result (Option Item) ItemFault). AnswersItem wanted c.item_in.result) read c.item_in.ensures

pub returns-in-Err : goal.returns-in-Err
returns-in-Err c = line_unread c.args.plan.now c.args.line.now c.in-Err.fault (sym c.is_blank_line.ensures ∙ c.if-is_blank_line.false) (sym c.is_marked.ensures ∙ c.if-is_marked.false) c.in-Err.ensures.err c.args.names.now
