use Rattle.std.proofs.Common.{◌∙◌, ◌++◌, ℕ, List, [], ap, ap₂, arith, if◌then◌else◌, length}
use Rattle.std.specs.List.{count_by}
use Rattle.mx_trace.specs.Trace.{is_entry}
use Rattle.mx_trace.specs.declared.outcome.Entry.{Entry}
use Rattle.mx_format.specs.Parts.{word_by}
use Rattle.mx_count.specs.Counted.{count_rows, head_rows}
use Rattle.mx_count.specs.Rows.{rows_of}
use Rattle.mx_count.proofs.RowLemmas.{joined_ok}
use Rattle.mx_count.proofs.counted_run.add_rows.Goals as goal

pub add_details-requires : goal.add_details-requires
add_details-requires g c = omega arith

pub sent-requires : goal.sent-requires
sent-requires g c = omega arith

pub trace-requires : goal.trace-requires
trace-requires g c = omega arith

pub returns : goal.returns
returns g c =
    let cluster = c.args.cluster.now in
    let options = c.args.options in
    let rows = rows_of c.args.rows.now.items in
    let head = head_rows options.source c.args.events in
    let entered = c.entries_in-entered.ensures ∙ ap (λ (es : List Entry). count_by is_entry es) c.trace.ensures.value in
    joined_ok c.add_details.result rows (rows_of c.add_head.new.rows.items) (rows_of c.add_details.new.rows.items) (head (count_by is_entry cluster.trace) (length cluster.sent))
    (if options.has_counts then count_rows (word_by g.C.Msg.Letter.parts) g.C.Msg.Letter.words c.args.plan.now cluster else [])
    (c.in_ok-add_head.ensures ∙ ap₂ (λ (n m : ℕ). rows ++ head n m) entered c.sent.ensures) c.add_details.ensures
