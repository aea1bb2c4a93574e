use Rattle.std.proofs.Common.{◌∙◌, ◌++◌, [], ◌∷◌, ℕ, ap, codes, map}
use Rattle.mx_trace.specs.Causes.{causes}
use Rattle.mx_count.specs.Counted.{cause_row, counted}
use Rattle.mx_count.specs.Rows.{rows_of}
use Rattle.mx_count.specs.Waits.{is_refusal}
use Rattle.mx_count.specs.declared.rows.Level.TheVariants.{Total}
use Rattle.mx_count.specs.declared.rows.Value.TheVariants.{Number}
use Rattle.mx_count.proofs.RowLemmas.{joined_ok}
use Rattle.mx_count.proofs.refusal_rows.add_refusal_rows.Goals as goal

pub returns : goal.returns
returns c =
    let trace = c.args.trace.now in
    let rows = rows_of c.args.rows.now.items in
    joined_ok c.add_causes.result rows (rows_of c.add_row.new.rows.items) (rows_of c.add_causes.new.rows.items)
    (counted Total (codes "refused") (λ entry. is_refusal entry.outcome) trace ∷ []) (map (cause_row trace) causes)
    (c.in_ok-add_row.ensures ∙ ap (λ (n : ℕ). rows ++ (Total, codes "refused", Number n) ∷ []) c.refusals_in.ensures) c.add_causes.ensures
