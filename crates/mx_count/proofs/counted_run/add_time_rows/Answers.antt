use Rattle.std.proofs.Common.{◌≡◌, ◌∙◌, ◌++◌, ℕ, [], ◌∷◌, OnOk, ap, codes, subst}
use Rattle.mx_count.specs.Measures.{measured}
use Rattle.mx_count.specs.Rows.{Row, rows_of, spread_of}
use Rattle.mx_count.specs.Waits.{longest_wait}
use Rattle.mx_count.specs.declared.measures.Measure.TheVariants.{Response, Delay}
use Rattle.mx_count.specs.declared.rows.Level.TheVariants.{Total}
use Rattle.mx_count.specs.declared.rows.Value.{Value}
use Rattle.mx_count.specs.declared.rows.Value.TheVariants.{Number}
use Rattle.mx_count.proofs.RowLemmas.{joined, joined_ok}
use Rattle.mx_count.proofs.counted_run.add_time_rows.Goals as goal

pub returns : goal.returns
returns g c =
    let cluster = c.args.cluster.now in
    let rows = rows_of c.args.rows.now.items in
    let rows1 = rows_of c.add_row.new.rows.items in
    let rows2 = rows_of c.add_row-2.new.rows.items in
    let rows3 = rows_of c.add_row-3.new.rows.items in
    let wait : ℕ → Row = λ n. (Total, codes "longest wait", Number n) in
    let response : Value → Row = λ v. (Total, codes "response time", v) in
    let delay : Value → Row = λ v. (Total, codes "synchronization delay", v) in
    let longest = longest_wait cluster.trace in
    let responses = spread_of (measured Response cluster.sent cluster.trace) in
    let delays = spread_of (measured Delay cluster.sent cluster.trace) in
    joined_ok c.add_row-3.result rows rows2 rows3 (wait longest ∷ response responses ∷ []) (delay delays ∷ [])
    (joined rows rows1 rows2 (wait longest ∷ []) (response responses ∷ [])
    (c.in_ok-add_row.ensures ∙ ap (λ (n : ℕ). rows ++ wait n ∷ []) (c.longest_wait.ensures ∙ ap longest_wait c.trace.ensures.value))
    (c.in_ok-add_row-2.ensures ∙ ap (λ (v : Value). rows1 ++ response v ∷ []) c.in_ok-response.ensures))
    (subst (λ (v : Value). OnOk c.add_row-3.result (rows3 ≡ rows2 ++ delay v ∷ [])) c.in_ok-delay.ensures c.add_row-3.ensures)
