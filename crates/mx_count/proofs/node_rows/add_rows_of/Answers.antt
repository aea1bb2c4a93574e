use Rattle.std.proofs.Common.{◌≡◌, ◌∙◌, ◌++◌, ℕ, List, [], ◌∷◌, OnOk, ap, codes, subst}
use Rattle.std.specs.List.{count_by}
use Rattle.mx_trace.specs.declared.outcome.Entry.{Entry}
use Rattle.mx_count.specs.NodeCounts.{entries_of, is_delivered_to, is_entry_of, is_refusal_of, received_of, refused_of, sent_of}
use Rattle.mx_count.specs.Rows.{Row, rows_of}
use Rattle.mx_count.specs.declared.rows.Level.TheVariants.{Next, Node}
use Rattle.mx_count.specs.declared.rows.Value.TheVariants.{Number}
use Rattle.mx_count.proofs.RowLemmas.{joined, joined_ok}
use Rattle.mx_count.proofs.node_rows.add_rows_of.Goals as goal

pub returns : goal.returns
returns g c =
    let cluster = c.args.cluster.now in
    let node = c.args.node in
    let same = c.trace-trace.ensures.value in
    let rows = rows_of c.args.rows.now.items in
    let rows1 = rows_of c.add_row.new.rows.items in
    let rows2 = rows_of c.add_row-2.new.rows.items in
    let rows3 = rows_of c.add_row-3.new.rows.items in
    let rows4 = rows_of c.add_row-4.new.rows.items in
    let entered : ℕ → Row = λ n. (Node node, codes "sections", Number n) in
    let sent : ℕ → Row = λ n. (Next, codes "sent", Number n) in
    let received : ℕ → Row = λ n. (Next, codes "received", Number n) in
    let refused : ℕ → Row = λ n. (Next, codes "refused", Number n) in
    let one : rows1 ≡ rows ++ entered (entries_of node cluster) ∷ [] =
    c.in_ok-add_row.ensures ∙ ap (λ (n : ℕ). rows ++ entered n ∷ []) (c.entries_of.ensures ∙ ap (λ (es : List Entry). count_by (is_entry_of node) es) same) in
    let two : rows2 ≡ rows1 ++ sent (sent_of node cluster) ∷ [] = c.in_ok-add_row-2.ensures ∙ ap (λ (n : ℕ). rows1 ++ sent n ∷ []) c.count_parcels.ensures in
    let three : rows3 ≡ rows2 ++ received (received_of node cluster) ∷ [] =
    c.in_ok-add_row-3.ensures ∙ ap (λ (n : ℕ). rows2 ++ received n ∷ []) (c.received_of.ensures ∙ ap (λ (es : List Entry). count_by (λ entry. is_delivered_to node cluster.sent entry.event) es) same) in
    let four : OnOk c.add_row-4.result (rows4 ≡ rows3 ++ refused (refused_of node cluster) ∷ []) =
    subst (λ (n : ℕ). OnOk c.add_row-4.result (rows4 ≡ rows3 ++ refused n ∷ [])) (c.refused_of.ensures ∙ ap (λ (es : List Entry). count_by (is_refusal_of node) es) same) c.add_row-4.ensures in
    let first_two = joined rows rows1 rows2 _ _ one two in
    let first_three = joined rows rows2 rows3 _ _ first_two three in
    joined_ok c.add_row-4.result rows rows3 rows4 _ _ first_three four
