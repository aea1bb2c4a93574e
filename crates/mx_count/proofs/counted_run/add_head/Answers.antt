use Rattle.std.proofs.Common.{◌≡◌, ◌++◌, [], ◌∷◌, OnOk, codes, subst, sym}
use Rattle.mx_count.specs.Counted.{head_rows}
use Rattle.mx_count.specs.Rows.{Row, rows_of}
use Rattle.mx_count.specs.declared.counted_run.EventSource.{EventSource}
use Rattle.mx_count.specs.declared.rows.Level.TheVariants.{First, Total}
use Rattle.mx_count.specs.declared.rows.Value.TheVariants.{Number}
use Rattle.mx_count.proofs.RowLemmas.{joined, joined_ok}
use Rattle.mx_count.proofs.counted_run.add_head.Goals as goal

pub returns-in_ok-add_row-in-Given-2 : goal.returns-in_ok-add_row-in-Given-2
returns-in_ok-add_row-in-Given-2 c =
    let rows = rows_of c.args.rows.now.items in
    let rows1 = rows_of c.add_row.new.rows.items in
    let rows2 = rows_of c.add_row-in-Given.new.rows.items in
    let rows3 = rows_of c.add_row-in-Given-2.new.rows.items in
    let events : Row = (First, codes "events", Number c.args.events) in
    let sections : Row = (Total, codes "sections", Number c.args.sections) in
    let parcels : Row = (Total, codes "parcels", Number c.args.parcels) in
    subst (λ (source : EventSource). OnOk c.add_row-in-Given-2.result (rows3 ≡ rows ++ head_rows source c.args.events c.args.sections c.args.parcels)) (sym c.in-Given.is)
    (joined_ok c.add_row-in-Given-2.result rows rows2 rows3 (events ∷ sections ∷ []) (parcels ∷ [])
    (joined rows rows1 rows2 (events ∷ []) (sections ∷ []) c.in_ok-add_row-in-Given.ensures c.in_ok-add_row-in-Given-2.ensures) c.add_row-in-Given-2.ensures)
