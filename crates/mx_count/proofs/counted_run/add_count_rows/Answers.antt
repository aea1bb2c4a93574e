use Rattle.std.proofs.Common.{◌≡◌, ◌∙◌, ◌++◌, [], ◌∷◌, List, ap, ap₂, arith, codes, length}
use Rattle.std.specs.List.{count_by}
use Rattle.mx_trace.specs.Trace.{is_entry}
use Rattle.mx_trace.specs.declared.outcome.Entry.{Entry}
use Rattle.mx_format.specs.Parts.{word_by}
use Rattle.mx_count.specs.Counted.{parcel_rows, refusal_rows, time_rows}
use Rattle.mx_count.specs.Kinds.{is_in}
use Rattle.mx_count.specs.NodeCounts.{node_rows}
use Rattle.mx_count.specs.Rows.{Row, rows_of, share_of}
use Rattle.mx_count.specs.declared.kinds.Group.TheVariants.{Letters}
use Rattle.mx_count.specs.declared.rows.Level.TheVariants.{Total}
use Rattle.mx_count.specs.declared.rows.Value.{Value}
use Rattle.mx_count.proofs.RowLemmas.{joined, joined_ok}
use Rattle.mx_count.proofs.counted_run.add_count_rows.Goals as goal

pub add_node_rows-requires : goal.add_node_rows-requires
add_node_rows-requires g c = omega arith

pub add_parcel_rows-requires : goal.add_parcel_rows-requires
add_parcel_rows-requires g c = omega arith

pub add_refusal_rows-requires : goal.add_refusal_rows-requires
add_refusal_rows-requires g c = omega arith

pub add_time_rows-requires : goal.add_time_rows-requires
add_time_rows-requires g c = omega arith

pub count_parcels-letters-requires : goal.count_parcels-letters-requires
count_parcels-letters-requires g c = omega arith

pub trace-requires : goal.trace-requires
trace-requires g c = omega arith

pub trace-requires-2 : goal.trace-requires-2
trace-requires-2 g c = omega arith

pub returns : goal.returns
returns g c =
    let cluster = c.args.cluster.now in
    let kinds = word_by g.C.Msg.Letter.parts in
    let rows = rows_of c.args.rows.now.items in
    let rows1 = rows_of c.add_parcel_rows.new.rows.items in
    let rows2 = rows_of c.add_row.new.rows.items in
    let rows3 = rows_of c.add_refusal_rows.new.rows.items in
    let rows4 = rows_of c.add_time_rows.new.rows.items in
    let rows5 = rows_of c.add_node_rows.new.rows.items in
    let parcels = parcel_rows kinds g.C.Msg.Letter.words cluster.sent in
    let row : Value → Row = λ v. (Total, codes "letters for each section", v) in
    let share = share_of (count_by (is_in kinds Letters) cluster.sent) (count_by is_entry cluster.trace) in
    let shared : rows2 ≡ rows1 ++ row share ∷ [] =
    c.in_ok-add_row.ensures ∙ ap (λ (v : Value). rows1 ++ row v ∷ []) (c.share_of-share.ensures
    ∙ ap₂ share_of c.count_parcels-letters.ensures (c.entries_in.ensures ∙ ap (λ (es : List Entry). count_by is_entry es) c.trace.ensures.value)) in
    let refused : rows3 ≡ rows2 ++ refusal_rows cluster.trace = c.in_ok-add_refusal_rows.ensures ∙ ap (λ (es : List Entry). rows2 ++ refusal_rows es) c.trace-2.ensures.value in
    let first = joined rows rows1 rows3 parcels (row share ∷ refusal_rows cluster.trace) c.in_ok-add_parcel_rows.ensures
    (joined rows1 rows2 rows3 (row share ∷ []) (refusal_rows cluster.trace) shared refused) in
    let timed = joined rows rows3 rows4 (parcels ++ row share ∷ refusal_rows cluster.trace) (time_rows cluster.sent cluster.trace) first c.in_ok-add_time_rows.ensures in
    joined_ok c.add_node_rows.result rows rows4 rows5 (parcels ++ row share ∷ refusal_rows cluster.trace ++ time_rows cluster.sent cluster.trace)
    (node_rows cluster (length c.args.plan.now.nodes)) timed c.add_node_rows.ensures
