use Rattle.std.proofs.Common.{◌≡◌, ◌∙◌, ◌++◌, [], ◌∷◌, List, ap, arith, codes, map}
use Rattle.mx_plan.specs.Text.{Text}
use Rattle.mx_format.specs.Parts.{word_by}
use Rattle.mx_count.specs.Counted.{counted, kind_row}
use Rattle.mx_count.specs.Kinds.{is_in}
use Rattle.mx_count.specs.Rows.{rows_of}
use Rattle.mx_count.specs.declared.kinds.Group.{Group}
use Rattle.mx_count.specs.declared.kinds.Group.TheVariants as group
use Rattle.mx_count.specs.declared.rows.Level.{Level}
use Rattle.mx_count.specs.declared.rows.Level.TheVariants.{Part, Kind}
use Rattle.mx_count.proofs.RowLemmas.{joined, joined_ok}
use Rattle.mx_count.proofs.parcel_rows.add_parcel_rows.Goals as goal

pub add_group-requires : goal.add_group-requires
add_group-requires g c = omega arith

pub add_group-requires-2 : goal.add_group-requires-2
add_group-requires-2 g c = omega arith

pub add_group-requires-3 : goal.add_group-requires-3
add_group-requires-3 g c = omega arith

pub add_group-requires-4 : goal.add_group-requires-4
add_group-requires-4 g c = omega arith

pub add_group-requires-5 : goal.add_group-requires-5
add_group-requires-5 g c = omega arith

pub add_group-requires-6 : goal.add_group-requires-6
add_group-requires-6 g c = omega arith

pub add_kinds-requires : goal.add_kinds-requires
add_kinds-requires g c = omega arith

pub returns : goal.returns
returns g c =
    let sent = c.args.cluster.now.sent in
    let kinds = word_by g.C.Msg.Letter.parts in
    let row = λ (level : Level) (name : Text) (of : Group). counted level name (is_in kinds of) sent in
    let rows = rows_of c.args.rows.now.items in
    let rows1 = rows_of c.add_group.new.rows.items in
    let rows2 = rows_of c.add_kinds.new.rows.items in
    let rows3 = rows_of c.add_group-2.new.rows.items in
    let rows4 = rows_of c.add_group-3.new.rows.items in
    let rows5 = rows_of c.add_group-4.new.rows.items in
    let rows6 = rows_of c.add_group-5.new.rows.items in
    let rows7 = rows_of c.add_group-6.new.rows.items in
    let result = c.add_group-6.result in
    let letters = row Part (codes "letters") group.Letters in
    let own = row Part (codes "own") group.Own in
    let gossip = row Part (codes "gossip") group.Gossip in
    let want = row Kind (codes "want") group.Want in
    let base = row Kind (codes "base") group.Base in
    let records = row Kind (codes "records") group.Records in
    let words = map (kind_row kinds sent) g.C.Msg.Letter.words in
    let by_kind : rows2 ≡ rows1 ++ words = c.in_ok-add_kinds.ensures ∙ ap (λ (ws : List Text). rows1 ++ map (kind_row kinds sent) ws) c.words.ensures in
    let first = joined rows rows1 rows2 (letters ∷ []) words c.in_ok-add_group.ensures by_kind in
    let two = joined rows2 rows3 rows4 (own ∷ []) (gossip ∷ []) c.in_ok-add_group-2.ensures c.in_ok-add_group-3.ensures in
    let three = joined rows2 rows4 rows5 (own ∷ gossip ∷ []) (want ∷ []) two c.in_ok-add_group-4.ensures in
    let four = joined rows2 rows5 rows6 (own ∷ gossip ∷ want ∷ []) (base ∷ []) three c.in_ok-add_group-5.ensures in
    let five = joined_ok result rows2 rows6 rows7 (own ∷ gossip ∷ want ∷ base ∷ []) (records ∷ []) four c.add_group-6.ensures in
    joined_ok result rows rows2 rows7 (letters ∷ words) (own ∷ gossip ∷ want ∷ base ∷ records ∷ []) first five
