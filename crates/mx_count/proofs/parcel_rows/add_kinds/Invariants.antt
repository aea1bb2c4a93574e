use Rattle.std.proofs.Common.{◌≡◌, ◌++◌, map, take}
use Rattle.mx_format.specs.Parts.{word_by}
use Rattle.mx_count.specs.Counted.{kind_row}
use Rattle.mx_count.specs.Rows.{rows_of}
use Rattle.mx_count.proofs.parcel_rows.add_kinds.Given as goal

abbrev pub invariant-loop-word : goal.invariant-loop-word
invariant-loop-word g l =
    rows_of l.rows.items ≡ rows_of l.fn.rows.items ++ map (kind_row (word_by g.C.Msg.Letter.parts) l.cluster.sent) (map (λ word. word.now) (take l.word-index l.words))
