use Rattle.std.proofs.Common.{arith}
use Rattle.std.specs.Borrow.{Bor}
use Rattle.mx_plan.specs.Text.{Text}
use Rattle.mx_format.specs.Parts.{word_by}
use Rattle.mx_count.specs.Counted.{kind_row}
use Rattle.mx_count.specs.Rows.{rows_of}
use Rattle.mx_count.proofs.RowLemmas.{mapped_more}
use Rattle.mx_count.proofs.parcel_rows.add_kinds.Goals as goal

pub add_group-requires : goal.add_group-requires
add_group-requires g c = omega arith

pub loop-word-preserved : goal.loop-word-preserved
loop-word-preserved g c =
    mapped_more (kind_row (word_by g.C.Msg.Letter.parts) c.args.cluster.now.sent) (λ (word : Bor Text). word.now) (rows_of c.args.rows.now.items) (rows_of c.loop-word.rows.items)
    (rows_of c.add_group.new.rows.items) c.args.words.now c.loop-word.word-index _ c.loop-word-test.true c.loop-word.invariant c.in_ok-add_group.ensures
