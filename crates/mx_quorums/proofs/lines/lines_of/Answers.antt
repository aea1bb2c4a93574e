use Rattle.std.proofs.Common.{arith, length-set}
use Rattle.mx_quorums.specs.Shapes.{ShareLine}
use Rattle.mx_quorums.proofs.RowLemmas.{one_more_mark}
use Rattle.mx_quorums.proofs.lines.lines_of.Goals as goal

pub loop-j-preserved : goal.loop-j-preserved
loop-j-preserved c = record {
  long = simp length-set c.loop-j.invariant.long;
  marks = one_more_mark (ShareLine c.args.cols c.args.i) c.loop-j.row c.loop-j.j c.share_line.result (omega arith) c.loop-j.invariant.marks c.share_line.ensures;
}
