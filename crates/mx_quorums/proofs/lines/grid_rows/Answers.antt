use Rattle.std.proofs.Common.{arith}
use Rattle.mx_quorums.specs.Shapes.{IsInLine}
use Rattle.mx_quorums.proofs.RowLemmas.{no_row, one_more_row}
use Rattle.mx_quorums.proofs.lines.grid_rows.Goals as goal

pub loop-i-init : goal.loop-i-init
loop-i-init c = no_row (IsInLine c.args.nodes c.args.cols)

pub loop-i-preserved : goal.loop-i-preserved
loop-i-preserved c =
    one_more_row (IsInLine c.args.nodes c.args.cols) c.loop-i.rows c.loop-i.i c.lines_of.result (omega arith) c.loop-i.invariant c.lines_of.ensures
