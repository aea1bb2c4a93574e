use Rattle.std.proofs.Common.{arith}
use Rattle.mx_quorums.specs.Shapes.{IsShifted}
use Rattle.mx_quorums.proofs.RowLemmas.{no_row, one_more_row}
use Rattle.mx_quorums.proofs.shifts.plane_rows.Goals as goal

pub loop-i-init : goal.loop-i-init
loop-i-init c = no_row (IsShifted c.args.n c.args.differences.now)

pub loop-i-preserved : goal.loop-i-preserved
loop-i-preserved c =
    one_more_row (IsShifted c.args.n c.args.differences.now) c.loop-i.rows c.loop-i.i c.shifted.result (omega arith) c.loop-i.invariant c.shifted.ensures
