use Rattle.std.proofs.Common.{ℕ, ◌↔◌, take, ◌≡◌, length}
use Rattle.mx_quorums.specs.Rows.{IsMarked}
use Rattle.mx_quorums.specs.Shapes.{IsShifted}
use Rattle.mx_quorums.proofs.shifts.shifted.Given as goal

-- the row marks node i plus each difference so far
abbrev pub invariant-loop-d : goal.invariant-loop-d
invariant-loop-d l = record {
  long : length l.row ≡ 21;
  marks : (j : ℕ) → IsMarked l.row j ↔ IsShifted l.n (take l.d-index l.differences) l.i j;
}
