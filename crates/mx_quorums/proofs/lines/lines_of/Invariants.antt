use Rattle.std.proofs.Common.{ℕ, ◌<◌, ◌↔◌, ◌≡◌, length}
use Rattle.mx_quorums.specs.Rows.{IsMarked}
use Rattle.mx_quorums.specs.Shapes.{ShareLine}
use Rattle.mx_quorums.proofs.lines.lines_of.Given as goal

-- the nodes so far are marked that share a line with node i
abbrev pub invariant-loop-j : goal.invariant-loop-j
invariant-loop-j l = record {
  long : length l.row ≡ 21;
  marks : (m : ℕ) → IsMarked l.row m ↔ ((m < l.j) × ShareLine l.cols l.i m);
}
