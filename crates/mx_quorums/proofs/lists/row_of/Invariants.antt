use Rattle.std.proofs.Common.{take, ◌≡◌, length}
use Rattle.mx_quorums.specs.Rows.{Marks}
use Rattle.mx_quorums.proofs.lists.row_of.Given as goal

-- the row marks the members so far
abbrev pub invariant-loop-j : goal.invariant-loop-j
invariant-loop-j l = record {
  long : length l.row ≡ 21;
  marks : Marks l.row (take l.j-index l.set);
}
