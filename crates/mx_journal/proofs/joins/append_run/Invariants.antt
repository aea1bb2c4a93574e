use Rattle.std.proofs.Common.{◌≡◌, ◌++◌, take}
use Rattle.mx_journal.proofs.joins.append_run.Given as goal

abbrev pub invariant-loop-place : goal.invariant-loop-place
invariant-loop-place l = take 1 l.more ++ l.rest ≡ take l.place l.more
