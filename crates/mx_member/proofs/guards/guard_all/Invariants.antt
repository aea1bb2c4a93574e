use Rattle.std.proofs.Common.{◌≡◌, ◌≤◌, length, take}
use Rattle.mx_member.specs.Member.{guarded}
use Rattle.mx_member.proofs.guards.guard_all.Given as goal

abbrev pub invariant-loop-to : goal.invariant-loop-to
invariant-loop-to g l = record { sent : l.out ≡ guarded (take l.to-index l.to-items); few : length l.out ≤ l.to-index }
