use Rattle.std.proofs.Common.{◌≡◌, ◌++◌, drop}
use Rattle.mx_driver.specs.Standstill.{waiters_from}
use Rattle.mx_driver.proofs.standstill.waiters.Given as goal

abbrev pub invariant-loop-index : goal.invariant-loop-index
invariant-loop-index g l =
    let from = waiters_from g.C.Exclusion.core g.C.Knowledge.knows in
    l.waiters.items ++ from l.index (drop l.index l.members) ≡ from 0 l.members
