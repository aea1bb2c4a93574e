use Rattle.std.proofs.Common.{below_more}
use Rattle.mx_quorums.proofs.check.check_pairs.Goals as goal

pub returns-in-Some : goal.returns-in-Some
returns-in-Some c =
    let first = c.in-Some.ensures in
    (c.requires.own, ((c.loop-i-test.true, (c.in-Some.j, first.0, first.1), (λ k lt w. w.2 (c.loop-i.invariant k lt w.0 w.1))), first))

pub loop-i-preserved : goal.loop-i-preserved
loop-i-preserved c = below_more _ _ c.loop-i.invariant c.in_default.ensures
