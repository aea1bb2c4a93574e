use Rattle.std.proofs.Common.{below_more, arith}
use Rattle.mx_quorums.proofs.check.first_apart.Goals as goal

pub loop-j-preserved : goal.loop-j-preserved
loop-j-preserved c = below_more _ _ c.loop-j.invariant (c.in-Some.field-0, c.in-Some.ensures.1.0, c.in-Some.ensures.1.1)

pub loop-j-init : goal.loop-j-init
loop-j-init c = λ m lt. absurd (omega (arith, lt))

pub returns : goal.returns
returns c = λ j lt. c.loop-j.invariant j (omega (arith, lt, c.loop-j-test.false))
