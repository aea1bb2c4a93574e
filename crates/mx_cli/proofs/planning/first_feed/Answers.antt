use Rattle.std.proofs.Common.{◌==◌, arith, sym, eq-eqb, get_or, length}
use Rattle.std.proofs.lemmas.List.Sums.{position_or_len_is}
use Rattle.mx_cli.proofs.planning.first_feed.Goals as goal

pub returns-then-b-eq10-clause-value : goal.returns-then-b-eq10-clause-value
returns-then-b-eq10-clause-value c =
    sym (position_or_len_is (λ b. b == 10) c.args.bytes.now c.loop-i.i 0 (omega arith) c.loop-i.invariant (λ _. eq-eqb (get_or c.args.bytes.now c.loop-i.i 0) 10 c.if-b-eq10.true))

pub returns-clause-value : goal.returns-clause-value
returns-clause-value c =
    sym (position_or_len_is (λ b. b == 10) c.args.bytes.now (length c.args.bytes.now) 0 (omega arith) (λ k lt. c.loop-i.invariant k (omega arith)) (λ lt. absurd (omega arith)))
