use Rattle.std.proofs.Common.{sym, ◌∙◌, arith}
use Rattle.mx_stamps.proofs.Choices.{not_both}
use Rattle.mx_trees.specs.Growth.{is_reached}
use Rattle.mx_trees.proofs.Ways.{reached_is_joined, joined_is_reached}
use Rattle.mx_trees.proofs.edges.unjoined.Goals as goal

pub returns-then-not-has-clause-some : goal.returns-then-not-has-clause-some
returns-then-not-has-clause-some c =
    let grown = c.from-growth.ensures.grown in
    let closed = c.from-growth.ensures.closed in (
      c.loop-i-test.true,
      (λ k h. reached_is_joined c.args.edges.now 0 c.from-growth.result grown k (c.loop-i.invariant k h)),
      (λ j. not_both (is_reached c.from-growth.result c.loop-i.i) (joined_is_reached c.args.edges.now 0 c.from-growth.result grown closed c.loop-i.i j) (sym c.has.ensures ∙ c.if-not-has.true)),
    )

pub returns-clause-none : goal.returns-clause-none
returns-clause-none c = λ k h. reached_is_joined c.args.edges.now 0 c.from-growth.result c.from-growth.ensures.grown k (c.loop-i.invariant k (omega arith))
