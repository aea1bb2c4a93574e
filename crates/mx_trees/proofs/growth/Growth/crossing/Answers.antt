use Rattle.std.proofs.Common.{inl, inr, sym, ◌∙◌, arith}
use Rattle.mx_trees.proofs.Listed.{in_at, linked_alike}
use Rattle.mx_trees.proofs.growth.Growth.crossing.Goals as goal

pub returns-then-not-has-clause-some : goal.returns-then-not-has-clause-some
returns-then-not-has-clause-some c =
    let edge = c.requires c.loop-a.a-index c.loop-a-test.true in
    record {
      linked = inr (in_at c.args.edges.now c.loop-a.a-index (0, 0) c.loop-a-test.true);
      inside = sym c.has.ensures ∙ c.if-has.true;
      outside = sym c.has-then-has.ensures ∙ c.if-not-has.true;
      node = edge.1;
    }

pub returns-then-not-has-2-clause-some : goal.returns-then-not-has-2-clause-some
returns-then-not-has-2-clause-some c =
    let edge = c.requires c.loop-a.a-index c.loop-a-test.true in
    record {
      linked = inl (in_at c.args.edges.now c.loop-a.a-index (0, 0) c.loop-a-test.true);
      inside = sym c.has-in-loop-a.ensures ∙ c.if-has-2.true;
      outside = sym c.has-then-has-2.ensures ∙ c.if-not-has-2.true;
      node = edge.0;
    }

pub returns-clause-none : goal.returns-clause-none
returns-clause-none c = linked_alike c.args.edges.now c.args.self.now (λ k h. c.loop-a.invariant k (omega arith))
