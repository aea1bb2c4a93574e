use Rattle.std.proofs.Common.{rules, arith}
use Rattle.mx_trees.specs.Edges.{IsTree}
use Rattle.mx_trees.proofs.tree.checked.Goals as goal

pub returns-in-Some-unjoined-clause-fault : goal.returns-in-Some-unjoined-clause-fault
returns-in-Some-unjoined-clause-fault c =
    ((omega (arith, c.if-nodes-eq0.false), omega (arith, c.if-nodes-gt-MAX_NODES.false), c.in_default.ensures.none), omega (arith, c.if-nodes-eq0.false, c.if-edges-nodes.false), c.in-Some-unjoined.ensures.some)

pub returns-then-holder-nodes-clause-fault : goal.returns-then-holder-nodes-clause-fault
returns-then-holder-nodes-clause-fault c = (
  record {
    some = omega (arith, c.if-nodes-eq0.false);
    few = omega (arith, c.if-nodes-gt-MAX_NODES.false);
    linked = c.in_default.ensures.none;
    count = omega (arith, c.if-nodes-eq0.false, c.if-edges-nodes.false);
    joined = c.in_default-unjoined.ensures.none;
  },
  c.if-holder-nodes.true,
)

pub returns-clause-tree : goal.returns-clause-tree
returns-clause-tree c =
    let tree : IsTree c.args.nodes c.args.edges.now = record {
      some = omega (arith, c.if-nodes-eq0.false);
      few = omega (arith, c.if-nodes-gt-MAX_NODES.false);
      linked = c.in_default.ensures.none;
      count = omega (arith, c.if-nodes-eq0.false, c.if-edges-nodes.false);
      joined = c.in_default-unjoined.ensures.none;
    } in
    search (rules, tree)
