use Rattle.std.proofs.Common.{ℕ, refl, sym, subst}
use Rattle.std.proofs.lemmas.Result.{err_from_is_err_and}
use Rattle.mx_trees.specs.Tree.{IsRooted, Rooted}
use Rattle.mx_trees.specs.Edges.{IsTreeOf}
use Rattle.mx_trees.proofs.Only.{same_tree}
use Rattle.mx_trees.proofs.Ways.{beyond, rooted}
use Rattle.mx_trees.proofs.Faults.{refused, refuses, accepted}
use Rattle.mx_trees.proofs.tree.Tree.of.Goals as goal

pub invariant_of-result : goal.invariant_of-result
invariant_of-result c =
    let input = c.in_ok-root.ensures in
    let P : ℕ → Type 0 = λ k. IsRooted (record { count = c.args.nodes; holder = k; rows = c.neighbours-neighbours.result; next = c.from-growth.result.next }) in
    subst P (sym input.root) (rooted c.args.nodes c.args.edges.now c.args.holder c.from-growth.result input.tree.0 input.tree.1 c.from-growth.ensures.grown c.from-growth.ensures.closed c.neighbours-neighbours.result c.neighbours-neighbours.ensures.near)

pub returns-in_err-root-clause-ok : goal.returns-in_err-root-clause-ok
returns-in_err-root-clause-ok c =
    let e = err_from_is_err_and c.from_residual.result c.from_residual.ensures.1 in
    refuses c.args.nodes c.args.edges.now c.args.holder c.from_residual.result c.in_err-root.field-0.0 (rw e.2 at e.1) c.in_err-root.ensures.fault

pub returns-in_err-root-clause-fault : goal.returns-in_err-root-clause-fault
returns-in_err-root-clause-fault c =
    let e = err_from_is_err_and c.from_residual.result c.from_residual.ensures.1 in
    refused c.args.nodes c.args.edges.now c.args.holder c.from_residual.result c.in_err-root.field-0.0 (rw e.2 at e.1) c.in_err-root.ensures.fault

pub returns-clause-fault : goal.returns-clause-fault
returns-clause-fault c = accepted c.args.nodes c.args.edges.now c.args.holder _ _ refl c.in_ok-root.ensures.tree.0 c.in_ok-root.ensures.tree.1

pub returns-clause-value : goal.returns-clause-value
returns-clause-value c =
    let input = c.in_ok-root.ensures in
    let growth = c.from-growth.ensures in
    record {
      count = refl;
      root = input.root;
      near = c.neighbours-neighbours.ensures.near;
      square = c.neighbours-neighbours.ensures.square;
      long = growth.grown.sizes;
      beyond = beyond c.args.nodes c.args.edges.now c.args.holder c.from-growth.result input.tree.0 input.tree.1 growth.grown growth.closed;
    }

pub returns-clause-only : goal.returns-clause-only
returns-clause-only c = λ u valid of.
    let t : Rooted = record { count = c.args.nodes; holder = c.in_ok-root.root; rows = c.neighbours-neighbours.result; next = c.from-growth.result.next } in
    let is_valid : IsRooted t = invariant_of-result c in
    let is_of : IsTreeOf c.args.nodes c.args.edges.now c.args.holder t = returns-clause-value c in
    same_tree c.args.nodes c.args.edges.now c.args.holder t u is_valid valid is_of of
