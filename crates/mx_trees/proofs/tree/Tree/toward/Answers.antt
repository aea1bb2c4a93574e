use Rattle.std.proofs.Common.{ℕ, sym, ◌∙◌, ap, subst, slice_index_or}
use Rattle.mx_trees.specs.Tree.{IsToward, IsRooted, Rooted}
use Rattle.mx_trees.proofs.tree.Tree.toward.Goals as goal

-- the way is the one in the value, which the fields are
pub returns-clause-value : goal.returns-clause-value
returns-clause-value c =
    let read = rw c.unwrap.ensures at c.of.ensures.value in
    let value = ap (λ (t : Rooted). slice_index_or t.next c.get.result 0) c.self.view_is in
    let place = ap (λ (i : ℕ). slice_index_or c.args.self.now.next i 0) c.get.ensures.value in
    read ∙ value ∙ place

pub returns-clause-toward : goal.returns-clause-toward
returns-clause-toward c =
    let valid : IsRooted c.args.self.now = let P : Rooted → Type 0 = λ t. IsRooted t in subst P c.self.view_is c.self.invariant in
    subst (IsToward c.args.self.now c.args.i) (sym (returns-clause-value c)) (valid.toward_path c.args.i c.requires)

pub returns-clause-only : goal.returns-clause-only
returns-clause-only c = λ k h.
    let valid : IsRooted c.args.self.now = let P : Rooted → Type 0 = λ t. IsRooted t in subst P c.self.view_is c.self.invariant in
    valid.toward_only c.args.i k c.requires h ∙ sym (returns-clause-value c)
