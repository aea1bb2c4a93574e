use Rattle.std.proofs.Common.{inl, inr, [], ◌∷◌, get_or, take, refl, sym, subst, arith}
use Rattle.std.proofs.lemmas.List.{get_or_default, take_all}
use Rattle.mx_stamps.specs.Lists.{IsIn}
use Rattle.mx_stamps.proofs.Lists.{in_append, in_at, take_here}
use Rattle.mx_journal.specs.Bases.{AreCellsOf, IsCellOf, unwritten}
use Rattle.mx_journal.proofs.cells.are_cells_of.Goals as goal

pub returns-then-not-is_cell_of : goal.returns-then-not-is_cell_of
returns-then-not-is_cell_of c =
    let cells = c.args.cells.now in
    let k = c.loop-cell.cell-index in
    let cell = get_or cells k unwritten in (
      λ t. let bad : ⊥ = cc in absurd bad,
      λ all. let t = c.is_cell_of.ensures.1 (all cell (in_at cells k cell c.loop-cell-test.true (get_or_default cells k unwritten cell c.loop-cell-test.true))) in let bad : ⊥ = cc in absurd bad,
    )

pub loop-cell-preserved : goal.loop-cell-preserved
loop-cell-preserved c = λ x h.
    let cells = c.args.cells.now in
    let k = c.loop-cell.cell-index in
    let cell = get_or cells k unwritten in
    elim (in_append x (take k cells) (cell ∷ []) (subst (λ l. IsIn x l) (take_here cells k cell c.loop-cell-test.true (get_or_default cells k unwritten cell c.loop-cell-test.true)) h)) [
      | inl m ↦ c.loop-cell.invariant x m
      | inr (inl e) ↦ subst (λ z. IsCellOf c.args.upto z) (sym e) (c.is_cell_of.ensures.0 c.if-not-is_cell_of.false)
      | inr (inr bad) ↦ absurd bad
    ]

pub returns : goal.returns
returns c = (
  λ _. subst (λ l. AreCellsOf c.args.upto l) (take_all c.loop-cell.cell-index c.args.cells.now (omega (arith, c.loop-cell-test.false))) c.loop-cell.invariant,
  λ _. refl,
)
