use Rattle.std.proofs.Common.{◌≡◌, subst, refl}
use Rattle.std.proofs.lemmas.Slice.Eq.{slice_eq-Decides}
use Rattle.mx_journal.specs.declared.cells.Cell.{Cell}
use Rattle.mx_journal.proofs.Alike.{both_decide}
use Rattle.mx_journal.proofs.cells.are_same_cells.Goals as goal

-- cells with equal parts are one
same_cell : (a b : Cell) → a.value ≡ b.value → a.number ≡ b.number → a ≡ b
same_cell a b e f = subst (λ x. a ≡ record { value = x; number = b.number }) e (subst (λ x. a ≡ record { value = a.value; number = x }) f refl)

pub returns : goal.returns
returns c = slice_eq-Decides (both_decide (λ (cell : Cell). cell.value) (λ cell. cell.number) same_cell) c.args.cells.now c.args.others.now c.eq.result c.eq.ensures
