-- Bases: the cells after records, by their registers, and their bounds.
use Rattle.std.proofs.Common.{ℕ, zero, suc, ◌<◌, ◌≤◌, ◌≡◌, inl, inr, List, [], ◌∷◌, Option, Some, None, length, get_or, refl, sym, ◌∙◌, subst, arith}
use Rattle.std.proofs.lemmas.List.{ext_get_or}
use Rattle.std.proofs.lemmas.Option.{get_or_from_slice_get}
use Rattle.mx_stamps.specs.Lists.{IsIn, each_below}
use Rattle.mx_stamps.proofs.Lists.{has_each_below, in_append, length_each_below}
use Rattle.mx_journal.specs.declared.records.Record.{Record}
use Rattle.mx_journal.specs.declared.cells.Cell.{Cell}
use Rattle.mx_journal.specs.Bases.{AreCellsOf, IsCellOf, after_section, unwritten, with_section, with_sections}
use Rattle.mx_journal.specs.Drafted.{last_value}
use Rattle.mx_journal.specs.Records.{below}
use Rattle.mx_journal.proofs.Below.{below_case}

pub get_or_each_below : {X : Type 0} (f : ℕ → X) (n i : ℕ) (d : X) → i < n → get_or (each_below f n) i d ≡ f i
get_or_each_below f n i d l = get_or_from_slice_get (each_below f n) i (f i) d (has_each_below f n i l)

-- what each below n is, is some value of the function there
in_each_below : {X : Type 0} (f : ℕ → X) (n : ℕ) (x : X) → IsIn x (each_below f n) → (i : ℕ) × (i < n) × (x ≡ f i)
in_each_below f zero x h = absurd h
in_each_below f (suc n) x h = elim (in_append x (each_below f n) (f n ∷ []) h) [
  | inl m ↦ (let w = in_each_below f n x m in let l = w.1 in (w.0, omega arith, w.2))
  | inr (inl e) ↦ (n, omega arith, e)
  | inr (inr bad) ↦ absurd bad
]

-- cells that are each what the record leaves are the cells with its section
pub with_section_is : (entry : Record) (old new : List Cell) → length new ≡ 32 → ((register : ℕ) → register < 32 → get_or new register unwritten ≡ after_section entry.number (last_value register entry.writes.items) (get_or old register unwritten)) → new ≡ with_section entry old
with_section_is entry old new size each =
    let f : ℕ → Cell = λ register. after_section entry.number (last_value register entry.writes.items) (get_or old register unwritten) in
    ext_get_or unwritten new (with_section entry old) (size ∙ sym (length_each_below f 32))
    (λ i l. each i (omega (arith, l, size)) ∙ sym (get_or_each_below f 32 i unwritten (omega (arith, l, size))))

-- a cell stays of the sections up to k
after_section_of : (k n : ℕ) (o : Option ℕ) (cell : Cell) → 1 ≤ n → n ≤ k → IsCellOf k cell → IsCellOf k (after_section n o cell)
after_section_of k n None cell l m h = h
after_section_of k n (Some v) cell l m h = (m, inl l)

-- a register's cell is, too
pub cell_of : (k : ℕ) (cells : List Cell) (i : ℕ) → AreCellsOf k cells → IsCellOf k (get_or cells i unwritten)
cell_of k [] i h = (omega arith, inr refl)
cell_of k (c ∷ cs) zero h = h c (inl refl)
cell_of k (c ∷ cs) (suc i) h = cell_of k cs i (λ x m. h x (inr m))

pub with_section_of : (k : ℕ) (entry : Record) (cells : List Cell) → 1 ≤ entry.number → entry.number ≤ k → AreCellsOf k cells → AreCellsOf k (with_section entry cells)
with_section_of k entry cells l m h x t =
    let f : ℕ → Cell = λ register. after_section entry.number (last_value register entry.writes.items) (get_or cells register unwritten) in
    let w = in_each_below f 32 x t in
    subst (λ z. IsCellOf k z) (sym w.2) (after_section_of k entry.number (last_value w.0 entry.writes.items) (get_or cells w.0 unwritten) l m (cell_of k cells w.0 h))

pub cells_of_more : (j k : ℕ) (cells : List Cell) → j ≤ k → AreCellsOf j cells → AreCellsOf k cells
cells_of_more j k cells l h x m = let w = h x m in let q = w.0 in (omega arith, w.1)

-- the records up to k, where the first is not above it
pub with_sections_more : (k : ℕ) (x : Record) (xs : List Record) (cells : List Cell) → x.number ≤ k → with_sections (below (suc k) (x ∷ xs)) cells ≡ with_sections (below (suc k) xs) (with_section x cells)
with_sections_more k x xs cells l =
    below_case (λ l. with_sections l cells ≡ with_sections (below (suc k) xs) (with_section x cells)) (suc k) x xs (λ _. refl) (λ bad. absurd (omega arith))
