-- Small histories that the definitions refuse.
use Rattle.std.proofs.Common.{ℕ, List, [], ◌∷◌, None, ap, arith}
use Rattle.mx_journal.specs.declared.records.Write.{Write}
use Rattle.mx_journal.specs.declared.receipts.Read.{Read}
use Rattle.mx_journal.specs.declared.receipts.Receipt.{Receipt}
use Rattle.mx_trace.specs.Sections.{Came, Got, Went, Woke, Wrote}
use Rattle.mx_trace.specs.Serial.{AllFit, Alternate, NumberedFrom}

-- the receipt of a section
abbrev receipt : ℕ → ℕ → List Read → List Write → Receipt
receipt n i reads writes = record { number = n; node = i; reads = record { items = reads }; writes = record { items = writes } }

-- register 0 is given this value
abbrev wrote : ℕ → Write
wrote value = record { register = 0; value = value }

-- two entries without a leaving between them
pub two_inside : AllFit [] (Came 0 1 ∷ Came 1 2 ∷ []) → ⊥
two_inside h = let e = h.1.0.0.0 in cc

pub two_inside_alternate : Alternate None (Came 0 1 ∷ Came 1 2 ∷ []) → ⊥
two_inside_alternate h = h

-- a leaving of another node, or of another number
pub other_leaves : Alternate None (Came 0 1 ∷ Went 1 (receipt 1 1 [] []) ∷ []) → ⊥
other_leaves h = let e = h.0 in absurd (omega arith)

pub other_number : Alternate None (Came 0 1 ∷ Went 0 (receipt 2 0 [] []) ∷ []) → ⊥
other_number h = let e = h.1 in absurd (omega arith)

-- a first entry that bears 2
pub second_first : AllFit [] (Came 0 2 ∷ []) → ⊥
second_first h = let e = h.0.1 in absurd (omega arith)

pub second_first_numbered : NumberedFrom 1 (Came 0 2 ∷ []) → ⊥
second_first_numbered h = let e = h.0 in absurd (omega arith)

-- a read of a value that nobody wrote, or that a later section overwrote
pub unwritten_read : AllFit [] (Came 0 1 ∷ Got 0 0 5 ∷ []) → ⊥
unwritten_read h = let e = h.1.0.1 in absurd (omega arith)

pub stale_read : AllFit [] (Came 0 1 ∷ Wrote 0 0 7 ∷ Went 0 (receipt 1 0 [] (wrote 7 ∷ [])) ∷ Came 1 2 ∷ Got 1 0 0 ∷ []) → ⊥
stale_read h = let e = h.1.1.1.1.0.1 in absurd (omega arith)

-- a read or a write of a node that is not inside
pub read_outside : AllFit [] (Came 0 1 ∷ Got 1 0 0 ∷ []) → ⊥
read_outside h = let e = h.1.0.0.0 in absurd (omega arith)

pub written_outside : AllFit [] (Wrote 0 0 7 ∷ []) → ⊥
written_outside h = h.0

-- a receipt that misses a write, and one that keeps a write from before the node woke up
pub missed_write : AllFit [] (Came 0 1 ∷ Wrote 0 0 7 ∷ Went 0 (receipt 1 0 [] []) ∷ []) → ⊥
missed_write h = let e = ap (λ (r : Receipt). r.writes.items) h.1.1.0.1 in cc

pub kept_write : AllFit [] (Came 0 1 ∷ Wrote 0 0 7 ∷ Woke 0 ∷ Went 0 (receipt 1 0 [] (wrote 7 ∷ [])) ∷ []) → ⊥
kept_write h = let e = ap (λ (r : Receipt). r.writes.items) h.1.1.1.0.1 in cc
