use Rattle.std.specs.Prelude.{ℕ, suc, ◌≡◌, ◌≤◌, ◌++◌, true, false, List, [], ◌∷◌, Option, Some, None, length, take}
use Rattle.mx_stamps.specs.Lists.{IsIn}
use Rattle.mx_journal.specs.declared.records.Write.{Write}
use Rattle.mx_journal.specs.declared.receipts.Read.{Read}
use Rattle.mx_registers.specs.Registers.{applied}
use Rattle.mx_trace.specs.Sections.{Mark, Came, Got, Wrote, Went, Woke, Section, after_mark, writes_in, section_receipt}

abbrev pub AllClosed : List Section → Type 0
AllClosed [] = Unit {0}
AllClosed (s ∷ ss) = (s.closed ≡ true) × AllClosed ss

-- node i is inside the newest section
abbrev pub IsInNewest : ℕ → List Section → Type 0
IsInNewest i [] = ⊥
IsInNewest i (s ∷ ss) = (s.node ≡ i) × (s.closed ≡ false)

-- node i is inside the newest section, whose number n is the number of sections
abbrev pub IsInSection : ℕ → ℕ → List Section → Type 0
IsInSection i n ss = IsInNewest i ss × (n ≡ length ss)

-- the mark fits these sections. At an entry, all of them are closed, and the entry has the next
-- number. At a read or a write, the node is inside; the value read is that of the register after
-- all writes so far, in order of entry. At an exit, the node is inside, and the receipt is that of
-- the newest section. A restart always fits
abbrev pub Fits : List Section → Mark → Type 0
Fits ss (Came i n) = AllClosed ss × (n ≡ suc (length ss))
Fits ss (Got i register value) = IsInNewest i ss × (value ≡ applied register (writes_in ss) 0)
Fits ss (Wrote i register value) = IsInNewest i ss
Fits [] (Went i receipt) = ⊥
Fits (s ∷ ss) (Went i receipt) =
    IsInNewest i (s ∷ ss) × (receipt ≡ section_receipt (suc (length ss)) s)
Fits ss (Woke i) = Unit {0}

-- each mark fits the sections that there are after the marks before it
abbrev pub AllFit : List Section → List Mark → Type 0
AllFit ss [] = Unit {0}
AllFit ss (m ∷ ms) = Fits ss m × AllFit (after_mark ss m) ms

-- the value read is that of the register after the writes before the section, and those writes of
-- the section that come before the read
abbrev pub IsSerialRead : List Write → List Write → Read → Type 0
IsSerialRead before writes read =
    (read.after ≤ length writes)
    × (read.value ≡ applied read.register (before ++ take read.after writes) 0)

-- each value read in each section is that of the register after all earlier writes
abbrev pub ReadSerially : List Section → Type 0
ReadSerially [] = Unit {0}
ReadSerially (s ∷ ss) =
    ((x : Read) → IsIn x s.draft.reads → IsSerialRead (writes_in ss) s.draft.writes x)
    × ReadSerially ss

-- entries and exits alternate, and each exit has the node and the number of the entry before it.
-- `inside` is the node inside at first, with its section's number; None if nobody is
abbrev pub Alternate : Option (ℕ × ℕ) → List Mark → Type 0
Alternate inside [] = Unit {0}
Alternate None (Came i n ∷ ms) = Alternate (Some (i, n)) ms
Alternate (Some p) (Came i n ∷ ms) = ⊥
Alternate None (Went i receipt ∷ ms) = ⊥
Alternate (Some p) (Went i receipt ∷ ms) = (i ≡ p.0) × (receipt.number ≡ p.1) × Alternate None ms
Alternate inside (Got i register value ∷ ms) = Alternate inside ms
Alternate inside (Wrote i register value ∷ ms) = Alternate inside ms
Alternate inside (Woke i ∷ ms) = Alternate inside ms

-- the entries have the numbers `next`, `next + 1` and so on, in order
abbrev pub NumberedFrom : ℕ → List Mark → Type 0
NumberedFrom next [] = Unit {0}
NumberedFrom next (Came i n ∷ ms) = (n ≡ next) × NumberedFrom (suc next) ms
NumberedFrom next (Went i receipt ∷ ms) = NumberedFrom next ms
NumberedFrom next (Got i register value ∷ ms) = NumberedFrom next ms
NumberedFrom next (Wrote i register value ∷ ms) = NumberedFrom next ms
NumberedFrom next (Woke i ∷ ms) = NumberedFrom next ms
