use Rattle.std.specs.Prelude.{ℕ, ◌≡◌, ◌⊎◌, ◌++◌, List}
use Rattle.mx_journal.specs.declared.records.Record.{Record}
use Rattle.mx_journal.specs.Agreement.{IsFirstConflict, IsSubmap}
use Rattle.mx_journal.specs.Bases.{AreOpposed}
use Rattle.mx_journal.specs.Settled.{IsWithin, JournalState}

-- j is above both maps, and each map above both is above j
pub record IsLeastUpperBound (a b j : List Record) : Type 0 where
  pub left : IsSubmap a j
  pub right : IsSubmap b j
  pub least : (m : List Record) → IsSubmap a m → IsSubmap b m → IsSubmap j m

-- j is above both journals, and each journal above both is above j
pub record IsLeastJournal (a b j : JournalState) : Type 0 where
  pub left : IsWithin a j
  pub right : IsWithin b j
  pub least : (m : JournalState) → IsWithin a m → IsWithin b m → IsWithin j m

-- n is the least number at which the journals differ: the `upto` of two differing bases of the same
-- sections, or otherwise the least number that two differing records share
abbrev pub IsFirstDifference : ℕ → JournalState → JournalState → Type 0
IsFirstDifference n a b =
    (AreOpposed a.base b.base × (n ≡ a.base.upto))
    ⊎ ((AreOpposed a.base b.base → ⊥) × IsFirstConflict n (a.records ++ b.records))
