-- The state of a member, and the parcels that it sends.
use Rattle.std.specs.Prelude.{ℕ, suc, ◌≡◌, List, [], ◌∷◌}
use Rattle.mx_journal.specs.Drafted.{Drafted}
use Rattle.mx_journal.specs.Gapless.{first_missing}
use Rattle.mx_journal.specs.Settled.{BringsUncovered, JournalState}
use Rattle.mx_registers.specs.declared.contents.Content.{Content}
use Rattle.mx_registers.specs.Based.{registers_in}
use Rattle.mx_member.specs.declared.parcel.Parcel.{Parcel}
use Rattle.mx_member.specs.declared.parcel.Parcel.TheVariants.{Guard, Want, Base, Records}

-- the parts of a member that never change: its number, the number of nodes, the greatest number
-- that a section may have, and the number of registers
pub record Setting : Type 0 where
  pub me : ℕ
  pub nodes : ℕ
  pub limit : ℕ
  pub registers : ℕ

-- a member: its setting, its core (the state of the algorithm), the journal of the sections that it
-- knows, and the draft of the section that it is inside
pub record MemberState (S : Type 0) : Type 0 where
  pub setting : Setting
  pub core : S
  pub journal : JournalState
  pub draft : Drafted

-- the contents are those of the registers below `count` in the journal
unfoldable pub IsViewOf : ℕ → JournalState → List Content → Type 0
IsViewOf count journal contents = contents ≡ registers_in count journal

-- the least section number that the journal does not cover, if its records ascend from above the
-- base
abbrev pub first_gap : JournalState → ℕ
first_gap journal = first_missing (suc journal.base.upto) journal.records

abbrev pub with_core : {S : Type 0} → S → MemberState S → MemberState S
with_core s m = record { setting = m.setting; core = s; journal = m.journal; draft = m.draft }

abbrev pub with_draft : {S : Type 0} → Drafted → MemberState S → MemberState S
with_draft draft m =
    record { setting = m.setting; core = m.core; journal = m.journal; draft = draft }

abbrev pub with_journal : {S : Type 0} → JournalState → MemberState S → MemberState S
with_journal journal m =
    record { setting = m.setting; core = m.core; journal = journal; draft = m.draft }

-- letters of the algorithm, as parcels
abbrev pub guarded : {M : Type 0} → List (ℕ × M) → List (ℕ × Parcel M)
guarded [] = []
guarded (p ∷ ps) = (p.0, Guard p.1) ∷ guarded ps

-- the letter of the algorithm in a parcel from node a to node b, with both nodes; none if the
-- parcel has no letter
abbrev pub letter_in : {M : Type 0} → ℕ → ℕ → Parcel M → List (ℕ × ℕ × M)
letter_in a b (Guard letter) = (a, b, letter) ∷ []
letter_in a b (Want ranges) = []
letter_in a b (Base base) = []
letter_in a b (Records records) = []

-- the parcel has a record of a section that the journal does not cover
abbrev pub BringsUnknown : {M : Type 0} → Parcel M → JournalState → Type 0
BringsUnknown (Guard letter) journal = ⊥
BringsUnknown (Want ranges) journal = ⊥
BringsUnknown (Base base) journal = ⊥
BringsUnknown (Records records) journal = BringsUncovered records.items journal
