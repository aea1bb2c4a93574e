-- Whole worlds: members, the parcels ever sent, and the sections so far; and what holds in each of
-- them.
use Rattle.std.specs.Prelude.{ℕ, suc, ◌≡◌, ◌<◌, ◌≤◌, ◌++◌, false, List, [], ◌∷◌, Some, length, map, slice_get}
use Rattle.mx_stamps.specs.declared.limits.TheConstants.{MAX_REGISTERS}
use Rattle.mx_stamps.specs.Lists.{IsIn}
use Rattle.mx_journal.specs.Records.{Ascending}
use Rattle.mx_nodelaws.specs.World.{World}
use Rattle.mx_nodelaws.specs.Core.{Core, IsInside}
use Rattle.mx_nodelaws.specs.Laws.{greatest_mine}
use Rattle.mx_nodelaws.specs.declared.phase.Phase.TheVariants.{Inside}
use Rattle.mx_member.specs.declared.parcel.Parcel.{Parcel}
use Rattle.mx_member.specs.Journals.{IsJournalOf, IsParcelOf}
use Rattle.mx_member.specs.Member.{MemberState, letter_in}
use Rattle.mx_trace.specs.Sections.{Section, section_journal}
use Rattle.mx_trace.specs.Serial.{AllClosed, ReadSerially}

-- the letters of the algorithm among the parcels, each with its sender and its addressee
abbrev pub letters_in : {M : Type 0} → List (ℕ × ℕ × Parcel M) → List (ℕ × ℕ × M)
letters_in [] = []
letters_in (p ∷ ps) = letter_in p.0 p.1 p.2 ++ letters_in ps

-- the world of the algorithm: the cores of the members, and the letters among the parcels sent
abbrev pub core_part : {S M : Type 0} → List (MemberState S) → List (ℕ × ℕ × Parcel M) → World S M
core_part members sent = record { nodes = map (λ m. m.core) members; sent = letters_in sent }

abbrev pub IsMember : {S : Type 0} → List (MemberState S) → ℕ → MemberState S → Type 0
IsMember members i m = slice_get members i ≡ Some m

-- the open section that has this member's draft
abbrev pub draft_of : {S : Type 0} → MemberState S → Section
draft_of m = record { node = m.setting.me; draft = m.draft; closed = false }

-- the newest section has the number n, and is open with this member's draft; all others are closed
abbrev pub IsDraftOf : {S : Type 0} → MemberState S → ℕ → List Section → Type 0
IsDraftOf m n [] = ⊥
IsDraftOf m n (s ∷ ss) = (s ≡ draft_of m) × (n ≡ suc (length ss)) × AllClosed ss

-- what holds in every world of a run, for its sections so far (`ss`, the newest first)
pub record IsSound {H S M : Type 0} (core : Core H S M) (Good : World S M → Type 0)
    (ss : List Section) (members : List (MemberState S)) (sent : List (ℕ × ℕ
    × Parcel M)) : Type 0 where
  pub good : Good (core_part members sent)
  -- the number of sections is the greatest number of a section that a node entered
  pub counted : length ss ≡ greatest_mine core (core_part members sent)
  -- if a node is inside, only the newest section is open, with the node's draft; if no node is
  -- inside, no section is open
  pub inside : (i n : ℕ) (m : MemberState S) → IsMember members i m → core.phase m.core ≡ Inside n →
      IsDraftOf m n ss
  pub nobody : ((i : ℕ) (m : MemberState S) → IsMember members i m → IsInside core m.core → ⊥) →
      AllClosed ss
  -- each value read is that of the register after the writes of all earlier sections and the
  -- section's own earlier writes
  pub serial : ReadSerially ss
  -- each member knows its number, and the number of nodes
  pub named : (i : ℕ) (m : MemberState S) → IsMember members i m → m.setting.me ≡ i
  pub known : (i : ℕ) (m : MemberState S) → IsMember members i m → m.setting.nodes ≡ length members
  -- no member has more registers than a base
  pub few : (i : ℕ) (m : MemberState S) → IsMember members i m
      → m.setting.registers ≤ MAX_REGISTERS
  -- journals, and the bases and records in parcels, are of the section journal; the records of a
  -- journal ascend from above its base
  pub journals : (i : ℕ) (m : MemberState S) → IsMember members i m →
      IsJournalOf (section_journal ss) m.journal
  pub ordered : (i : ℕ) (m : MemberState S) → IsMember members i m →
      Ascending (suc m.journal.base.upto) m.journal.records
  pub parcels : (a b : ℕ) (p : Parcel M) → IsIn (a, b, p) sent → IsParcelOf (section_journal ss) p
  -- parcels go from nodes to nodes
  pub between : (a b : ℕ) (p : Parcel M) → IsIn (a, b, p) sent →
      (a < length members) × (b < length members)
