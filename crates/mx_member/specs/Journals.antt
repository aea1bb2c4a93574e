-- When a base, a journal and a parcel are of given sections; `sections` has the records of these.
use Rattle.std.specs.Prelude.{◌≡◌, List}
use Rattle.mx_journal.specs.declared.records.Record.{Record}
use Rattle.mx_journal.specs.Agreement.{IsSubmap}
use Rattle.mx_journal.specs.Bases.{BaseState}
use Rattle.mx_journal.specs.Gapless.{IsGapless}
use Rattle.mx_journal.specs.Settled.{JournalState, base_of}
use Rattle.mx_member.specs.declared.parcel.Parcel.{Parcel}
use Rattle.mx_member.specs.declared.parcel.Parcel.TheVariants.{Guard, Want, Base, Records}

-- the base is that of sections 1 to `base.upto`, and the records of all these are in the list
pub record IsBaseOf (sections : List Record) (base : BaseState) : Type 0 where
  pub registers : base ≡ base_of base.upto sections
  pub there : IsGapless base.upto sections

-- the journal knows only these sections: its base is that of the first of them, and each of its
-- records is in the list
pub record IsJournalOf (sections : List Record) (journal : JournalState) : Type 0 where
  pub base : IsBaseOf sections journal.base
  pub records : IsSubmap journal.records sections

-- the base or the records in the parcel are of these sections
abbrev pub IsParcelOf : {M : Type 0} → List Record → Parcel M → Type 0
IsParcelOf sections (Guard letter) = Unit {0}
IsParcelOf sections (Want ranges) = Unit {0}
IsParcelOf sections (Base base) = IsBaseOf sections base
IsParcelOf sections (Records records) = IsSubmap records.items sections
