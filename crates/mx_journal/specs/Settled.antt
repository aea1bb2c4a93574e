use Rattle.std.specs.Prelude.{ℕ, suc, ◌+◌, ◌≡◌, ◌≤◌, ◌<◌, ◌⊎◌, ◌↔◌, List, max, length, nat_lt, if◌then◌else◌, filter}
use Rattle.mx_stamps.specs.Lists.{IsIn}
use Rattle.mx_journal.specs.declared.records.Record.{Record}
use Rattle.mx_journal.specs.Agreement.{AreAgreeing, IsSubmap}
use Rattle.mx_journal.specs.Bases.{BaseState, origin, with_sections}
use Rattle.mx_journal.specs.Records.{Ascending, IsThere, above, below, top_of, with_record, with_records}

-- a journal: a base, and the records of sections above it; the base has the registers after all
-- sections up to its number
pub record JournalState : Type 0 where
  pub base : BaseState
  pub records : List Record

-- the journal that has these records, and has settled nothing
abbrev pub unsettled : List Record → JournalState
unsettled records = record { base = origin; records = records }

-- n is the number of a section that the base covers
abbrev pub IsSettled : ℕ → JournalState → Type 0
IsSettled n journal = (1 ≤ n) × (n ≤ journal.base.upto)

-- the base covers section n, or its record is there
abbrev pub Covers : ℕ → JournalState → Type 0
Covers n journal = IsSettled n journal ⊎ IsThere n journal.records

-- the journal covers all of 1 to k
abbrev pub IsCovered : ℕ → JournalState → Type 0
IsCovered k journal = (n : ℕ) → 1 ≤ n → n ≤ k → Covers n journal

-- n is the least number, from 1 on, that the journal does not cover
pub record IsFirstGap (n : ℕ) (journal : JournalState) : Type 0 where
  pub low : 1 ≤ n
  pub gone : Covers n journal → ⊥
  pub before : (m : ℕ) → 1 ≤ m → m < n → Covers m journal

-- some record of the list has a number that the journal does not cover
abbrev pub BringsUncovered : List Record → JournalState → Type 0
BringsUncovered list journal =
    (x : Record) × IsIn x list × (Covers x.number journal → ⊥)

-- the number of sections that the journal covers
abbrev pub covered : JournalState → ℕ
covered journal = journal.base.upto + length journal.records

-- the greatest number that the journal covers, or 0 if it covers none
abbrev pub top_covered : JournalState → ℕ
top_covered journal = max journal.base.upto (top_of journal.records)

abbrev pub beyond : ℕ → List Record → List Record
beyond n list = filter (λ x. nat_lt n x.number) list

-- the journal with this record too, or unchanged if it has a record of this number already
abbrev pub with_entry : Record → JournalState → JournalState
with_entry entry journal =
    record { base = journal.base; records = with_record entry journal.records }

-- the journal with these records too, except those that its base covers
abbrev pub with_list : List Record → JournalState → JournalState
with_list list journal = record {
  base = journal.base;
  records = with_records (beyond journal.base.upto list) journal.records;
}

-- the journal after it takes `base`: if `base` covers more sections than the present base, `base`
-- replaces it and the records of these sections; otherwise nothing changes
abbrev pub with_base : BaseState → JournalState → JournalState
with_base base journal =
    if nat_lt journal.base.upto base.upto then
    record { base = base; records = above base.upto journal.records }
    else journal

-- the journal after it takes those records of `other` that are above the journal's base, and then
-- the base of `other`
abbrev pub joined : JournalState → JournalState → JournalState
joined other journal =
    with_base other.base
    (record {
      base = journal.base;
      records = with_records (above journal.base.upto other.records) journal.records;
    })

-- the journal after settling: the registers after sections 1 to k replace the records of these
abbrev pub settled : ℕ → JournalState → JournalState
settled k journal = record {
  base = record {
    upto = k;
    cells = with_sections (below (suc k) journal.records) journal.base.cells;
  };
  records = above k journal.records;
}

-- a is below b: b's base covers all sections that a's base covers, and is equal to a's base if it
-- covers no more; b has each record of a that is above b's base
pub record IsWithin (a b : JournalState) : Type 0 where
  pub upto : a.base.upto ≤ b.base.upto
  pub base : a.base.upto ≡ b.base.upto → a.base ≡ b.base
  pub records : (x : Record) → IsIn x a.records → b.base.upto < x.number → IsIn x b.records

-- the journals agree: records with the same number are equal, and so are the bases if they cover
-- the same sections
pub record DoAgree (a b : JournalState) : Type 0 where
  pub records : AreAgreeing a.records b.records
  pub bases : a.base.upto ≡ b.base.upto → a.base ≡ b.base

-- the base of sections 1 to k; `sections` has their records
abbrev pub base_of : ℕ → List Record → BaseState
base_of k sections =
    record { upto = k; cells = with_sections (below (suc k) sections) origin.cells }

-- the journal knows only these sections: its base is that of the first of them, and each of its
-- records is in the list
pub record IsOfSections (sections : List Record) (journal : JournalState) : Type 0 where
  pub base : journal.base ≡ base_of journal.base.upto sections
  pub records : IsSubmap journal.records sections

-- there are sections such that both journals know only these
abbrev pub AreOfOneMap : JournalState → JournalState → Type 0
AreOfOneMap a b =
    (sections : List Record)
    × Ascending 1 sections × IsOfSections sections a × IsOfSections sections b

abbrev pub CoverSame : JournalState → JournalState → Type 0
CoverSame a b = (n : ℕ) → Covers n a ↔ Covers n b
