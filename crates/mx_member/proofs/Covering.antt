-- What journals go on covering, whatever joins them or is settled.
use Rattle.std.proofs.Common.{ℕ, suc, ◌+◌, ◌-◌, ◌<◌, ◌≤◌, ◌≡◌, inl, inr, List, [], ◌∷◌, refl, sym, subst, arith}
use Rattle.mx_stamps.proofs.Choices.{dec_le}
use Rattle.mx_journal.specs.declared.records.Record.{Record}
use Rattle.mx_journal.specs.Bases.{BaseState}
use Rattle.mx_journal.specs.Records.{Ascending, IsThere, above, top_of, with_record, with_records}
use Rattle.mx_journal.specs.Settled.{Covers, IsCovered, IsFirstGap, IsWithin, JournalState, beyond, settled, top_covered, with_base, with_list}
use Rattle.mx_journal.proofs.Below.{first_missing_above, there_below_first_missing}
use Rattle.mx_journal.proofs.Found.{above_has}
use Rattle.mx_journal.proofs.Beyond.{beyond_all}
use Rattle.mx_journal.proofs.Maps.{ascending_above, with_record_case, with_records_keep}
use Rattle.mx_journal.proofs.Settled.{covered_before, not_covered, one_gap}
use Rattle.mx_merge.proofs.Joins.{with_base_case}
use Rattle.mx_stamps.proofs.Lists.{greatest_above}
use Rattle.mx_member.specs.Member.{first_gap}
use Rattle.mx_member.proofs.OwnReceipts.{place_in}

-- some record bears the number of one that is put
number_there : (entry : Record) (xs : List Record) → IsThere entry.number (with_record entry xs)
number_there entry [] = (entry, inl refl, refl)
number_there entry (x ∷ xs) =
    with_record_case (λ l. IsThere entry.number l) entry x xs
    (λ _. (entry, inl refl, refl))
    (λ _. let t = number_there entry xs in (t.0, inr t.1, t.2))
    (λ e. (x, inl refl, e))

-- the new journal covers all that the old one does
abbrev pub CoversMore : JournalState → JournalState → Type 0
CoversMore old new = (n : ℕ) → Covers n old → Covers n new

pub put_covers : (list : List Record) (journal : JournalState) → CoversMore journal (with_list list journal)
put_covers list journal n (inl s) = inl s
put_covers list journal n (inr t) = inr (t.0, with_records_keep (beyond journal.base.upto list) journal.records t.0 t.1, t.2)

-- a record that is put, or was passed over since its number is settled
pub covers_put : (entry : Record) (journal : JournalState) → 1 ≤ entry.number → Covers entry.number (with_list (entry ∷ []) journal)
covers_put entry journal low = elim (dec_le entry.number journal.base.upto) [
  | inl within ↦ inl (low, within)
  | inr past ↦
      let list : beyond journal.base.upto (entry ∷ []) ≡ entry ∷ [] = beyond_all journal.base.upto (entry ∷ []) (λ x h. elim h [
        | inl e ↦ subst (λ (z : Record). journal.base.upto < z.number) (sym e) past
        | inr bad ↦ absurd bad
      ]) in
      subst (λ l. Covers entry.number (record { base = journal.base; records = with_records l journal.records })) (sym list) (inr (number_there entry journal.records))
]

-- a base that comes in place of the records up to it
higher_covers : (k : ℕ) (base : BaseState) (journal : JournalState) → Ascending (suc journal.base.upto) journal.records → k ≡ base.upto → journal.base.upto ≤ k → CoversMore journal (record { base = base; records = above k journal.records })
higher_covers k base journal order is l n (inl s) = let low = s.0 in let high = s.1 in inl (omega arith, omega arith)
higher_covers k base journal order is l n (inr t) =
    let low = ascending_above (suc journal.base.upto) journal.records order t.0 t.1 in
    let e = t.2 in
    elim (dec_le n k) [
      | inl within ↦ inl (omega arith, omega arith)
      | inr past ↦ inr (t.0, above_has k journal.records t.0 t.1 (omega arith), t.2)
    ]

pub taken_covers : (base : BaseState) (journal : JournalState) → Ascending (suc journal.base.upto) journal.records → CoversMore journal (with_base base journal)
taken_covers base journal order =
    with_base_case (λ j. CoversMore journal j) base journal
    (λ l. higher_covers base.upto base journal order refl (omega arith))
    (λ _ n h. h)

pub settled_covers : (k : ℕ) (journal : JournalState) → Ascending (suc journal.base.upto) journal.records → journal.base.upto ≤ k → CoversMore journal (settled k journal)
settled_covers k journal order l = higher_covers k (settled k journal).base journal order refl l

-- so does what is above a journal, whatever it has settled
pub within_covers : (a b : JournalState) → Ascending (suc a.base.upto) a.records → IsWithin a b → CoversMore a b
within_covers a b order within n (inl s) = let l = within.upto in let high = s.1 in inl (s.0, (omega arith))
within_covers a b order within n (inr t) = elim (dec_le n b.base.upto) [
  | inl low ↦ (let l = ascending_above (suc a.base.upto) a.records order t.0 t.1 in let e = t.2 in inl (omega arith, low))
  | inr past ↦ (let e = t.2 in inr (t.0, within.records t.0 t.1 (omega arith), t.2))
]

-- no more is covered than up to the greatest number
pub top_covers : (n : ℕ) (journal : JournalState) → Covers n journal → n ≤ top_covered journal
top_covers n journal (inl s) = let high = s.1 in omega arith
top_covers n journal (inr t) =
    let p = place_in journal.records t.0 t.1 in
    let high : t.0.number ≤ top_of journal.records = greatest_above (λ (x : Record). x.number) journal.records p.0 t.0 p.1 in
    let e = t.2 in omega arith

-- all below the first gap is covered, and where all up to k is, the gap is above k
pub gap_high : (journal : JournalState) → journal.base.upto < first_gap journal
gap_high journal = let low = first_missing_above (suc journal.base.upto) journal.records in omega arith

pub covered_to_gap : (k : ℕ) (journal : JournalState) → k < first_gap journal → IsCovered k journal
covered_to_gap k journal l n low high = elim (dec_le n journal.base.upto) [
  | inl within ↦ inl (low, within)
  | inr past ↦ inr (there_below_first_missing (suc journal.base.upto) journal.records n (omega arith) (omega arith))
]

-- the number before the gap
before_gap : (journal : JournalState) → (m : ℕ) × (m + 1 ≡ first_gap journal)
before_gap journal = let high = gap_high journal in (first_gap journal - 1, omega arith)

pub gap_past : (k : ℕ) (journal : JournalState) → Ascending (suc journal.base.upto) journal.records → IsCovered k journal → k < first_gap journal
gap_past k journal order all =
    let m = before_gap journal in
    let e = m.1 in
    let high = gap_high journal in
    elim (dec_le (first_gap journal) k) [
      | inl within ↦ absurd (not_covered m.0 journal order e (all (m.0 + 1) (omega arith) (omega arith)))
      | inr past ↦ past
    ]

-- the least number that is not covered is the first gap
pub gap_is : (n : ℕ) (journal : JournalState) → Ascending (suc journal.base.upto) journal.records → IsFirstGap n journal → n ≡ first_gap journal
gap_is n journal order gap =
    let m = before_gap journal in
    let e = m.1 in
    let same = one_gap m.0 n journal (covered_before m.0 journal e) (not_covered m.0 journal order e) gap in
    omega arith
