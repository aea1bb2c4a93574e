-- Bases and journals of the sections that were left: what they cover, what stays as more are left, and what putting,
-- taking a base and settling make of them.
use Rattle.std.proofs.Common.{ℕ, zero, suc, ◌≤◌, ◌≡◌, inl, inr, List, [], ◌∷◌, ◌++◌, replicate, refl, sym, ◌∙◌, ap, subst, arith}
use Rattle.mx_stamps.specs.Lists.{IsIn}
use Rattle.mx_stamps.proofs.Lists.{in_append}
use Rattle.mx_journal.specs.declared.cells.Cell.{Cell as BaseCell}
use Rattle.mx_journal.specs.declared.records.Record.{Record}
use Rattle.mx_journal.specs.Agreement.{IsConsistent, IsSubmap}
use Rattle.mx_journal.specs.Bases.{AreCellsOf, BaseState, origin, unwritten, with_section, with_sections}
use Rattle.mx_journal.specs.Gapless.{IsGapless}
use Rattle.mx_journal.specs.Records.{Ascending, IsNumbered, IsThere, above, below, with_records}
use Rattle.mx_journal.specs.Settled.{Covers, DoAgree, IsCovered, IsOfSections, JournalState, base_of, beyond, joined, settled, unsettled, with_base, with_list}
use Rattle.mx_journal.proofs.Below.{ascending_below, below_has, below_none, in_below}
use Rattle.mx_journal.proofs.Beyond.{in_beyond}
use Rattle.mx_journal.proofs.Found.{above_has, in_above}
use Rattle.mx_journal.proofs.Going.{ascending_rest_above}
use Rattle.mx_journal.proofs.Maps.{ascending_above, ascending_same, in_with_records, same_members}
use Rattle.mx_merge.proofs.Joins.{of_one_agree, with_base_case}
use Rattle.mx_registers.specs.Based.{registers_in}
use Rattle.mx_registers.specs.Registers.{registers_of}
use Rattle.mx_registers.proofs.Based.{registers_settled, registers_unsettled, split_at}
use Rattle.mx_member.specs.declared.parcel.Parcel.{Parcel}
use Rattle.mx_member.specs.declared.parcel.Parcel.TheVariants.{Guard, Want, Base, Records}
use Rattle.mx_member.specs.Journals.{IsBaseOf, IsJournalOf, IsParcelOf}

-- where all sections up to k are there, more sections change nothing up to k
first_same : (k : ℕ) (xs ys : List Record) → Ascending 1 xs → Ascending 1 ys → IsSubmap xs ys → IsGapless k xs → below (suc k) xs ≡ below (suc k) ys
first_same k xs ys a b s all =
    same_members 1 1 (below (suc k) xs) (below (suc k) ys) (ascending_below (suc k) 1 xs a) (ascending_below (suc k) 1 ys b)
    (λ x h. let w = in_below (suc k) xs x h in below_has (suc k) 1 ys b x (s x w.0) w.1)
    (λ x h.
    let w = in_below (suc k) ys x h in
    let low = ascending_above 1 ys b x w.0 in
    let high = w.1 in
    let t = all x.number low (omega arith) in
    let same : t.0 ≡ x = ascending_same 1 ys b t.0 x (s t.0 t.1) w.0 t.2 in
    below_has (suc k) 1 xs a x (subst (λ z. IsIn z xs) same t.1) w.1)

-- so bases, journals and parcels stay what they are
pub base_stays : (xs ys : List Record) → Ascending 1 xs → Ascending 1 ys → IsSubmap xs ys → (base : BaseState) → IsBaseOf xs base → IsBaseOf ys base
base_stays xs ys a b s base of = record {
  registers = of.registers ∙ ap (λ l. let q : BaseState = record { upto = base.upto; cells = with_sections l origin.cells } in q) (first_same base.upto xs ys a b s of.there);
  there = λ n low high. let t = of.there n low high in (t.0, s t.0 t.1, t.2);
}

pub journal_stays : (xs ys : List Record) → Ascending 1 xs → Ascending 1 ys → IsSubmap xs ys → (journal : JournalState) → IsJournalOf xs journal → IsJournalOf ys journal
journal_stays xs ys a b s journal of = record { base = base_stays xs ys a b s journal.base of.base; records = λ x h. s x (of.records x h) }

pub parcel_stays : {M : Type 0} (xs ys : List Record) → Ascending 1 xs → Ascending 1 ys → IsSubmap xs ys → (p : Parcel M) → IsParcelOf xs p → IsParcelOf ys p
parcel_stays xs ys a b s (Guard letter) of = tt
parcel_stays xs ys a b s (Want ranges) of = tt
parcel_stays xs ys a b s (Base base) of = base_stays xs ys a b s base of
parcel_stays xs ys a b s (Records records) of = λ x h. s x (of x h)

-- what has settled nothing
pub origin_of : (sections : List Record) → Ascending 1 sections → IsBaseOf sections origin
origin_of sections order = record {
  registers = ap (λ l. let q : BaseState = record { upto = 0; cells = with_sections l origin.cells } in q) (sym (below_none 1 1 sections order (omega arith)));
  there = λ n low high. absurd (omega arith);
}

pub unsettled_of : (sections xs : List Record) → Ascending 1 sections → IsSubmap xs sections → IsJournalOf sections (unsettled xs)
unsettled_of sections xs order s = record { base = origin_of sections order; records = s }

-- what a journal covers is there
pub covered_there : (sections : List Record) (journal : JournalState) → IsJournalOf sections journal → (n : ℕ) → Covers n journal → IsThere n sections
covered_there sections journal of n (inl w) = of.base.there n w.0 w.1
covered_there sections journal of n (inr t) = (t.0, of.records t.0 t.1, t.2)

-- two of one map agree
pub journals_of_one : (sections : List Record) (a b : JournalState) → Ascending 1 sections → IsJournalOf sections a → IsJournalOf sections b → DoAgree a b
journals_of_one sections a b order oa ob =
    let here : IsOfSections sections a = record { base = oa.base.registers; records = oa.records } in
    let there : IsOfSections sections b = record { base = ob.base.registers; records = ob.records } in
    of_one_agree a b (sections, order, here, there)

-- records of the sections that are put
pub put_of : (sections list : List Record) (journal : JournalState) → IsJournalOf sections journal → IsSubmap list sections → IsJournalOf sections (with_list list journal)
put_of sections list journal of known = record {
  base = of.base;
  records = λ x h. elim (in_with_records (beyond journal.base.upto list) journal.records x h) [
    | inl a ↦ of.records x a
    | inr b ↦ known x (in_beyond journal.base.upto list x b).0
  ];
}

-- and they can be
pub puttable_of : (sections list : List Record) (journal : JournalState) → Ascending 1 sections → IsJournalOf sections journal → IsSubmap list sections → IsNumbered list × IsConsistent (journal.records ++ beyond journal.base.upto list)
puttable_of sections list journal order of known =
    let all : IsSubmap (journal.records ++ beyond journal.base.upto list) sections = λ x h. elim (in_append x journal.records (beyond journal.base.upto list) h) [
      | inl a ↦ of.records x a
      | inr b ↦ known x (in_beyond journal.base.upto list x b).0
    ] in (
      λ x h. ascending_above 1 sections order x (known x h),
      λ x y h k e. ascending_same 1 sections order x y (all x h) (all y k) e,
    )

-- a base of them that is taken
pub taken_of : (sections : List Record) (base : BaseState) (journal : JournalState) → IsJournalOf sections journal → IsBaseOf sections base → IsJournalOf sections (with_base base journal)
taken_of sections base journal of new =
    with_base_case (λ j. IsJournalOf sections j) base journal
    (λ _. record { base = new; records = λ x h. of.records x (in_above base.upto journal.records x h) })
    (λ _. of)

pub taken_ascends : (base : BaseState) (journal : JournalState) → Ascending (suc journal.base.upto) journal.records → Ascending (suc (with_base base journal).base.upto) (with_base base journal).records
taken_ascends base journal order =
    with_base_case (λ j. Ascending (suc j.base.upto) j.records) base journal
    (λ _. ascending_rest_above base.upto (suc journal.base.upto) journal.records order)
    (λ _. order)

-- the join of two
pub joined_of : (sections : List Record) (a b : JournalState) → IsJournalOf sections a → IsJournalOf sections b → IsJournalOf sections (joined b a)
joined_of sections a b oa ob =
    taken_of sections b.base (record { base = a.base; records = with_records (above a.base.upto b.records) a.records })
    (record {
      base = oa.base;
      records = λ x h. elim (in_with_records (above a.base.upto b.records) a.records x h) [
        | inl k ↦ oa.records x k
        | inr k ↦ ob.records x (in_above a.base.upto b.records x k)
      ];
    }) ob.base

-- two bases of them that stand for the same sections are equal
pub bases_of_one : (sections : List Record) (a b : BaseState) → IsBaseOf sections a → IsBaseOf sections b → a.upto ≡ b.upto → a ≡ b
bases_of_one sections a b oa ob e =
    oa.registers ∙ ap (λ k. let q : BaseState = record { upto = k; cells = with_sections (below (suc k) sections) origin.cells } in q) e ∙ sym ob.registers

-- no section wrote a cell of the origin
in_unwritten : (n : ℕ) (cell : BaseCell) → IsIn cell (replicate n unwritten) → cell ≡ unwritten
in_unwritten zero cell h = absurd h
in_unwritten (suc n) cell (inl e) = e
in_unwritten (suc n) cell (inr h) = in_unwritten n cell h

with_both : (xs ys : List Record) (cells : List BaseCell) → with_sections (xs ++ ys) cells ≡ with_sections ys (with_sections xs cells)
with_both [] ys cells = refl
with_both (x ∷ xs) ys cells = with_both xs ys (with_section x cells)

-- sections that are settled where none is missing
module _ (sections : List Record) (journal : JournalState) (k : ℕ) (order : Ascending 1 sections) (mine : Ascending (suc journal.base.upto) journal.records) (of : IsJournalOf sections journal) (high : journal.base.upto ≤ k) (all : IsCovered k journal) where
  abbrev own : ℕ
  own = journal.base.upto

  abbrev first : List Record
  first = below (suc k) sections

  first_ascends : Ascending 1 first
  first_ascends = ascending_below (suc k) 1 sections order

  -- those between the base and k are among the records
  between : below (suc k) journal.records ≡ above own first
  between =
      same_members (suc own) (suc own) (below (suc k) journal.records) (above own first)
      (ascending_below (suc k) (suc own) journal.records mine) (ascending_rest_above own 1 first first_ascends)
      (λ x h.
      let w = in_below (suc k) journal.records x h in
      let low = ascending_above (suc own) journal.records mine x w.0 in
      above_has own first x (below_has (suc k) 1 sections order x (of.records x w.0) w.1) (omega arith))
      (λ x h.
      let low = ascending_above (suc own) (above own first) (ascending_rest_above own 1 first first_ascends) x h in
      let w = in_below (suc k) sections x (in_above own first x h) in
      let top = w.1 in
      elim (all x.number (omega arith) (omega arith)) [
        | inl s ↦ absurd (let q = s.1 in omega arith)
        | inr t ↦
            let same : t.0 ≡ x = ascending_same 1 sections order t.0 x (of.records t.0 t.1) w.0 t.2 in
            below_has (suc k) (suc own) journal.records mine x (subst (λ z. IsIn z journal.records) same t.1) w.1
      ])

  -- and those that the base stands for come first
  lower : below (suc own) sections ≡ below (suc own) first
  lower =
      same_members 1 1 (below (suc own) sections) (below (suc own) first) (ascending_below (suc own) 1 sections order) (ascending_below (suc own) 1 first first_ascends)
      (λ x h.
      let w = in_below (suc own) sections x h in
      let top = w.1 in
      below_has (suc own) 1 first first_ascends x (below_has (suc k) 1 sections order x w.0 (omega arith)) w.1)
      (λ x h.
      let w = in_below (suc own) first x h in
      below_has (suc own) 1 sections order x (in_below (suc k) sections x w.0).0 w.1)

  whole : below (suc own) sections ++ below (suc k) journal.records ≡ first
  whole = ap (λ q. q ++ below (suc k) journal.records) lower ∙ ap (λ q. below (suc own) first ++ q) between ∙ split_at own 1 first first_ascends

  cells : with_sections (below (suc k) journal.records) journal.base.cells ≡ with_sections first origin.cells
  cells =
      ap (λ (s : BaseState). with_sections (below (suc k) journal.records) s.cells) of.base.registers
      ∙ sym (with_both (below (suc own) sections) (below (suc k) journal.records) origin.cells)
      ∙ ap (λ q. with_sections q origin.cells) whole

  pub settled_of : IsJournalOf sections (settled k journal)
  settled_of = record {
    base = record {
      registers = ap (λ q. let s : BaseState = record { upto = k; cells = q } in s) cells;
      there = λ n low top. covered_there sections journal of n (all n low top);
    };
    records = λ x h. of.records x (in_above k journal.records x h);
  }

  pub settled_ascends : Ascending (suc (settled k journal).base.upto) (settled k journal).records
  settled_ascends = ascending_rest_above k (suc own) journal.records mine

-- a journal that covers all of the sections is theirs, settled up to its base
pub whole_is : (sections : List Record) (journal : JournalState) → Ascending 1 sections → Ascending (suc journal.base.upto) journal.records → IsJournalOf sections journal → ((n : ℕ) → IsThere n sections → Covers n journal) → journal ≡ settled journal.base.upto (unsettled sections)
whole_is sections journal order mine of all =
    let k = journal.base.upto in
    let records : journal.records ≡ above k sections = same_members (suc k) (suc k) journal.records (above k sections) mine (ascending_rest_above k 1 sections order)
    (λ x h. let low = ascending_above (suc k) journal.records mine x h in above_has k sections x (of.records x h) (omega arith))
    (λ x h.
    let m = in_above k sections x h in
    let low = ascending_above (suc k) (above k sections) (ascending_rest_above k 1 sections order) x h in
    elim (all x.number (x, m, refl)) [
      | inl s ↦ absurd (let q = s.1 in omega arith)
      | inr t ↦
          let same : t.0 ≡ x = ascending_same 1 sections order t.0 x (of.records t.0 t.1) m t.2 in
          subst (λ z. IsIn z journal.records) same t.1
    ]) in
    ap (λ b. let j : JournalState = record { base = b; records = journal.records } in j) of.base.registers
    ∙ ap (λ l. let j : JournalState = record { base = base_of k sections; records = l } in j) records

-- and shows their registers
pub whole_registers : (count : ℕ) (sections : List Record) (journal : JournalState) → count ≤ 32 → Ascending 1 sections → journal ≡ settled journal.base.upto (unsettled sections) → registers_in count journal ≡ registers_of count sections
whole_registers count sections journal few order is =
    ap (λ j. registers_in count j) is
    ∙ registers_settled count journal.base.upto (unsettled sections) few order unwritten_cells
    ∙ registers_unsettled count sections
  where
    unwritten_cells : AreCellsOf 0 origin.cells
    unwritten_cells cell h = let e = in_unwritten 32 cell h in (subst (λ (c : BaseCell). c.number ≤ 0) (sym e) (omega arith), inr (ap (λ (c : BaseCell). c.value) e))
