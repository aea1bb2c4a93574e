-- What the sections wrote, and what a journal of them shows of it.
use Rattle.std.proofs.Common.{ℕ, zero, suc, ◌<◌, ◌≤◌, ◌≡◌, inl, inr, List, [], ◌∷◌, ◌++◌, length, nat_lt, unwrap_or, refl, sym, ◌∙◌, ap, subst, arith}
use Rattle.mx_stamps.specs.Lists.{IsIn}
use Rattle.mx_stamps.proofs.Lists.{cond_case, greatest_below, has_each_below, in_get}
use Rattle.mx_journal.specs.declared.records.Write.{Write}
use Rattle.mx_journal.specs.declared.records.Record.{Record}
use Rattle.mx_journal.specs.Agreement.{IsSubmap}
use Rattle.mx_journal.specs.Drafted.{last_value}
use Rattle.mx_journal.specs.Gapless.{IsGapless}
use Rattle.mx_journal.specs.Records.{Ascending, IsThere, below, record_at, top_of}
use Rattle.mx_journal.specs.Settled.{Covers, IsCovered, JournalState, top_covered, unsettled}
use Rattle.mx_journal.proofs.Below.{ascending_below, below_has, in_below}
use Rattle.mx_journal.proofs.Choices.{lt_true, lt_false}
use Rattle.mx_journal.proofs.Maps.{ascending_above, found_at}
use Rattle.mx_registers.specs.Based.{cell_in, registers_in}
use Rattle.mx_registers.specs.Registers.{AreApplied, after_records, applied, registers_of, writes_of, writes_to}
use Rattle.mx_registers.proofs.Applying.{applied_append, applied_last, gapless_view}
use Rattle.mx_registers.proofs.Based.{registers_unsettled}
use Rattle.mx_registers.proofs.Covered.{IsOf, same_coverage}
use Rattle.mx_member.specs.Journals.{IsJournalOf}
use Rattle.mx_member.specs.Member.{first_gap}
use Rattle.mx_trace.specs.Sections.{Section, oldest, section_journal, writes_in}
use Rattle.mx_member.specs.Steps.{register_below}
use Rattle.mx_member.proofs.Covering.{covered_to_gap, top_covers}
use Rattle.mx_member.proofs.OfSections.{covered_there, origin_of}
use Rattle.mx_member.proofs.SectionLists.{journal_ascends, journal_at_newest, journal_below, journal_high, oldest_all}

-- of a journal only the records up to k have to be the sections'
low_writes : (k : ℕ) (ss : List Section) (journal : List Record) → Ascending 1 journal → ((x : Record) → IsIn x journal → x.number ≤ k → IsIn x (section_journal ss)) → IsGapless k journal → writes_to k journal ≡ writes_in (oldest k ss)
low_writes zero [] journal a known all = refl
low_writes (suc k) [] journal a known all = let t = all (suc k) (omega arith) (omega arith) in absurd (known t.0 t.1 (omega (arith, t.2)))
low_writes k (s ∷ ss) journal a known all =
    cond_case (λ l. writes_to k journal ≡ writes_in l) (nat_lt (length ss) k) (s ∷ ss) (oldest k ss)
    (λ t.
    let more = lt_true (length ss) k t in
    let last = all k (omega arith) (omega arith) in
    let x : Record = last.0 in
    let here : IsIn x (section_journal (s ∷ ss)) = known x last.1 (omega (arith, last.2)) in
    let high = journal_high (s ∷ ss) x here in
    let number : x.number ≡ suc (length ss) = omega (arith, last.2, high, more) in
    let e : k ≡ suc (length ss) = omega (arith, last.2, number) in
    let found : record_at (suc (length ss)) journal ≡ record_at x.number journal = ap (λ n. record_at n journal) (sym number) in
    let before : writes_to (length ss) journal ≡ writes_in (oldest (length ss) ss) =
    low_writes (length ss) ss journal a
    (λ y h l. journal_below s ss y (known y h (omega (arith, more, l))) l)
    (λ n l h. all n l (omega (arith, more, h))) in
    ap (λ n. writes_to n journal) e
    ∙ ap (λ l. l ++ writes_of (record_at (suc (length ss)) journal)) before
    ∙ ap (λ l. writes_in l ++ writes_of (record_at (suc (length ss)) journal)) (oldest_all (length ss) ss (omega arith))
    ∙ ap (λ o. writes_in ss ++ writes_of o) (found ∙ found_at 1 journal a x last.1)
    ∙ ap (λ (y : Record). writes_in ss ++ y.writes.items) (journal_at_newest s ss x here number))
    (λ f.
    let less = lt_false (length ss) k f in
    low_writes k ss journal a (λ y h l. journal_below s ss y (known y h l) (omega (arith, l, less))) all)

-- a journal without gaps up to k tells the writes of the first k sections
pub gapless_writes : (k : ℕ) (ss : List Section) (journal : List Record) → Ascending 1 journal → IsSubmap journal (section_journal ss) → IsGapless k journal → writes_to k journal ≡ writes_in (oldest k ss)
gapless_writes k ss journal a known all = low_writes k ss journal a (λ x h l. known x h) all

-- one without gaps shows these writes, applied in order of entry
pub gapless_shows : (k : ℕ) (ss : List Section) (journal : List Record) → Ascending 1 journal → IsSubmap journal (section_journal ss) → IsGapless k journal → top_of journal ≤ k → (count : ℕ) → AreApplied (writes_in (oldest k ss)) (registers_of count journal)
gapless_shows k ss journal a known all top count =
    subst (λ ws. AreApplied ws (registers_of count journal)) (gapless_writes k ss journal a known all) (gapless_view count k journal a all top)

-- a journal that covers the first k sections and no others shows these writes, whatever it has settled
pub covered_shows : (k count : ℕ) (ss : List Section) (journal : JournalState) → count ≤ 32 → Ascending (suc journal.base.upto) journal.records → IsJournalOf (section_journal ss) journal → IsCovered k journal → top_covered journal ≤ k → AreApplied (writes_in (oldest k ss)) (registers_in count journal)
covered_shows k count ss journal few mine of all top =
    let sections : List Record = section_journal ss in
    let order : Ascending 1 sections = journal_ascends ss in
    let xs : List Record = below (suc k) sections in
    let here : IsOf sections journal = record { order = mine; base = of.base.registers; records = of.records } in
    let plain : IsOf sections (unsettled xs) = record {
      order = ascending_below (suc k) 1 sections order;
      base = (origin_of sections order).registers;
      records = λ x h. (in_below (suc k) sections x h).0;
    } in
    let there : (n : ℕ) → n ≤ k → Covers n journal → IsThere n xs = λ n l h. (
    let t = covered_there sections journal of n h in
    let e = t.2 in
    (t.0, below_has (suc k) 1 sections order t.0 t.1 (omega arith), t.2)) in
    let same : registers_in count journal ≡ registers_of count xs =
    same_coverage count sections journal (unsettled xs) few order here plain
    (λ n h. let l = top_covers n journal h in inr (there n (omega arith) h))
    (λ n h. elim h [
      | inl s ↦ absurd (let l = s.0 in let m = s.1 in omega arith)
      | inr t ↦
          let w = in_below (suc k) sections t.0 t.1 in
          let low = ascending_above 1 sections order t.0 w.0 in
          let high = w.1 in
          let e = t.2 in
          all n (omega arith) (omega arith)
    ])
    ∙ registers_unsettled count xs in
    subst (λ cells. AreApplied (writes_in (oldest k ss)) cells) (sym same)
    (gapless_shows k ss xs (ascending_below (suc k) 1 sections order) (λ x h. (in_below (suc k) sections x h).0)
    (λ n low high. there n high (all n low high))
    (greatest_below (λ (x : Record). x.number) xs k (λ i x at. let l = (in_below (suc k) sections x (in_get xs i x at)).1 in omega arith))
    count)

-- what a journal that covers the sections before n, and has not settled n, shows below n
below_value : (register n : ℕ) (ss : List Section) (journal : JournalState) → register < 32 → Ascending (suc journal.base.upto) journal.records → IsJournalOf (section_journal ss) journal → n ≡ suc (length ss) → journal.base.upto < n → n ≤ first_gap journal → (register_below register n journal).value ≡ applied register (writes_in ss) 0
below_value register n ss journal few mine of next low full =
    let xs : List Record = below n journal.records in
    let earlier : JournalState = record { base = journal.base; records = xs } in
    let high : top_of xs ≤ length ss =
    greatest_below (λ (x : Record). x.number) xs (length ss) (λ i x at. let l = (in_below n journal.records x (in_get xs i x at)).1 in omega arith) in
    covered_shows (length ss) (suc register) ss earlier (omega arith)
    (ascending_below n (suc journal.base.upto) journal.records mine)
    (record { base = of.base; records = λ x h. of.records x (in_below n journal.records x h).0 })
    (λ k l h. elim (covered_to_gap (length ss) journal (omega arith) k l h) [
      | inl s ↦ inl s
      | inr t ↦ (let e = t.2 in inr (t.0, below_has n (suc journal.base.upto) journal.records mine t.0 t.1 (omega arith), t.2))
    ])
    (omega arith)
    register (register_below register n journal) (has_each_below (λ i. after_records i xs (cell_in i journal.base)) (suc register) register (omega arith))
    ∙ ap (λ l. applied register (writes_in l) 0) (oldest_all (length ss) ss (omega arith))

-- with own writes after them
pub shown_value : (register n : ℕ) (ss : List Section) (journal : JournalState) (own : List Write) → register < 32 → Ascending (suc journal.base.upto) journal.records → IsJournalOf (section_journal ss) journal → n ≡ suc (length ss) → journal.base.upto < n → n ≤ first_gap journal →
    unwrap_or (last_value register own) (register_below register n journal).value ≡ applied register (writes_in ss ++ own) 0
shown_value register n ss journal own few mine of next low full =
    sym (applied_last register own (register_below register n journal).value)
    ∙ ap (λ v. applied register own v) (below_value register n ss journal few mine of next low full)
    ∙ sym (applied_append register (writes_in ss) own 0)
