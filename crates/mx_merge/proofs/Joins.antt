-- The join of two agreeing journals is their least upper bound.
use Rattle.std.proofs.Common.{suc, ◌<◌, ◌≤◌, ◌⊎◌, inl, inr, List, nat_lt, refl, sym, ◌∙◌, ap, arith}
use Rattle.mx_stamps.specs.Lists.{IsIn}
use Rattle.mx_stamps.proofs.Choices.{cond_case, lt_false, lt_true}
use Rattle.mx_journal.specs.declared.records.Record.{Record}
use Rattle.mx_journal.specs.Bases.{BaseState}
use Rattle.mx_journal.specs.Records.{Ascending, above, with_records}
use Rattle.mx_journal.specs.Settled.{AreOfOneMap, DoAgree, IsOfSections, IsWithin, JournalState, base_of, joined, with_base}
use Rattle.mx_journal.specs.Agreement.{AreAgreeing, IsConsistent, IsSubmap}
use Rattle.mx_journal.proofs.Maps.{ascending_above, ascending_same, in_with_records, with_records_have, with_records_keep}
use Rattle.mx_journal.proofs.Found.{above_has, in_above}
use Rattle.mx_journal.proofs.Going.{ascending_rest_above}
use Rattle.mx_journal.proofs.Settled.{ascending_joined}
use Rattle.mx_merge.specs.Join.{IsLeastJournal}

-- parts of one consistent list agree
pub parts_agree : (xs ys m : List Record) → IsConsistent m → IsSubmap xs m → IsSubmap ys m → AreAgreeing xs ys
parts_agree xs ys m c s t x y h k e = c x y (s x h) (t y k) e

-- two sub-maps of one map agree
pub submaps_agree : (xs ys m : List Record) → Ascending 1 m → IsSubmap xs m → IsSubmap ys m → AreAgreeing xs ys
submaps_agree xs ys m a s t = parts_agree xs ys m (ascending_same 1 m a) s t

-- what holds of a journal with another base, by whether that is above its own
pub with_base_case : (P : JournalState → Type 0) (base : BaseState) (journal : JournalState) → (journal.base.upto < base.upto → P (record { base = base; records = above base.upto journal.records })) → (base.upto ≤ journal.base.upto → P journal) → P (with_base base journal)
with_base_case P base journal higher lower =
    cond_case P (nat_lt journal.base.upto base.upto) (record { base = base; records = above base.upto journal.records }) journal
    (λ t. higher (lt_true journal.base.upto base.upto t)) (λ f. lower (lt_false journal.base.upto base.upto f))

-- the records of both above the first one's base
abbrev records_of_both : JournalState → JournalState → List Record
records_of_both a b = with_records (above a.base.upto b.records) a.records

in_either : (a b : JournalState) (x : Record) → IsIn x (records_of_both a b) → IsIn x a.records ⊎ IsIn x b.records
in_either a b x h = elim (in_with_records (above a.base.upto b.records) a.records x h) [ inl k ↦ inl k | inr k ↦ inr (in_above a.base.upto b.records x k) ]

has_second : (a b : JournalState) → Ascending 1 b.records → DoAgree a b → (x : Record) → IsIn x b.records → a.base.upto < x.number → IsIn x (records_of_both a b)
has_second a b order agree x h l =
    let zs = above a.base.upto b.records in
    with_records_have zs a.records (λ y z p q e. agree.records y z p (in_above a.base.upto b.records z q) e)
    (ascending_same (suc a.base.upto) zs (ascending_rest_above a.base.upto 1 b.records order)) x (above_has a.base.upto b.records x h l)

-- the join of two agreeing journals is above both, and each journal above both is above it
pub journal_join_is_least : (a b : JournalState) → Ascending 1 b.records → DoAgree a b → IsLeastJournal a b (joined b a)
journal_join_is_least a b order agree =
    let both = records_of_both a b in
    let mid : JournalState = record { base = a.base; records = both } in
    with_base_case (λ j. IsLeastJournal a b j) b.base mid
    (λ higher. record {
      left = record {
        upto = omega arith;
        base = λ e. absurd (omega arith);
        records = λ x h l. above_has b.base.upto both x (with_records_keep (above a.base.upto b.records) a.records x h) l;
      };
      right = record {
        upto = omega arith;
        base = λ _. refl;
        records = λ x h l. above_has b.base.upto both x (has_second a b order agree x h (omega arith)) l;
      };
      least = λ m low high. record {
        upto = high.upto;
        base = high.base;
        records = λ x h l. elim (in_either a b x (in_above b.base.upto both x h)) [ inl k ↦ low.records x k l | inr k ↦ high.records x k l ];
      };
    })
    (λ lower. record {
      left = record { upto = omega arith; base = λ _. refl; records = λ x h _. with_records_keep (above a.base.upto b.records) a.records x h };
      right = record { upto = lower; base = λ e. sym (agree.bases (sym e)); records = λ x h l. has_second a b order agree x h l };
      least = λ m low high. record {
        upto = low.upto;
        base = low.base;
        records = λ x h l. elim (in_either a b x h) [ inl k ↦ low.records x k l | inr k ↦ high.records x k l ];
      };
    })

-- it ascends from above its base on
pub journal_join_ascends : (a b : JournalState) → Ascending (suc a.base.upto) a.records → Ascending 1 b.records → Ascending (suc (joined b a).base.upto) (joined b a).records
journal_join_ascends a b order other =
    let both = records_of_both a b in
    let mine = ascending_joined a.base.upto 1 b.records a.records order other in
    with_base_case (λ j. Ascending (suc j.base.upto) j.records) b.base (record { base = a.base; records = both })
    (λ _. ascending_rest_above b.base.upto (suc a.base.upto) both mine) (λ _. mine)

-- journals that know of the same sections agree
pub of_one_agree : (a b : JournalState) → AreOfOneMap a b → DoAgree a b
of_one_agree a b w =
    let sections : List Record = w.0 in
    let here : IsOfSections sections a = w.2 in
    let there : IsOfSections sections b = w.3 in
    record {
      records = submaps_agree a.records b.records sections w.1 here.records there.records;
      bases = λ e. here.base ∙ ap (λ k. base_of k sections) e ∙ sym there.base;
    }

-- what is contained agrees
pub within_agrees : (a b : JournalState) → Ascending (suc a.base.upto) a.records → IsWithin b a → DoAgree a b
within_agrees a b order within = record {
  records = λ x y h k e.
      let high = ascending_above (suc a.base.upto) a.records order x h in
      ascending_same (suc a.base.upto) a.records order x y h (within.records y k (omega arith)) e;
  bases = λ e. sym (within.base (sym e));
}
