-- Journals with a base: what stays of their order, what they cover, and what a base brings.
use Rattle.std.proofs.Common.{ℕ, suc, ◌+◌, ◌≤◌, ◌<◌, ◌≡◌, inl, inr, List, [], ◌∷◌, None, Result, Ok, Err, IfOk, OnErr, max, length, refl, sym, ◌∙◌, ap, subst, arith}
use Rattle.mx_stamps.specs.Lists.{IsIn}
use Rattle.mx_stamps.proofs.Choices.{compared, dec_le}
use Rattle.mx_journal.specs.declared.records.Record.{Record}
use Rattle.mx_journal.specs.declared.puts.PutFault.{PutFault}
use Rattle.mx_journal.specs.Bases.{with_sections}
use Rattle.mx_journal.specs.Gapless.{first_missing}
use Rattle.mx_journal.specs.Records.{Ascending, BringsNew, above, record_at, top_of, with_record, with_records}
use Rattle.mx_journal.specs.Settled.{BringsUncovered, Covers, IsCovered, IsFirstGap, JournalState, beyond, settled}
use Rattle.mx_journal.proofs.Below.{below_none, first_missing_above, first_missing_is_missing, there_below_first_missing}
use Rattle.mx_journal.proofs.Beyond.{in_beyond}
use Rattle.mx_journal.proofs.Found.{in_above}
use Rattle.mx_journal.proofs.Going.{above_all, ascending_rest_above, few_up_to}
use Rattle.mx_journal.proofs.Joining.{none_past}
use Rattle.mx_journal.proofs.Maps.{ascending_above, ascending_from, ascending_with, none_found, none_in}

-- numbers that ascend from above a base on ascend from 1 on
pub from_one : (k : ℕ) (xs : List Record) → Ascending (suc k) xs → Ascending 1 xs
from_one k xs a = ascending_from 1 (suc k) xs (omega arith) a

-- no record bears a number up to the base
pub none_settled : (n k : ℕ) (xs : List Record) → Ascending (suc k) xs → n ≤ k → record_at n xs ≡ None
none_settled n k xs a l = none_found n xs (λ x h e. absurd (let low = ascending_above (suc k) xs a x h in omega arith))

-- the order stays with more records from the least number on
pub ascending_with_list : (k : ℕ) (rs xs : List Record) → Ascending k xs → ((x : Record) → IsIn x rs → k ≤ x.number) → Ascending k (with_records rs xs)
ascending_with_list k [] xs a h = a
ascending_with_list k (r ∷ rs) xs a h = ascending_with_list k rs (with_record r xs) (ascending_with k r xs a (h r (inl refl))) (λ x m. h x (inr m))

pub ascending_beyond : (k : ℕ) (list xs : List Record) → Ascending (suc k) xs → Ascending (suc k) (with_records (beyond k list) xs)
ascending_beyond k list xs a = ascending_with_list (suc k) (beyond k list) xs a (λ x h. let w = in_beyond k list x h in let l = w.1 in omega arith)

pub ascending_joined : (k j : ℕ) (ys xs : List Record) → Ascending (suc k) xs → Ascending j ys → Ascending (suc k) (with_records (above k ys) xs)
ascending_joined k j ys xs a b = ascending_with_list (suc k) (above k ys) xs a (ascending_above (suc k) (above k ys) (ascending_rest_above k j ys b))

-- so it stays after a list was put, or was refused
pub ascending_put : (k : ℕ) (r : Result ℕ PutFault) (list old new : List Record) → Ascending (suc k) old → IfOk r (λ n. (new ≡ with_records (beyond k list) old) × (length new ≡ length old + n)) → OnErr r (new ≡ old) → Ascending (suc k) new
ascending_put k (Ok n) list old new a put kept = subst (λ l. Ascending (suc k) l) (sym put.0) (ascending_beyond k list old a)
ascending_put k (Err fault) list old new a put kept = subst (λ l. Ascending (suc k) l) (sym kept) a

-- no more numbers are covered than there are up to the greatest
pub covered_top : (k : ℕ) (xs : List Record) → Ascending (suc k) xs → k + length xs ≤ max k (top_of xs)
covered_top k xs a =
    let n = max k (top_of xs) in
    let few = few_up_to n k xs a (omega arith) in
    let past : length (above n xs) ≡ 0 = ap length (none_past n xs (omega arith)) in
    omega arith

-- all up to the first missing number are covered, and that is not
pub covered_before : (m : ℕ) (journal : JournalState) → m + 1 ≡ first_missing (suc journal.base.upto) journal.records → IsCovered m journal
covered_before m journal e n low high = elim (dec_le n journal.base.upto) [
  | inl l ↦ inl (low, l)
  | inr l ↦ inr (there_below_first_missing (suc journal.base.upto) journal.records n (omega arith) (omega arith))
]

pub not_covered : (m : ℕ) (journal : JournalState) → Ascending (suc journal.base.upto) journal.records → m + 1 ≡ first_missing (suc journal.base.upto) journal.records → Covers (m + 1) journal → ⊥
not_covered m journal a e (inl w) = let low = first_missing_above (suc journal.base.upto) journal.records in let l = w.1 in absurd (omega arith)
not_covered m journal a e (inr w) =
    none_in (m + 1) journal.records (ap (λ n. record_at n journal.records) e ∙ first_missing_is_missing (suc journal.base.upto) journal.records a) w.0 w.1 w.2

-- the first gap is one
pub one_gap : (m n : ℕ) (journal : JournalState) → IsCovered m journal → (Covers (m + 1) journal → ⊥) → IsFirstGap n journal → n ≡ m + 1
one_gap m n journal all gone gap = elim (compared n (m + 1)) [
  | inl l ↦ absurd (gap.gone (all n gap.low (omega arith)))
  | inr (inl e) ↦ e
  | inr (inr l) ↦ absurd (gone (gap.before (m + 1) (omega arith) l))
]

pub gap_after : (m : ℕ) (journal : JournalState) → IsCovered m journal → (Covers (m + 1) journal → ⊥) → IsFirstGap (m + 1) journal
gap_after m journal all gone = record { low = omega arith; gone = gone; before = λ n low l. all n low (omega arith) }

-- the first missing number above the base
pub gapless_value : (m k : ℕ) (xs : List Record) → Ascending (suc k) xs → m + 1 ≡ first_missing (k + 1) (above k xs) → m + 1 ≡ first_missing (suc k) xs
gapless_value m k xs a e =
    e ∙ ap (λ l. first_missing (k + 1) l) (above_all k xs a) ∙ ap (λ n. first_missing n xs) (let q : k + 1 ≡ suc k = omega arith in q)

-- a journal that settles what its base covers stays as it is
pub settled_same : (journal : JournalState) → Ascending (suc journal.base.upto) journal.records → settled journal.base.upto journal ≡ journal
settled_same journal a =
    let k = journal.base.upto in
    let cells = journal.base.cells in
    ap (λ l. let j : JournalState = record { base = record { upto = k; cells = with_sections l cells }; records = above k journal.records } in j)
    (below_none (suc k) (suc k) journal.records a (omega arith))
    ∙ ap (λ l. let j : JournalState = record { base = journal.base; records = l } in j) (above_all k journal.records a)

-- a record above the base whose number no record bears is not covered
pub is_uncovered : (x : Record) (journal : JournalState) → journal.base.upto < x.number → record_at x.number journal.records ≡ None → Covers x.number journal → ⊥
is_uncovered x journal high gone (inl s) = let l = s.1 in omega (arith, l, high)
is_uncovered x journal high gone (inr t) = none_in x.number journal.records gone t.0 t.1 t.2

-- so a list brings such a one, and so do the records of another journal
pub brings_beyond : (list : List Record) (journal : JournalState) → BringsNew (beyond journal.base.upto list) journal.records → BringsUncovered list journal
brings_beyond list journal w =
    let x = in_beyond journal.base.upto list w.0 w.1 in (w.0, x.0, is_uncovered w.0 journal x.1 w.2)

pub brings_above : (least : ℕ) (list : List Record) (journal : JournalState) → Ascending least list → BringsNew (above journal.base.upto list) journal.records → BringsUncovered list journal
brings_above least list journal order w =
    let upto = journal.base.upto in
    (w.0, in_above upto list w.0 w.1, is_uncovered w.0 journal (ascending_above (suc upto) (above upto list) (ascending_rest_above upto least list order) w.0 w.1) w.2)
