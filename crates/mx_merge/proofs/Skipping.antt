-- What a search may leave out at the start of a journal.
use Rattle.std.proofs.Common.{ℕ, zero, suc, ◌+◌, ◌-◌, ◌<◌, ◌≤◌, ◌≡◌, inl, inr, false, List, [], ◌∷◌, ◌++◌, nat_lt, refl, sym, ◌∙◌, ap, subst, arith}
use Rattle.std.proofs.lemmas.Bool.Decides.{nat_tests}
use Rattle.mx_stamps.specs.Lists.{IsIn}
use Rattle.mx_stamps.proofs.Choices.{lt_not, cond_false}
use Rattle.mx_journal.specs.declared.records.Record.{Record}
use Rattle.mx_journal.specs.declared.ranges.Range.{Range}
use Rattle.mx_journal.specs.Records.{Ascending, above}
use Rattle.mx_journal.specs.Gapless.{first_missing}
use Rattle.mx_journal.proofs.Below.{first_missing_above, first_missing_case}
use Rattle.mx_journal.proofs.Going.{above_all, above_case}
use Rattle.mx_merge.specs.Missing.{gap_after, gaps_above, in_ranges, lies_in}
use Rattle.mx_merge.proofs.GapLists.{gaps_above_case}

no_gap : (before last : ℕ) → last ≤ before → gap_after before last ≡ []
no_gap before last l = cond_false (nat_lt before last) (record { first = before + 1; last = last } ∷ []) [] (lt_not before last l)

-- above the limit nothing is a gap
no_gaps : (before limit : ℕ) (xs : List Record) → Ascending (suc before) xs → limit ≤ before → gaps_above before limit xs ≡ []
no_gaps before limit [] a l = no_gap before limit l
no_gaps before limit (x ∷ xs) a l =
    gaps_above_case (λ gaps. gaps ≡ []) before limit x xs (λ _. no_gap before limit l) (λ within. absurd (let low = a.0 in omega arith))

-- the records up to the first missing number show no gap
pub gaps_skipped : (before known limit : ℕ) (xs : List Record) → Ascending (suc before) xs → first_missing (suc before) xs ≡ suc known → gaps_above known limit (above known xs) ≡ gaps_above before limit xs
gaps_skipped before known limit [] a e = ap (λ n. gaps_above n limit []) (let q : known ≡ before = omega (arith, e) in q)
gaps_skipped before known limit (x ∷ xs) a was =
    first_missing_case (λ q. q ≡ suc known → gaps_above known limit (above known (x ∷ xs)) ≡ gaps_above before limit (x ∷ xs)) (suc before) x xs
    (λ here e.
    let order : Ascending (suc (suc before)) xs = subst (λ q. Ascending (suc q) xs) here a.1 in
    let far = first_missing_above (suc (suc before)) xs in
    let rest = gaps_skipped (suc before) known limit xs order e in
    let moved : gaps_above known limit (above known (x ∷ xs)) ≡ gaps_above (suc before) limit xs =
    above_case (λ l. gaps_above known limit l ≡ gaps_above (suc before) limit xs) known x xs (λ bad. absurd (omega arith)) (λ _. rest) in
    moved ∙ gaps_above_case (λ gaps. gaps_above (suc before) limit xs ≡ gaps) before limit x xs
    (λ past. no_gaps (suc before) limit xs order (omega arith) ∙ sym (no_gap before limit (omega arith)))
    (λ within. ap (λ n. gaps_above n limit xs) (sym here) ∙ sym (ap (λ gaps. gaps ++ gaps_above x.number limit xs) (no_gap before (x.number - 1) (omega arith)))))
    (λ _ e.
    let same : known ≡ before = omega (arith, e) in
    let low = a.0 in
    ap (λ l. gaps_above known limit l) (above_case (λ l. l ≡ x ∷ xs) known x xs (λ _. refl) (λ bad. absurd (omega arith))) ∙ ap (λ n. gaps_above n limit (x ∷ xs)) same) was

-- a number below all ranges lies in none
lies_not : (ranges : List Range) (n least : ℕ) → ((range : Range) → IsIn range ranges → least ≤ range.first) → n < least → lies_in ranges n ≡ false
lies_not [] n least low l = refl
lies_not (r ∷ rs) n least low l =
    let here = low r (inl refl) in
    let rest = lies_not rs n least (λ range h. low range (inr h)) l in
    grind (arith, nat_tests)

none_up_to : (ranges : List Range) (least : ℕ) (xs : List Record) → ((range : Range) → IsIn range ranges → least < range.first) → in_ranges ranges (above least xs) ≡ in_ranges ranges xs
none_up_to ranges least [] low = refl
none_up_to ranges least (x ∷ xs) low =
    above_case (λ l. in_ranges ranges l ≡ in_ranges ranges (x ∷ xs)) least x xs (λ _. refl)
    (λ l. none_up_to ranges least xs low
    ∙ sym (cond_false (lies_in ranges x.number) (x ∷ in_ranges ranges xs) (in_ranges ranges xs) (lies_not ranges x.number (suc least) low (omega arith))))

-- no record up to such a number lies in the ranges
pub ranges_skipped : (ranges : List Range) (least : ℕ) (xs : List Record) → Ascending 1 xs → ((range : Range) → IsIn range ranges → least ≤ range.first - 1) → in_ranges ranges (above least xs) ≡ in_ranges ranges xs
ranges_skipped ranges zero xs a low = ap (λ l. in_ranges ranges l) (above_all 0 xs a)
ranges_skipped ranges (suc least) xs a low = none_up_to ranges (suc least) xs (λ range h. let l = low range h in omega arith)

-- the first number that is missing behind one
pub first_after : (n next : ℕ) (xs : List Record) → next + 1 ≡ first_missing (n + 1) (above n xs) → first_missing (suc n) (above n xs) ≡ suc next
first_after n next xs e = sym (let q : suc next ≡ next + 1 = omega arith in q ∙ e ∙ ap (λ m. first_missing m (above n xs)) (let q : n + 1 ≡ suc n = omega arith in q))

pub gapless_high : (n next : ℕ) (xs : List Record) → next + 1 ≡ first_missing (n + 1) (above n xs) → n ≤ next
gapless_high n next xs e = let low = first_missing_above (n + 1) (above n xs) in omega arith
