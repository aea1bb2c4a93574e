-- The least records of a range.
use Rattle.std.proofs.Common.{ℕ, zero, suc, ◌<◌, ◌≤◌, ◌-◌, ◌≡◌, ◌&&◌, List, [], ◌∷◌, ◌++◌, length, take, nat_le, refl, sym, ◌∙◌, ap, arith}
use Rattle.std.proofs.lemmas.Bool.Decides.{nat_tests}
use Rattle.std.proofs.lemmas.List.{length-append, append_assoc}
use Rattle.mx_stamps.proofs.Lists.{append_nil}
use Rattle.mx_stamps.proofs.Choices.{cond_true, cond_false}
use Rattle.mx_journal.specs.declared.records.Record.{Record}
use Rattle.mx_journal.specs.declared.ranges.Range.{Range}
use Rattle.mx_journal.specs.Records.{Ascending, above, in_range}
use Rattle.mx_journal.proofs.Going.{above_all, above_case}

-- nothing up to a number below the range is in it
skipped : (range : Range) (n : ℕ) (xs : List Record) → n < range.first → in_range range (above n xs) ≡ in_range range xs
skipped range n [] l = refl
skipped range n (y ∷ ys) l =
    above_case (λ q. in_range range q ≡ in_range range (y ∷ ys)) n y ys (λ _. refl)
    (λ low. skipped range n ys l ∙ sym (cond_false (nat_le range.first y.number && nat_le y.number range.last) (y ∷ in_range range ys) (in_range range ys) (grind (arith, nat_tests))))

pub in_range_skipped : (range : Range) (n : ℕ) (xs : List Record) → Ascending 1 xs → n ≤ range.first - 1 → in_range range (above n xs) ≡ in_range range xs
in_range_skipped range zero xs a l = ap (λ q. in_range range q) (above_all 0 xs a)
in_range_skipped range (suc n) xs a l = skipped range (suc n) xs (omega arith)

-- the first record of an ascending rest is in the range, or nothing of the rest is
pub in_range_here : (range : Range) (x : Record) (xs : List Record) → range.first ≤ x.number → x.number ≤ range.last → in_range range (x ∷ xs) ≡ x ∷ in_range range xs
in_range_here range x xs low high =
    cond_true (nat_le range.first x.number && nat_le x.number range.last) (x ∷ in_range range xs) (in_range range xs) (grind (arith, nat_tests))

pub in_range_none : (range : Range) (k : ℕ) (xs : List Record) → Ascending k xs → range.last < k → in_range range xs ≡ []
in_range_none range k [] a l = refl
in_range_none range k (x ∷ xs) a l =
    cond_false (nat_le range.first x.number && nat_le x.number range.last) (x ∷ in_range range xs) (in_range range xs) (let b = a.0 in grind (arith, nat_tests))
    ∙ in_range_none range (suc x.number) xs a.1 (let b = a.0 in omega arith)

-- the least n so far: one more, enough, and none left
pub taken_more : (n : ℕ) (found : List Record) (x : Record) (l : List Record) → length found < n → found ++ take (n - length found) (x ∷ l) ≡ (found ++ x ∷ []) ++ take (n - length (found ++ x ∷ [])) l
taken_more n found x l h =
    let one : n - length found ≡ suc (n - length (found ++ x ∷ [])) = omega (arith, length-append found (x ∷ [])) in
    ap (λ k. found ++ take k (x ∷ l)) one ∙ sym (append_assoc found (x ∷ []) (take (n - length (found ++ x ∷ [])) l))

pub taken_enough : (n : ℕ) (found l : List Record) → n ≤ length found → found ++ take (n - length found) l ≡ found
taken_enough n found l h =
    let none : n - length found ≡ 0 = omega arith in
    ap (λ k. found ++ take k l) none ∙ append_nil found

take_none : (k : ℕ) → take k (let none : List Record = [] in none) ≡ []
take_none zero = refl
take_none (suc k) = refl

pub taken_all : (n : ℕ) (found l : List Record) → l ≡ [] → found ++ take (n - length found) l ≡ found
taken_all n found l e = ap (λ zs. found ++ take (n - length found) zs) e ∙ ap (λ zs. found ++ zs) (take_none (n - length found)) ∙ append_nil found
