-- Going on from a number: the records above it.
use Rattle.std.proofs.Common.{ℕ, suc, ◌+◌, ◌<◌, ◌≤◌, ◌≡◌, List, [], ◌∷◌, length, nat_lt, refl, ◌∙◌, subst, arith}
use Rattle.mx_stamps.proofs.Choices.{lt_true, lt_false, cond_case}
use Rattle.mx_journal.specs.declared.records.Record.{Record}
use Rattle.mx_journal.specs.Records.{Ascending, above}

-- what holds of the records above n, by whether the first one is
pub above_case : (P : List Record → Type 0) (n : ℕ) (x : Record) (xs : List Record) → (n < x.number → P (x ∷ xs)) → (x.number ≤ n → P (above n xs)) → P (above n (x ∷ xs))
above_case P n x xs here later =
    cond_case P (nat_lt n x.number) (x ∷ xs) (above n xs) (λ t. here (lt_true n x.number t)) (λ f. later (let q = lt_false n x.number f in omega arith))

-- a list whose numbers are all above n
pub above_all : (n : ℕ) (xs : List Record) → Ascending (suc n) xs → above n xs ≡ xs
above_all n [] a = refl
above_all n (x ∷ xs) a = above_case (λ l. l ≡ x ∷ xs) n x xs (λ _. refl) (λ l. absurd (let low = a.0 in omega arith))

-- the records above n ascend, from above n on
pub ascending_rest_above : (n k : ℕ) (xs : List Record) → Ascending k xs → Ascending (suc n) (above n xs)
ascending_rest_above n k [] a = tt
ascending_rest_above n k (x ∷ xs) a =
    above_case (λ l. Ascending (suc n) l) n x xs (λ l. (omega arith, a.1)) (λ _. ascending_rest_above n (suc x.number) xs a.1)

-- the first record above n bears a number above n, and the others above n are those above its number
pub above_more : (n : ℕ) (xs : List Record) (y : Record) (rest : List Record) → above n xs ≡ y ∷ rest → n < y.number
above_more n [] y rest e = let bad : ⊥ = cc in absurd bad
above_more n (x ∷ xs) y rest was =
    above_case (λ l. l ≡ y ∷ rest → n < y.number) n x xs
    (λ l e. let q : x ≡ y = cc in subst (λ (z : Record). n < z.number) q l)
    (λ _ e. above_more n xs y rest e) was

pub above_next : (n k : ℕ) (xs : List Record) (y : Record) (rest : List Record) → Ascending k xs → above n xs ≡ y ∷ rest → above y.number xs ≡ rest
above_next n k [] y rest a e = let bad : ⊥ = cc in absurd bad
above_next n k (x ∷ xs) y rest a was =
    above_case (λ l. l ≡ y ∷ rest → above y.number (x ∷ xs) ≡ rest) n x xs
    (λ l e.
    let q : x ≡ y = cc in
    let r : xs ≡ rest = cc in
    subst (λ (z : Record). above z.number (x ∷ xs) ≡ rest) q
    (above_case (λ zs. zs ≡ rest) x.number x xs (λ bad. absurd (omega arith)) (λ _. above_all x.number xs a.1 ∙ r)))
    (λ l e.
    let low = above_more n xs y rest e in
    above_case (λ zs. zs ≡ rest) y.number x xs (λ bad. absurd (omega arith)) (λ _. above_next n (suc x.number) xs y rest a.1 e)) was

-- the records above a higher number are among those above a lower one
pub above_above : (m n : ℕ) (xs : List Record) → m ≤ n → above n (above m xs) ≡ above n xs
above_above m n [] l = refl
above_above m n (x ∷ xs) l =
    above_case (λ zs. above n zs ≡ above n (x ∷ xs)) m x xs (λ _. refl)
    (λ low. above_above m n xs l ∙ above_case (λ zs. above n xs ≡ zs) n x xs (λ bad. absurd (omega arith)) (λ _. refl))

-- how many records are above a number: no more than there are, and fewer by no more than the numbers up to it
pub above_shorter : (n : ℕ) (xs : List Record) → length (above n xs) ≤ length xs
above_shorter n [] = omega arith
above_shorter n (x ∷ xs) =
    let rest = above_shorter n xs in
    above_case (λ l. length l ≤ suc (length xs)) n x xs (λ _. omega arith) (λ _. omega arith)

pub few_up_to : (n k : ℕ) (xs : List Record) → Ascending (suc k) xs → k ≤ n → k + length xs ≤ n + length (above n xs)
few_up_to n k [] a l = omega arith
few_up_to n k (x ∷ xs) a l =
    let low = a.0 in
    above_case (λ q. k + suc (length xs) ≤ n + length q) n x xs (λ _. omega arith)
    (λ here. let rest = few_up_to n x.number xs a.1 here in omega arith)
