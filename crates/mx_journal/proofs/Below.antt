-- The records below a number, and journals without gaps.
use Rattle.std.proofs.Common.{ℕ, suc, ◌<◌, ◌≤◌, ◌≡◌, ◌≢◌, inl, inr, true, false, List, [], ◌∷◌, ◌++◌, Some, None, nat_lt, nat_eq, refl, sym, ◌∙◌, ap, subst, arith}
use Rattle.mx_stamps.specs.Lists.{IsIn}
use Rattle.mx_stamps.proofs.Choices.{lt_true, lt_is, lt_not, eq_true, eq_false, eq_not, compared, cond_case, cond_true, cond_false}
use Rattle.mx_journal.specs.declared.records.Record.{Record}
use Rattle.mx_journal.specs.Records.{Ascending, IsThere, below, record_at}
use Rattle.mx_journal.specs.Gapless.{IsGapless, first_missing}
use Rattle.mx_journal.proofs.Maps.{ascending_above, none_found, none_in}

-- what holds of the first missing number, by whether the first record bears k
pub first_missing_case : (P : ℕ → Type 0) (k : ℕ) (x : Record) (xs : List Record) → (x.number ≡ k → P (first_missing (suc k) xs)) → (x.number ≢ k → P k) → P (first_missing k (x ∷ xs))
first_missing_case P k x xs here gone =
    cond_case P (nat_eq x.number k) (first_missing (suc k) xs) k (λ t. here (eq_true x.number k t)) (λ f. gone (eq_false x.number k f))

-- what holds of the records below n, by whether the first one is
pub below_case : (P : List Record → Type 0) (n : ℕ) (x : Record) (xs : List Record) → (x.number < n → P (x ∷ below n xs)) → (n ≤ x.number → P []) → P (below n (x ∷ xs))
below_case P n x xs here gone =
    cond_case P (nat_lt x.number n) (x ∷ below n xs) [] (λ t. here (lt_true x.number n t)) (λ f. gone (let e : nat_lt x.number n ≡ false = f in elim (compared x.number n) [
      | inl l ↦ absurd (let q : true ≡ false = sym (lt_is x.number n l) ∙ e in cc)
      | inr (inl q) ↦ omega arith
      | inr (inr l) ↦ omega arith
    ]))

-- a record below n is a member and bears a number below n
pub in_below : (n : ℕ) (xs : List Record) (x : Record) → IsIn x (below n xs) → IsIn x xs × (x.number < n)
in_below n [] x h = absurd h
in_below n (y ∷ ys) x h =
    below_case (λ l. IsIn x l → IsIn x (y ∷ ys) × (x.number < n)) n y ys
    (λ t k. elim k [
      | inl e ↦ (inl e, subst (λ (z : Record). z.number < n) (sym e) t)
      | inr m ↦ (let r = in_below n ys x m in (inr r.0, r.1))
    ])
    (λ _ k. absurd k) h

-- and each such member is below n
pub below_has : (n k : ℕ) (xs : List Record) → Ascending k xs → (x : Record) → IsIn x xs → x.number < n → IsIn x (below n xs)
below_has n k [] a x h l = absurd h
below_has n k (y ∷ ys) a x h l =
    below_case (λ zs. IsIn x zs) n y ys
    (λ _. elim h [ inl e ↦ inl e | inr m ↦ inr (below_has n (suc y.number) ys a.1 x m l) ])
    (λ t. elim h [
      | inl e ↦ absurd (let q : x.number ≡ y.number = ap (λ (z : Record). z.number) e in omega arith)
      | inr m ↦ absurd (let q = ascending_above (suc y.number) ys a.1 x m in omega arith)
    ])

-- the records below n ascend as well
pub ascending_below : (n k : ℕ) (xs : List Record) → Ascending k xs → Ascending k (below n xs)
ascending_below n k [] a = tt
ascending_below n k (y ∷ ys) a =
    below_case (λ l. Ascending k l) n y ys (λ _. (a.0, ascending_below n (suc y.number) ys a.1)) (λ _. tt)

pub below_none : (n k : ℕ) (xs : List Record) → Ascending k xs → n ≤ k → below n xs ≡ []
below_none n k [] a l = refl
below_none n k (y ∷ ys) a l = cond_false (nat_lt y.number n) (y ∷ below n ys) [] (lt_not y.number n (omega (arith, a.0)))

-- a journal that has all of k to m: the records below m + 1 are those below m and one more
pub below_more : (m k : ℕ) (xs : List Record) → Ascending k xs → k ≤ m → m < first_missing k xs → (x : Record) × IsIn x xs × (x.number ≡ m) × (below (suc m) xs ≡ below m xs ++ x ∷ [])
below_more m k [] a l h = absurd (omega arith)
below_more m k (y ∷ ys) a l was =
    first_missing_case (λ q. m < q → (x : Record) × IsIn x (y ∷ ys) × (x.number ≡ m) × (below (suc m) (y ∷ ys) ≡ below m (y ∷ ys) ++ x ∷ [])) k y ys
    (λ e h.
    let first : below (suc m) (y ∷ ys) ≡ y ∷ below (suc m) ys = cond_true (nat_lt y.number (suc m)) (y ∷ below (suc m) ys) [] (lt_is y.number (suc m) (omega arith)) in
    elim (compared k m) [
      | inl p ↦
          let r = below_more m (suc k) ys (subst (λ q. Ascending (suc q) ys) e a.1) (omega arith) h in
          let one : below m (y ∷ ys) ≡ y ∷ below m ys = cond_true (nat_lt y.number m) (y ∷ below m ys) [] (lt_is y.number m (omega (arith, e, p))) in
          (r.0, inr r.1, r.2, first ∙ ap (λ zs. y ∷ zs) r.3 ∙ ap (λ zs. zs ++ r.0 ∷ []) (sym one))
      | inr (inl p) ↦
          let none : below m (y ∷ ys) ≡ [] = cond_false (nat_lt y.number m) (y ∷ below m ys) [] (lt_not y.number m (omega (arith, e, p))) in
          let rest : below (suc m) ys ≡ [] = below_none (suc m) (suc y.number) ys a.1 (omega (arith, e, p)) in
          (y, inl refl, e ∙ p, first ∙ ap (λ zs. y ∷ zs) rest ∙ ap (λ zs. zs ++ y ∷ []) (sym none))
      | inr (inr p) ↦ absurd (omega arith)
    ])
    (λ _ h. absurd (omega arith)) was

-- the first missing number is at least k
pub first_missing_above : (k : ℕ) (xs : List Record) → k ≤ first_missing k xs
first_missing_above k [] = omega arith
first_missing_above k (y ∷ ys) =
    first_missing_case (λ q. k ≤ q) k y ys (λ _. let l = first_missing_above (suc k) ys in omega arith) (λ _. omega arith)

-- the first missing number is missing
pub first_missing_is_missing : (k : ℕ) (xs : List Record) → Ascending k xs → record_at (first_missing k xs) xs ≡ None
first_missing_is_missing k [] a = refl
first_missing_is_missing k (y ∷ ys) a =
    first_missing_case (λ q. k ≤ q → record_at q (y ∷ ys) ≡ None) k y ys
    (λ e l.
    let b : Ascending (suc k) ys = subst (λ q. Ascending (suc q) ys) e a.1 in
    let low = first_missing_above (suc k) ys in
    cond_false (nat_eq y.number (first_missing (suc k) ys)) (Some y) (record_at (first_missing (suc k) ys) ys) (eq_not y.number (first_missing (suc k) ys) (λ q. absurd (omega arith)))
    ∙ first_missing_is_missing (suc k) ys b)
    (λ ne l. none_found k (y ∷ ys) (λ x h e. elim h [
      | inl q ↦ ne (sym (ap (λ (z : Record). z.number) q) ∙ e)
      | inr m ↦ (let u = ascending_above (suc y.number) ys a.1 x m in let v = a.0 in absurd (omega arith))
    ])) (first_missing_above k (y ∷ ys))

-- all from k to below it are there
pub there_below_first_missing : (k : ℕ) (xs : List Record) (n : ℕ) → k ≤ n → n < first_missing k xs → IsThere n xs
there_below_first_missing k [] n l h = absurd (omega arith)
there_below_first_missing k (y ∷ ys) n l was =
    first_missing_case (λ q. n < q → IsThere n (y ∷ ys)) k y ys
    (λ e h. elim (compared k n) [
      | inl p ↦ (let r = there_below_first_missing (suc k) ys n (omega arith) h in (r.0, inr r.1, r.2))
      | inr (inl p) ↦ (y, inl refl, e ∙ p)
      | inr (inr p) ↦ absurd (omega arith)
    ])
    (λ _ h. absurd (omega arith)) was

-- a journal without gaps up to m has no number up to m missing
pub gapless_first_missing : (m : ℕ) (xs : List Record) → Ascending 1 xs → IsGapless m xs → m < first_missing 1 xs
gapless_first_missing m xs a g =
    let none = first_missing_is_missing 1 xs a in
    let low = first_missing_above 1 xs in
    elim (compared m (first_missing 1 xs)) [
      | inl l ↦ l
      | inr (inl e) ↦ absurd (let t = g (first_missing 1 xs) low (omega arith) in none_in (first_missing 1 xs) xs none t.0 t.1 t.2)
      | inr (inr l) ↦ absurd (let t = g (first_missing 1 xs) low (omega arith) in none_in (first_missing 1 xs) xs none t.0 t.1 t.2)
    ]
