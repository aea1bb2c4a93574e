-- The laws of journals: lookup, membership, what stays of the order, and equality by members.
use Rattle.std.proofs.Common.{ℕ, suc, ◌<◌, ◌≤◌, ◌≡◌, ◌≢◌, ◌⊎◌, inl, inr, cond, List, [], ◌∷◌, ◌++◌, Option, Some, None, nat_lt, nat_eq, refl, sym, ◌∙◌, ap, subst, arith}
use Rattle.std.proofs.lemmas.Option.{same_Some}
use Rattle.mx_stamps.specs.Lists.{IsIn}
use Rattle.mx_stamps.proofs.Lists.{none_is_no_some, in_left, in_right}
use Rattle.mx_stamps.proofs.Choices.{lt_true, lt_false, eq_true, eq_false, eq_is, eq_not, cond_case, cond_true, cond_false}
use Rattle.mx_journal.specs.declared.records.Record.{Record}
use Rattle.mx_journal.specs.Records.{Ascending, IsNumbered, record_at, with_record, with_records}
use Rattle.mx_journal.specs.Agreement.{AgreesWith, AreAgreeing, IsConsistent, IsSubmap}

-- what holds of a lookup, by whether the first record bears the number
pub record_at_case : (P : Option Record → Type 0) (n : ℕ) (x : Record) (xs : List Record) → (x.number ≡ n → P (Some x)) → (x.number ≢ n → P (record_at n xs)) → P (record_at n (x ∷ xs))
record_at_case P n x xs here later =
    cond_case P (nat_eq x.number n) (Some x) (record_at n xs) (λ t. here (eq_true x.number n t)) (λ f. later (eq_false x.number n f))

-- what holds of a map with one more record, by where its number stands
pub with_record_case : (P : List Record → Type 0) (r x : Record) (xs : List Record) → (r.number < x.number → P (r ∷ x ∷ xs)) → (x.number < r.number → P (x ∷ with_record r xs)) → (x.number ≡ r.number → P (x ∷ xs)) → P (with_record r (x ∷ xs))
with_record_case P r x xs first later here =
    cond_case P (nat_lt r.number x.number) (r ∷ x ∷ xs) (cond (nat_lt x.number r.number) (x ∷ with_record r xs) (x ∷ xs))
    (λ t. first (lt_true r.number x.number t))
    (λ f. cond_case P (nat_lt x.number r.number) (x ∷ with_record r xs) (x ∷ xs)
    (λ t. later (lt_true x.number r.number t))
    (λ g. here (let a = lt_false r.number x.number f in let b = lt_false x.number r.number g in omega arith)))

-- the numbers of an ascending list are at least its least one
pub ascending_above : (k : ℕ) (xs : List Record) → Ascending k xs → (x : Record) → IsIn x xs → k ≤ x.number
ascending_above k [] a x h = absurd h
ascending_above k (y ∷ ys) a x (inl e) = subst (λ (z : Record). k ≤ z.number) (sym e) a.0
ascending_above k (y ∷ ys) a x (inr h) = let l = ascending_above (suc y.number) ys a.1 x h in omega (arith, a.0)

-- a list that ascends from a number on ascends from any lower one on
pub ascending_from : (j k : ℕ) (xs : List Record) → j ≤ k → Ascending k xs → Ascending j xs
ascending_from j k [] l a = tt
ascending_from j k (y ∷ ys) l a = (omega (arith, a.0), a.1)

-- a record found is a member and bears the number
pub found_in : (n : ℕ) (xs : List Record) (x : Record) → record_at n xs ≡ Some x → IsIn x xs × (x.number ≡ n)
found_in n [] x h = absurd (none_is_no_some x h)
found_in n (y ∷ ys) x h =
    record_at_case (λ o. o ≡ Some x → IsIn x (y ∷ ys) × (x.number ≡ n)) n y ys
    (λ e s. let q : y ≡ x = same_Some y x s in (inl (sym q), subst (λ (z : Record). z.number ≡ n) q e))
    (λ _ s. let r = found_in n ys x s in (inr r.0, r.1)) h

-- where none is found, no member bears the number
pub none_in : (n : ℕ) (xs : List Record) → record_at n xs ≡ None → (x : Record) → IsIn x xs → x.number ≢ n
none_in n [] h x k e = absurd k
none_in n (y ∷ ys) h x k e =
    record_at_case (λ o. o ≡ None → ⊥) n y ys
    (λ _ s. none_is_no_some y (sym s))
    (λ ne s. elim k [ inl q ↦ ne (subst (λ (z : Record). z.number ≡ n) q e) | inr t ↦ none_in n ys s x t e ]) h

-- and the other way round
pub none_found : (n : ℕ) (xs : List Record) → ((x : Record) → IsIn x xs → x.number ≢ n) → record_at n xs ≡ None
none_found n [] h = refl
none_found n (y ∷ ys) h =
    cond_false (nat_eq y.number n) (Some y) (record_at n ys) (eq_not y.number n (h y (inl refl))) ∙ none_found n ys (λ x k. h x (inr k))

-- a member of a journal is found by its number
pub found_at : (k : ℕ) (xs : List Record) → Ascending k xs → (x : Record) → IsIn x xs → record_at x.number xs ≡ Some x
found_at k [] a x h = absurd h
found_at k (y ∷ ys) a x (inl e) =
    cond_true (nat_eq y.number x.number) (Some y) (record_at x.number ys) (eq_is y.number x.number (ap (λ (z : Record). z.number) (sym e))) ∙ ap Some (sym e)
found_at k (y ∷ ys) a x (inr h) =
    let l = ascending_above (suc y.number) ys a.1 x h in
    cond_false (nat_eq y.number x.number) (Some y) (record_at x.number ys) (eq_not y.number x.number (λ e. absurd (omega arith))) ∙ found_at (suc y.number) ys a.1 x h

-- members of a journal that bear one number are equal
pub ascending_same : (k : ℕ) (xs : List Record) → Ascending k xs → IsConsistent xs
ascending_same k xs a x y h t e =
    same_Some x y (sym (found_at k xs a x h) ∙ ap (λ n. record_at n xs) e ∙ found_at k xs a y t)

-- a record of a map with one more record was there or is the new one
pub in_with_record : (r : Record) (xs : List Record) (x : Record) → IsIn x (with_record r xs) → IsIn x xs ⊎ (x ≡ r)
in_with_record r [] x (inl e) = inr e
in_with_record r [] x (inr h) = absurd h
in_with_record r (y ∷ ys) x was =
    with_record_case (λ l. IsIn x l → IsIn x (y ∷ ys) ⊎ (x ≡ r)) r y ys
    (λ _ h. elim h [ inl e ↦ inr e | inr k ↦ inl k ])
    (λ _ h. elim h [ inl e ↦ inl (inl e) | inr k ↦ elim (in_with_record r ys x k) [ inl a ↦ inl (inr a) | inr e ↦ inr e ] ])
    (λ _ h. inl h) was

-- what was there stays
pub with_record_keeps : (r : Record) (xs : List Record) (x : Record) → IsIn x xs → IsIn x (with_record r xs)
with_record_keeps r [] x h = absurd h
with_record_keeps r (y ∷ ys) x h =
    with_record_case (λ l. IsIn x l) r y ys
    (λ _. inr h)
    (λ _. elim h [ inl e ↦ inl e | inr k ↦ inr (with_record_keeps r ys x k) ])
    (λ _. h)

-- a record that no other opposes is there afterwards
pub with_record_has : (r : Record) (xs : List Record) → AgreesWith r xs → IsIn r (with_record r xs)
with_record_has r [] agrees = inl refl
with_record_has r (y ∷ ys) agrees =
    with_record_case (λ l. IsIn r l) r y ys
    (λ _. inl refl)
    (λ _. inr (with_record_has r ys (λ x h e. agrees x (inr h) e)))
    (λ e. inl (sym (agrees y (inl refl) e)))

-- the order stays
pub ascending_with : (k : ℕ) (r : Record) (xs : List Record) → Ascending k xs → k ≤ r.number → Ascending k (with_record r xs)
ascending_with k r [] a l = (l, tt)
ascending_with k r (y ∷ ys) a l =
    with_record_case (λ xs. Ascending k xs) r y ys
    (λ t. (l, ((omega arith), a.1)))
    (λ t. (a.0, ascending_with (suc y.number) r ys a.1 (omega arith)))
    (λ _. a)

-- a number that is there already changes nothing
pub with_record_there : (k : ℕ) (r : Record) (xs : List Record) → Ascending k xs → (x : Record) → IsIn x xs → x.number ≡ r.number → with_record r xs ≡ xs
with_record_there k r [] a x h e = absurd h
with_record_there k r (y ∷ ys) a x h e =
    with_record_case (λ l. l ≡ y ∷ ys) r y ys
    (λ t. absurd (let l = ascending_above k (y ∷ ys) (a.0, a.1) x h in let m = ascending_above y.number (y ∷ ys) (omega arith, a.1) x h in omega arith))
    (λ t. elim h [
      | inl q ↦ absurd (let s : x.number ≡ y.number = ap (λ (z : Record). z.number) q in omega arith)
      | inr m ↦ ap (λ l. y ∷ l) (with_record_there (suc y.number) r ys a.1 x m e)
    ])
    (λ _. refl)

-- the same for lists of records
pub in_with_records : (rs xs : List Record) (x : Record) → IsIn x (with_records rs xs) → IsIn x xs ⊎ IsIn x rs
in_with_records [] xs x h = inl h
in_with_records (r ∷ rs) xs x h = elim (in_with_records rs (with_record r xs) x h) [
  | inl a ↦ elim (in_with_record r xs x a) [ inl b ↦ inl b | inr e ↦ inr (inl e) ]
  | inr b ↦ inr (inr b)
]

pub with_records_keep : (rs xs : List Record) (x : Record) → IsIn x xs → IsIn x (with_records rs xs)
with_records_keep [] xs x h = h
with_records_keep (r ∷ rs) xs x h = with_records_keep rs (with_record r xs) x (with_record_keeps r xs x h)

pub with_records_have : (rs xs : List Record) → AreAgreeing xs rs → IsConsistent rs → (x : Record) → IsIn x rs → IsIn x (with_records rs xs)
with_records_have [] xs across among x h = absurd h
with_records_have (r ∷ rs) xs across among x (inl e) =
    with_records_keep rs (with_record r xs) x (subst (λ z. IsIn z (with_record r xs)) (sym e) (with_record_has r xs (λ y k q. across y r k (inl refl) q)))
with_records_have (r ∷ rs) xs across among x (inr h) =
    with_records_have rs (with_record r xs)
    (λ y z k t q. elim (in_with_record r xs y k) [
      | inl m ↦ across y z m (inr t) q
      | inr e ↦ among y z (inl e) (inr t) q
    ])
    (λ y z k t q. among y z (inr k) (inr t) q) x h

pub ascending_with_all : (rs xs : List Record) → Ascending 1 xs → IsNumbered rs → Ascending 1 (with_records rs xs)
ascending_with_all [] xs a h = a
ascending_with_all (r ∷ rs) xs a h = ascending_with_all rs (with_record r xs) (ascending_with 1 r xs a (h r (inl refl))) (λ x k. h x (inr k))

-- a list and a journal that are consistent together agree, and the list does in itself
pub consistent_across : (xs rs : List Record) → IsConsistent (xs ++ rs) → AreAgreeing xs rs
consistent_across xs rs c x y h t e = c x y (in_left x xs rs h) (in_right y xs rs t) e

pub consistent_among : (xs rs : List Record) → IsConsistent (xs ++ rs) → IsConsistent rs
consistent_among xs rs c x y h t e = c x y (in_right x xs rs h) (in_right y xs rs t) e

-- journals with the same members are equal
pub same_members : (j k : ℕ) (xs ys : List Record) → Ascending j xs → Ascending k ys → IsSubmap xs ys → IsSubmap ys xs → xs ≡ ys
same_members j k [] [] a b s t = refl
same_members j k [] (y ∷ ys) a b s t = absurd (t y (inl refl))
same_members j k (x ∷ xs) [] a b s t = absurd (s x (inl refl))
same_members j k (x ∷ xs) (y ∷ ys) a b s t =
    let head : x ≡ y = elim (s x (inl refl)) [
      | inl e ↦ e
      | inr h ↦ elim (t y (inl refl)) [
        | inl e ↦ sym e
        | inr m ↦ absurd (let l = ascending_above (suc y.number) ys b.1 x h in let q = ascending_above (suc x.number) xs a.1 y m in omega arith)
      ]
    ] in
    let same : x.number ≡ y.number = ap (λ (z : Record). z.number) head in
    let there : IsSubmap xs ys = λ z h. elim (s z (inr h)) [
      | inl e ↦ absurd (let l = ascending_above (suc x.number) xs a.1 z h in let q : z.number ≡ y.number = ap (λ (w : Record). w.number) e in omega arith)
      | inr m ↦ m
    ] in
    let back : IsSubmap ys xs = λ z h. elim (t z (inr h)) [
      | inl e ↦ absurd (let l = ascending_above (suc y.number) ys b.1 z h in let q : z.number ≡ x.number = ap (λ (w : Record). w.number) e in omega arith)
      | inr m ↦ m
    ] in
    ap (λ z. z ∷ xs) head ∙ ap (λ zs. y ∷ zs) (same_members (suc x.number) (suc y.number) xs ys a.1 b.1 there back)
