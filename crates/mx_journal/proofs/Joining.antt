-- How the records of two maps are gone through together, and joined.
use Rattle.std.proofs.Common.{ℕ, suc, ◌+◌, ◌<◌, ◌≤◌, ◌≡◌, ◌≢◌, ◌⊎◌, inl, inr, List, [], ◌∷◌, ◌++◌, length, None, refl, sym, ◌∙◌, ap, subst, arith}
use Rattle.mx_stamps.specs.Lists.{IsIn}
use Rattle.mx_stamps.proofs.Choices.{compared}
use Rattle.mx_journal.specs.declared.records.Record.{Record}
use Rattle.mx_journal.specs.Agreement.{AreAgreeing, IsConsistent, IsSubmap}
use Rattle.mx_journal.specs.Records.{Ascending, IsNumbered, IsThere, above, record_at, top_of, with_record, with_records}
use Rattle.mx_journal.specs.Runs.{AreNumbersOf, IsJoinedUpTo, IsNextOfBoth}
use Rattle.mx_journal.proofs.Maps.{ascending_above, ascending_from, ascending_same, ascending_with_all, consistent_across, consistent_among, in_with_record, in_with_records, none_found, same_members, with_record_case, with_record_has, with_record_keeps, with_records_have, with_records_keep}
use Rattle.mx_journal.proofs.Going.{above_above, above_all, above_case, above_more, above_next, ascending_rest_above}
use Rattle.mx_journal.proofs.Found.{above_has, in_above}

-- nothing is above n, or the first record above n is the least
pub none_behind : (n : ℕ) (ys : List Record) → above n ys ≡ [] → (y : Record) → IsIn y ys → n < y.number → ⊥
none_behind n ys e y h l = subst (λ q. IsIn y q) e (above_has n ys y h l)

pub least_behind : (n k : ℕ) (ys : List Record) (t : Record) (rest : List Record) → Ascending k ys → above n ys ≡ t ∷ rest → (y : Record) → IsIn y ys → n < y.number → t.number ≤ y.number
least_behind n k ys t rest a e y h l = elim (subst (λ q. IsIn y q) e (above_has n ys y h l)) [
  | inl q ↦ (let s : y.number ≡ t.number = ap (λ (z : Record). z.number) q in omega arith)
  | inr m ↦ (
      let high = ascending_above (suc t.number) (above t.number ys) (ascending_rest_above t.number k ys a) y (subst (λ q. IsIn y q) (sym (above_next n k ys t rest a e)) m) in
      omega arith)
]

pub next_here : (n k : ℕ) (xs ys : List Record) (r : Record) (rest : List Record) → Ascending k xs → above n xs ≡ r ∷ rest → ((y : Record) → IsIn y ys → n < y.number → r.number ≤ y.number) → IsNextOfBoth n xs ys r
next_here n k xs ys r rest a e other = record {
  member = inl (in_above n xs r (subst (λ q. IsIn r q) (sym e) (inl refl)));
  behind = above_more n xs r rest e;
  least = λ x w l. elim w [ inl h ↦ least_behind n k xs r rest a e x h l | inr h ↦ other x h l ];
}

pub next_there : (n k : ℕ) (xs ys : List Record) (r : Record) (rest : List Record) → Ascending k ys → above n ys ≡ r ∷ rest → ((x : Record) → IsIn x xs → n < x.number → r.number ≤ x.number) → IsNextOfBoth n xs ys r
next_there n k xs ys r rest a e other = record {
  member = inr (in_above n ys r (subst (λ q. IsIn r q) (sym e) (inl refl)));
  behind = above_more n ys r rest e;
  least = λ x w l. elim w [ inl h ↦ other x h l | inr h ↦ least_behind n k ys r rest a e x h l ];
}

-- records of two agreeing maps that bear one number are equal
same_of_both : (xs ys : List Record) → Ascending 1 xs → Ascending 1 ys → AreAgreeing xs ys → (x y : Record) → IsIn x xs ⊎ IsIn x ys → IsIn y xs ⊎ IsIn y ys → x.number ≡ y.number → x ≡ y
same_of_both xs ys a b agree x y (inl h) (inl t) e = ascending_same 1 xs a x y h t e
same_of_both xs ys a b agree x y (inl h) (inr t) e = agree x y h t e
same_of_both xs ys a b agree x y (inr h) (inl t) e = sym (agree y x t h (sym e))
same_of_both xs ys a b agree x y (inr h) (inr t) e = ascending_same 1 ys b x y h t e

-- nothing so far bears the next record's number
pub next_fresh : (from last : ℕ) (xs ys js : List Record) (r : Record) → IsJoinedUpTo from last xs ys js → IsNextOfBoth last xs ys r → (x : Record) → IsIn x js → x.number ≢ r.number
next_fresh from last xs ys js r j next x h e = let w = j.known x h in let a = w.2 in let b = next.behind in absurd (omega arith)

pub none_so_far : (from last : ℕ) (xs ys js : List Record) (r : Record) → IsJoinedUpTo from last xs ys js → IsNextOfBoth last xs ys r → record_at r.number js ≡ None
none_so_far from last xs ys js r j next = none_found r.number js (next_fresh from last xs ys js r j next)

-- the next record joins
pub joined_more : (from last : ℕ) (xs ys js : List Record) (r : Record) → Ascending 1 xs → Ascending 1 ys → AreAgreeing xs ys → from ≤ last → IsJoinedUpTo from last xs ys js → IsNextOfBoth last xs ys r → IsJoinedUpTo from r.number xs ys (with_record r js)
joined_more from last xs ys js r a b agree low j next =
    let behind = next.behind in
    record {
      known = λ x h. elim (in_with_record r js x h) [
        | inl m ↦ (let w = j.known x m in let q = w.2 in (w.0, w.1, omega arith))
        | inr e ↦ (let s : x.number ≡ r.number = ap (λ (z : Record). z.number) e in (subst (λ z. IsIn z xs ⊎ IsIn z ys) (sym e) next.member, omega arith, omega arith))
      ];
      all = λ x w f t. elim (compared last x.number) [
        | inl l ↦ (
            let least = next.least x w l in
            let e : r ≡ x = same_of_both xs ys a b agree r x next.member w (let q : r.number ≡ x.number = omega arith in q) in
            subst (λ z. IsIn z (with_record r js)) e (with_record_has r js (λ z h q. absurd (next_fresh from last xs ys js r j next z h q))))
        | inr (inl e) ↦ with_record_keeps r js x (j.all x w f (omega arith))
        | inr (inr l) ↦ with_record_keeps r js x (j.all x w f (omega arith))
      ];
    }

-- where nothing is left up to `to`, all up to there are joined
pub joined_all : (from last to : ℕ) (xs ys js : List Record) → last ≤ to → IsJoinedUpTo from last xs ys js → ((x : Record) → IsIn x xs ⊎ IsIn x ys → last < x.number → to < x.number) → IsJoinedUpTo from to xs ys js
joined_all from last to xs ys js l j past = record {
  known = λ x h. (let w = j.known x h in let q = w.2 in (w.0, w.1, omega arith));
  all = λ x w f t. elim (compared last x.number) [
    | inl b ↦ absurd (let q = past x w b in omega arith)
    | inr (inl e) ↦ j.all x w f (omega arith)
    | inr (inr b) ↦ j.all x w f (omega arith)
  ];
}

-- how many records are above a number: as many as above a lower one where none is between, else one fewer
pub above_same : (n m : ℕ) (xs : List Record) → n ≤ m → ((x : Record) → IsIn x xs → n < x.number → m < x.number) → above n xs ≡ above m xs
above_same n m [] l past = refl
above_same n m (x ∷ xs) l past =
    above_case (λ q. q ≡ above m (x ∷ xs)) n x xs
    (λ high. let far = past x (inl refl) high in above_case (λ q. x ∷ xs ≡ q) m x xs (λ _. refl) (λ bad. absurd (omega arith)))
    (λ low. above_same n m xs l (λ z h. past z (inr h)) ∙ above_case (λ q. above m xs ≡ q) m x xs (λ bad. absurd (omega arith)) (λ _. refl))

first_there : (m k : ℕ) (zs : List Record) → Ascending k zs → ((x : Record) → IsIn x zs → m ≤ x.number) → IsThere m zs → length zs ≡ suc (length (above m zs))
first_there m k [] a least t = absurd t.1
first_there m k (z ∷ zs) a least t =
    let same : z.number ≡ m = elim t.1 [
      | inl e ↦ ap (λ (w : Record). w.number) (sym e) ∙ t.2
      | inr h ↦ absurd (let low = least z (inl refl) in let high = ascending_above (suc z.number) zs a.1 t.0 h in omega (arith, t.2))
    ] in
    above_case (λ q. suc (length zs) ≡ suc (length q)) m z zs (λ bad. absurd (omega arith))
    (λ _. ap (λ q. suc (length q)) (sym (above_all m zs (subst (λ n. Ascending (suc n) zs) same a.1))))

pub above_fewer : (n m k : ℕ) (xs : List Record) → Ascending k xs → n < m → ((x : Record) → IsIn x xs → n < x.number → m ≤ x.number) → IsThere m xs → length (above n xs) ≡ suc (length (above m xs))
above_fewer n m k xs a l least t =
    let order = ascending_rest_above n k xs a in
    first_there m (suc n) (above n xs) order (λ x h. least x (in_above n xs x h) (let q = ascending_above (suc n) (above n xs) order x h in omega arith))
    (t.0, above_has n xs t.0 t.1 (omega (arith, t.2)), t.2)
    ∙ ap (λ q. suc (length q)) (above_above n m xs (omega arith))

-- a map with a record of a number that it lacks is one longer
pub length_with : (r : Record) (xs : List Record) → ((x : Record) → IsIn x xs → x.number ≢ r.number) → length (with_record r xs) ≡ length xs + 1
length_with r [] fresh = refl
length_with r (y ∷ ys) fresh =
    with_record_case (λ l. length l ≡ suc (length ys) + 1) r y ys (λ _. omega arith)
    (λ _. let rest = length_with r ys (λ x h. fresh x (inr h)) in omega arith) (λ e. absurd (fresh y (inl refl) e))

-- a number is at most the greatest
pub top_above : (xs : List Record) (x : Record) → IsIn x xs → x.number ≤ top_of xs
top_above [] x h = absurd h
top_above (y ∷ ys) x (inl e) = let s : x.number ≡ y.number = ap (λ (z : Record). z.number) e in omega arith
top_above (y ∷ ys) x (inr h) = let rest = top_above ys x h in omega arith

-- all records of both above a number that ours are above, joined, are the join
pub joined_is : (from to : ℕ) (xs ys js : List Record) → Ascending (suc from) xs → Ascending 1 ys → Ascending 1 js → AreAgreeing xs ys → top_of xs ≤ to → top_of ys ≤ to → IsJoinedUpTo from to xs ys js → js ≡ with_records (above from ys) xs
joined_is from to xs ys js a b c agree l m j =
    let zs = above from ys in
    let order = ascending_rest_above from 1 ys b in
    let high = ascending_above (suc from) zs order in
    let agrees : AreAgreeing xs zs = λ x y h t e. agree x y h (in_above from ys y t) e in
    same_members 1 1 js (with_records zs xs) c (ascending_with_all zs xs (ascending_from 1 (suc from) xs (omega arith) a) (λ x h. let q = high x h in omega arith))
    (λ x h. let w = j.known x h in elim w.0 [
      | inl t ↦ with_records_keep zs xs x t
      | inr t ↦ with_records_have zs xs agrees (ascending_same (suc from) zs order) x (above_has from ys x t w.1)
    ])
    (λ x h. elim (in_with_records zs xs x h) [
      | inl t ↦ (let low = ascending_above (suc from) xs a x t in let top = top_above xs x t in j.all x (inl t) (omega arith) (omega arith))
      | inr t ↦ (let low = high x t in let k = in_above from ys x t in let top = top_above ys x k in j.all x (inr k) (omega arith) (omega arith))
    ])

above_none : (to : ℕ) (xs : List Record) → ((x : Record) → IsIn x xs → x.number ≤ to) → above to xs ≡ []
above_none to [] low = refl
above_none to (x ∷ xs) low =
    above_case (λ q. q ≡ []) to x xs (λ bad. absurd (let l = low x (inl refl) in omega arith)) (λ _. above_none to xs (λ z h. low z (inr h)))

pub none_past : (to : ℕ) (xs : List Record) → top_of xs ≤ to → above to xs ≡ []
none_past to xs l = above_none to xs (λ x h. let high = top_above xs x h in omega arith)

-- a list of records by way of the map of those that are new
pub of_new_agrees : (xs rs new : List Record) → IsConsistent (xs ++ rs) → IsSubmap new rs → AreAgreeing xs new
of_new_agrees xs rs new c s x y h t e = consistent_across xs rs c x y h (s y t) e

pub of_new_joins : (xs rs new : List Record) → Ascending 1 xs → IsNumbered rs → IsConsistent (xs ++ rs) → IsSubmap new rs → AreNumbersOf rs new xs → with_records new xs ≡ with_records rs xs
of_new_joins xs rs new a n c s numbers =
    let across : AreAgreeing xs rs = consistent_across xs rs c in
    let among : IsConsistent rs = consistent_among xs rs c in
    same_members 1 1 (with_records new xs) (with_records rs xs) (ascending_with_all new xs a (λ x h. n x (s x h))) (ascending_with_all rs xs a n)
    (λ x h. elim (in_with_records new xs x h) [
      | inl k ↦ with_records_keep rs xs x k
      | inr k ↦ with_records_have rs xs across among x (s x k)
    ])
    (λ x h. elim (in_with_records rs xs x h) [
      | inl k ↦ with_records_keep new xs x k
      | inr k ↦ elim (numbers x k) [
        | inl w ↦ (let e : w.0 ≡ x = among w.0 x (s w.0 w.1) k w.2 in subst (λ z. IsIn z (with_records new xs)) e
            (with_records_have new xs (of_new_agrees xs rs new c s) (λ y z p q. among y z (s y p) (s z q)) w.0 w.1))
        | inr w ↦ (let e : w.0 ≡ x = across w.0 x w.1 k w.2 in with_records_keep new xs x (subst (λ z. IsIn z xs) e w.1))
      ]
    ])
