-- What a search finds in runs.
use Rattle.std.proofs.Common.{ℕ, zero, suc, ◌+◌, ◌-◌, ◌<◌, ◌≤◌, ◌≡◌, ◌≢◌, inl, inr, List, [], ◌∷◌, ◌++◌, Some, None, length, get_or, slice_get, take, drop, refl, sym, ◌∙◌, ap, subst, arith}
use Rattle.std.proofs.lemmas.List.{length-append}
use Rattle.std.proofs.lemmas.Option.{same_Some}
use Rattle.mx_stamps.specs.Lists.{IsIn}
use Rattle.mx_stamps.proofs.Lists.{append_nil, none_is_no_some, take_here}
use Rattle.mx_stamps.proofs.Choices.{compared}
use Rattle.mx_journal.specs.declared.records.Record.{Record}
use Rattle.mx_journal.specs.Gapless.{first_missing}
use Rattle.mx_journal.specs.Records.{Ascending, above, record_at, top_of}
use Rattle.mx_journal.specs.Runs.{AreConsecutive, AreRuns, first_number, flatten, last_number, runs_up_to}
use Rattle.mx_journal.proofs.Maps.{ascending_above, ascending_from, found_at, none_found}
use Rattle.mx_journal.proofs.Below.{first_missing_case}
use Rattle.mx_journal.proofs.Going.{above_all, above_case, above_more, above_next, ascending_rest_above}
use Rattle.mx_journal.proofs.Flat.{ascending_flat, ascending_run, flatten-append, in_run, last-append, last_consecutive, up_to_case}

-- the records above a number are members, and each such member is among them
pub in_above : (n : ℕ) (xs : List Record) (x : Record) → IsIn x (above n xs) → IsIn x xs
in_above n [] x h = absurd h
in_above n (y ∷ ys) x was = above_case (λ l. IsIn x l → IsIn x (y ∷ ys)) n y ys (λ _ h. h) (λ _ h. inr (in_above n ys x h)) was

pub above_has : (n : ℕ) (xs : List Record) (x : Record) → IsIn x xs → n < x.number → IsIn x (above n xs)
above_has n [] x h l = absurd h
above_has n (y ∷ ys) x (inl e) l =
    above_case (λ zs. IsIn x zs) n y ys (λ _. inl e) (λ low. absurd (let q : x.number ≡ y.number = ap (λ (z : Record). z.number) e in omega arith))
above_has n (y ∷ ys) x (inr h) l = above_case (λ zs. IsIn x zs) n y ys (λ _. inr h) (λ _. above_has n ys x h l)

-- what the first record above m says of the number behind m
pub none_above : (m k : ℕ) (xs : List Record) → Ascending k xs → above m xs ≡ [] → record_at (suc m) xs ≡ None
none_above m k xs a e = none_found (suc m) xs (λ x h q. absurd (subst (λ l. IsIn x l) e (above_has m xs x h (omega (arith, q)))))

pub some_above : (m k : ℕ) (xs : List Record) (y : Record) (rest : List Record) → Ascending k xs → above m xs ≡ y ∷ rest → y.number ≡ suc m → record_at (suc m) xs ≡ Some y
some_above m k xs y rest a e q =
    subst (λ n. record_at n xs ≡ Some y) q (found_at k xs a y (in_above m xs y (subst (λ l. IsIn y l) (sym e) (inl refl))))

pub other_above : (m k : ℕ) (xs : List Record) (y : Record) (rest : List Record) → Ascending k xs → above m xs ≡ y ∷ rest → y.number ≢ suc m → record_at (suc m) xs ≡ None
other_above m k xs y rest a e ne = none_found (suc m) xs (λ x h q.
    let high = above_more m xs y rest e in
    elim (subst (λ l. IsIn x l) e (above_has m xs x h (omega (arith, q)))) [
      | inl same ↦ ne (ap (λ (z : Record). z.number) (sym same) ∙ q)
      | inr more ↦ (
          let low = ascending_above (suc y.number) (above y.number xs) (ascending_rest_above y.number k xs a) x (subst (λ l. IsIn x l) (sym (above_next m k xs y rest a e)) more) in
          ne (elim (compared y.number (suc m)) [ inl l ↦ absurd (omega (arith, q)) | inr (inl s) ↦ s | inr (inr l) ↦ absurd (omega (arith, q)) ]))
    ])

-- a run of runs
pub run_at : (k : ℕ) (runs : List (List Record)) (i : ℕ) (run : List Record) → AreRuns k runs → i < length runs → run ≡ get_or runs i run → AreConsecutive (first_number run) run × (last_number run + 1 ≡ first_number run + length run) × (1 ≤ length run) × (k ≤ first_number run)
run_at k [] i run r l e = absurd (omega arith)
run_at k ([] ∷ runs) i run r l e = absurd r
run_at k ((x ∷ xs) ∷ runs) zero run r l e =
    let end = last_consecutive x xs r.1 in
    subst (λ q. AreConsecutive (first_number q) q × (last_number q + 1 ≡ first_number q + length q) × (1 ≤ length q) × (k ≤ first_number q)) (sym e)
    ((refl, r.1), omega arith, omega arith, r.0)
run_at k ((x ∷ xs) ∷ runs) (suc i) run r l e =
    let end = last_consecutive x xs r.1 in
    let low = r.0 in
    let w = run_at (last_number (x ∷ xs) + 2) runs i run r.2 (omega arith) e in
    let far = w.3 in
    (w.0, w.1, w.2, omega arith)

pub consecutive_ascends : (n : ℕ) (xs : List Record) → AreConsecutive n xs → Ascending n xs
consecutive_ascends n [] c = tt
consecutive_ascends n (x ∷ xs) c = let e = c.0 in (omega arith, subst (λ m. Ascending (suc m) xs) (sym e) (consecutive_ascends (suc n) xs c.1))

-- the last of consecutive numbers, of records that there are
pub last_of_run : (run : List Record) → AreConsecutive (first_number run) run → 1 ≤ length run → last_number run + 1 ≡ first_number run + length run
last_of_run [] c l = absurd (omega arith)
last_of_run (x ∷ xs) c l = let end = last_consecutive x xs c.1 in omega arith

pub some_run : (run : List Record) (n : ℕ) → n < last_number run → 1 ≤ length run
some_run [] n l = absurd (omega arith)
some_run (x ∷ xs) n l = omega arith

drop_none : (j : ℕ) → drop j (let none : List Record = [] in none) ≡ []
drop_none zero = refl
drop_none (suc j) = refl

-- the records above a number in a run
pub above_consecutive : (n f : ℕ) (xs : List Record) → AreConsecutive f xs → above n xs ≡ drop (suc n - f) xs
above_consecutive n f [] c = sym (drop_none (suc n - f))
above_consecutive n f (x ∷ xs) c =
    let e = c.0 in
    above_case (λ l. l ≡ drop (suc n - f) (x ∷ xs)) n x xs
    (λ l. ap (λ j. drop j (x ∷ xs)) (let q : 0 ≡ suc n - f = omega arith in q))
    (λ l. above_consecutive n (suc f) xs c.1 ∙ ap (λ j. drop j (x ∷ xs)) (let q : suc (suc n - suc f) ≡ suc n - f = omega arith in q))

-- and what follows the run stays
pub above_in_run : (n : ℕ) (x : Record) (xs ys : List Record) → AreConsecutive (suc x.number) xs → n < x.number + length xs → above n ((x ∷ xs) ++ ys) ≡ above n (x ∷ xs) ++ ys
above_in_run n x [] ys c l =
    above_case (λ l. l ≡ above n (x ∷ []) ++ ys) n x ys
    (λ _. above_case (λ l. x ∷ ys ≡ l ++ ys) n x [] (λ _. refl) (λ bad. absurd (omega arith)))
    (λ bad. absurd (omega arith))
above_in_run n x (y ∷ zs) ys c l =
    above_case (λ l. l ≡ above n (x ∷ y ∷ zs) ++ ys) n x ((y ∷ zs) ++ ys)
    (λ high. above_case (λ l. x ∷ y ∷ (zs ++ ys) ≡ l ++ ys) n x (y ∷ zs) (λ _. refl) (λ bad. absurd (omega arith)))
    (λ low. let e = c.0 in
    above_in_run n y zs ys (subst (λ m. AreConsecutive (suc m) zs) (sym e) c.1) (omega arith)
    ∙ above_case (λ l. above n (y ∷ zs) ++ ys ≡ l ++ ys) n x (y ∷ zs) (λ bad. absurd (omega arith)) (λ _. refl))

above_low : (n : ℕ) (xs ys : List Record) → ((x : Record) → IsIn x xs → x.number ≤ n) → above n (xs ++ ys) ≡ above n ys
above_low n [] ys low = refl
above_low n (x ∷ xs) ys low =
    let l = low x (inl refl) in
    above_case (λ l. l ≡ above n ys) n x (xs ++ ys) (λ bad. absurd (omega arith)) (λ _. above_low n xs ys (λ z h. low z (inr h)))

pub low_run : (n : ℕ) (x : Record) (xs ys : List Record) → AreConsecutive (suc x.number) xs → last_number (x ∷ xs) ≤ n → above n ((x ∷ xs) ++ ys) ≡ above n ys
low_run n x xs ys c l =
    let end = last_consecutive x xs c in
    above_low n (x ∷ xs) ys (λ z h. let w = in_run x.number (x ∷ xs) (refl, c) z h in let q = w.1 in omega arith)

pub above_past : (n k : ℕ) (runs : List (List Record)) → AreRuns k runs → length runs ≤ runs_up_to n runs → above n (flatten runs) ≡ []
above_past n k [] r l = refl
above_past n k ([] ∷ runs) r l = absurd r
above_past n k ((x ∷ xs) ∷ runs) r was =
    up_to_case (λ i. suc (length runs) ≤ i → above n (flatten ((x ∷ xs) ∷ runs)) ≡ []) n (x ∷ xs) runs
    (λ ends l. low_run n x xs (flatten runs) r.1 ends ∙ above_past n (last_number (x ∷ xs) + 2) runs r.2 (omega arith))
    (λ _ l. absurd (omega arith)) was

pub above_run : (n k : ℕ) (runs : List (List Record)) (i : ℕ) (run : List Record) → AreRuns k runs → i ≡ runs_up_to n runs → i < length runs → run ≡ get_or runs i run → (n < last_number run) × (above n (flatten runs) ≡ above n run ++ flatten (drop (suc i) runs))
above_run n k [] i run r at l e = absurd (omega arith)
above_run n k ([] ∷ runs) i run r at l e = absurd r
above_run n k ((x ∷ xs) ∷ runs) zero run r was l e =
    let end = last_consecutive x xs r.1 in
    up_to_case (λ i. 0 ≡ i → (n < last_number run) × (above n (flatten ((x ∷ xs) ∷ runs)) ≡ above n run ++ flatten runs)) n (x ∷ xs) runs
    (λ _ at. absurd (omega arith))
    (λ goes_on _. subst (λ q. (n < last_number q) × (above n (flatten ((x ∷ xs) ∷ runs)) ≡ above n q ++ flatten runs)) (sym e)
    (goes_on, above_in_run n x xs (flatten runs) r.1 (omega arith))) was
above_run n k ((x ∷ xs) ∷ runs) (suc i) run r was l e =
    up_to_case (λ j. suc i ≡ j → (n < last_number run) × (above n (flatten ((x ∷ xs) ∷ runs)) ≡ above n run ++ flatten (drop (suc i) runs))) n (x ∷ xs) runs
    (λ ends at.
    let w = above_run n (last_number (x ∷ xs) + 2) runs i run r.2 (omega arith) (omega arith) e in
    (w.0, low_run n x xs (flatten runs) r.1 ends ∙ w.1))
    (λ _ at. absurd (omega arith)) was

-- the greatest number is that of the last run's last record
top_ascending : (k : ℕ) (x : Record) (xs : List Record) → Ascending k (x ∷ xs) → top_of (x ∷ xs) ≡ last_number (x ∷ xs)
top_ascending k x [] a = omega arith
top_ascending k x (y ∷ ys) a =
    let rest = top_ascending (suc x.number) y ys a.1 in
    let low = ascending_above (suc x.number) (y ∷ ys) a.1 y (inl refl) in
    let q : y.number ≤ top_of (y ∷ ys) = omega arith in
    omega arith

last_flat : (k : ℕ) (runs : List (List Record)) (j : ℕ) (run : List Record) → AreRuns k runs → suc j ≡ length runs → Some run ≡ slice_get runs j → last_number run ≡ last_number (flatten runs)
last_flat k [] j run r l e = absurd (omega arith)
last_flat k ([] ∷ runs) j run r l e = absurd r
last_flat k ((x ∷ xs) ∷ []) zero run r l e = ap last_number (same_Some run (x ∷ xs) e) ∙ ap last_number (sym (append_nil (x ∷ xs)))
last_flat k ((x ∷ xs) ∷ []) (suc j) run r l e = absurd (omega arith)
last_flat k ((x ∷ xs) ∷ more ∷ runs) zero run r l e = absurd (omega arith)
last_flat k ((x ∷ xs) ∷ [] ∷ runs) (suc j) run r l e = let b = r.2 in absurd b
last_flat k ((x ∷ xs) ∷ (y ∷ ys) ∷ runs) (suc j) run r l e =
    last_flat (last_number (x ∷ xs) + 2) ((y ∷ ys) ∷ runs) j run r.2 (omega arith) e ∙ sym (last-append (x ∷ xs) y (ys ++ flatten runs))

pub top_flat : (runs : List (List Record)) (run : List Record) → AreRuns 1 runs → Some run ≡ slice_get runs (length runs - 1) → last_number run ≡ top_of (flatten runs)
top_flat [] run r e = absurd (none_is_no_some run (sym e))
top_flat ([] ∷ runs) run r e = absurd r
top_flat ((x ∷ xs) ∷ runs) run r e =
    last_flat 1 ((x ∷ xs) ∷ runs) (length ((x ∷ xs) ∷ runs) - 1) run r (omega arith) e
    ∙ sym (top_ascending 1 x (xs ++ flatten runs) (ascending_flat 1 ((x ∷ xs) ∷ runs) r))

-- the first number that is missing behind a run
first_missing_run : (m : ℕ) (xs ys : List Record) → AreConsecutive m xs → Ascending (suc (m + length xs)) ys → first_missing m (xs ++ ys) ≡ m + length xs
first_missing_run m [] [] c a = omega arith
first_missing_run m [] (y ∷ ys) c a =
    let low = a.0 in
    first_missing_case (λ q. q ≡ m + 0) m y ys (λ bad. absurd (omega arith)) (λ _. omega arith)
first_missing_run m (x ∷ xs) ys c a =
    let far : suc (m + suc (length xs)) ≡ suc (suc m + length xs) = omega arith in
    let rest = first_missing_run (suc m) xs ys c.1 (subst (λ q. Ascending q ys) far a) in
    first_missing_case (λ q. q ≡ m + suc (length xs)) m x (xs ++ ys) (λ _. omega arith) (λ ne. absurd (ne c.0))

above_goes_on : (n f : ℕ) (xs : List Record) → AreConsecutive f xs → f ≤ suc n → suc n ≤ f + length xs → AreConsecutive (suc n) (above n xs) × (suc n + length (above n xs) ≡ f + length xs)
above_goes_on n f [] c l h = (tt, omega arith)
above_goes_on n f (x ∷ xs) c l h =
    let e = c.0 in
    above_case (λ q. AreConsecutive (suc n) q × (suc n + length q ≡ f + suc (length xs))) n x xs
    (λ high. let q : f ≡ suc n = omega arith in (subst (λ m. AreConsecutive m (x ∷ xs)) q (c.0, c.1), omega arith))
    (λ low. let w = above_goes_on n (suc f) xs c.1 (omega arith) (omega arith) in let m = w.1 in (w.0, omega arith))

rest_ascends : (k : ℕ) (runs : List (List Record)) (i : ℕ) (run : List Record) → AreRuns k runs → i < length runs → run ≡ get_or runs i run → Ascending (last_number run + 2) (flatten (drop (suc i) runs))
rest_ascends k [] i run r l e = absurd (omega arith)
rest_ascends k ([] ∷ runs) i run r l e = absurd r
rest_ascends k ((x ∷ xs) ∷ runs) zero run r l e =
    subst (λ q. Ascending (last_number q + 2) (flatten runs)) (sym e) (ascending_flat (last_number (x ∷ xs) + 2) runs r.2)
rest_ascends k ((x ∷ xs) ∷ runs) (suc i) run r l e = rest_ascends (last_number (x ∷ xs) + 2) runs i run r.2 (omega arith) e

ascending_both : (k : ℕ) (run ys : List Record) → AreConsecutive (first_number run) run → last_number run + 1 ≡ first_number run + length run → 1 ≤ length run → k ≤ first_number run → Ascending (last_number run + 2) ys → Ascending k (run ++ ys)
ascending_both k run ys c end some l a =
    ascending_run (first_number run) k run ys c l (ascending_from (first_number run + length run) (last_number run + 2) ys (omega arith) a)

-- behind n nothing is there right away, or the run goes on to its end
pub missing_at_once : (n : ℕ) (runs : List (List Record)) (i : ℕ) (run : List Record) → AreRuns 1 runs → i ≡ runs_up_to n runs → i < length runs → run ≡ get_or runs i run → suc n < first_number run → n + 1 ≡ first_missing (n + 1) (above n (flatten runs))
missing_at_once n runs i run r at l e high =
    let w = above_run n 1 runs i run r at l e in
    let c = run_at 1 runs i run r l e in
    let same : above n run ≡ run = above_all n run (ascending_from (suc n) (first_number run) run (omega arith) (consecutive_ascends (first_number run) run c.0)) in
    let order : Ascending (suc (n + 1)) (run ++ flatten (drop (suc i) runs)) = subst (λ q. Ascending q (run ++ flatten (drop (suc i) runs))) (let q : suc (suc n) ≡ suc (n + 1) = omega arith in q)
    (ascending_both (suc (suc n)) run (flatten (drop (suc i) runs)) c.0 c.1 c.2 (omega arith) (rest_ascends 1 runs i run r l e)) in
    sym (ap (λ q. first_missing (n + 1) q) (w.1 ∙ ap (λ q. q ++ flatten (drop (suc i) runs)) same) ∙ first_missing_run (n + 1) [] (run ++ flatten (drop (suc i) runs)) tt (subst (λ q. Ascending q (run ++ flatten (drop (suc i) runs))) (let q : suc (n + 1) ≡ suc (n + 1 + 0) = omega arith in q) order) ∙ (let q : n + 1 + 0 ≡ n + 1 = omega arith in q))

pub missing_behind : (n : ℕ) (runs : List (List Record)) (i : ℕ) (run : List Record) → AreRuns 1 runs → i ≡ runs_up_to n runs → i < length runs → run ≡ get_or runs i run → first_number run ≤ suc n → last_number run + 1 ≡ first_missing (n + 1) (above n (flatten runs))
missing_behind n runs i run r at l e low =
    let w = above_run n 1 runs i run r at l e in
    let goes_on = w.0 in
    let c = run_at 1 runs i run r l e in
    let end = c.1 in
    let g = above_goes_on n (first_number run) run c.0 low (omega arith) in
    let long = g.1 in
    let rest = flatten (drop (suc i) runs) in
    let order : Ascending (suc (suc n + length (above n run))) rest = subst (λ q. Ascending q rest) (let q : last_number run + 2 ≡ suc (suc n + length (above n run)) = omega arith in q) (rest_ascends 1 runs i run r l e) in
    (let q : last_number run + 1 ≡ suc n + length (above n run) = omega arith in q)
    ∙ sym (first_missing_run (suc n) (above n run) rest g.0 order)
    ∙ ap (λ q. first_missing q (above n run ++ rest)) (let q : suc n ≡ n + 1 = omega arith in q)
    ∙ ap (λ q. first_missing (n + 1) q) (sym w.1)

-- the runs before one have fewer records than its first number
pub few_before : (k : ℕ) (runs : List (List Record)) (i : ℕ) (run : List Record) → AreRuns k runs → i < length runs → run ≡ get_or runs i run → k + length (flatten (take i runs)) ≤ first_number run
few_before k [] i run r l e = absurd (omega arith)
few_before k ([] ∷ runs) i run r l e = absurd r
few_before k ((x ∷ xs) ∷ runs) zero run r l e = let w = run_at k ((x ∷ xs) ∷ runs) zero run r l e in let low = w.3 in omega arith
few_before k ((x ∷ xs) ∷ runs) (suc i) run r l e =
    let end = last_consecutive x xs r.1 in
    let low = r.0 in
    let rest = few_before (last_number (x ∷ xs) + 2) runs i run r.2 (omega arith) e in
    omega (arith, length-append (x ∷ xs) (flatten (take i runs)))

-- and one more
pub flat_more : (runs : List (List Record)) (i : ℕ) (run : List Record) → i < length runs → run ≡ get_or runs i run → length (flatten (take (i + 1) runs)) ≡ length (flatten (take i runs)) + length run
flat_more runs i run l e =
    ap (λ q. length (flatten q)) (take_here runs i run l e) ∙ ap length (flatten-append (take i runs) (run ∷ []))
    ∙ length-append (flatten (take i runs)) (run ++ []) ∙ ap (λ q. length (flatten (take i runs)) + length q) (append_nil run)
