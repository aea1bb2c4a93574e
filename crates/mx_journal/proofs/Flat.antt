-- Runs, and the records in them.
use Rattle.std.proofs.Common.{ℕ, zero, suc, ◌+◌, ◌<◌, ◌≤◌, ◌≡◌, ◌≢◌, ◌↔◌, ◌==◌, Bool, IsTrue, inl, inr, List, [], ◌∷◌, ◌++◌, length, get_or, take, drop, nat_le, refl, sym, ◌∙◌, ap, subst, arith}
use Rattle.std.proofs.lemmas.Bool.Decides.{nat_tests}
use Rattle.mx_stamps.specs.Lists.{IsIn}
use Rattle.mx_stamps.proofs.Lists.{append_append, in_append, in_left, in_right}
use Rattle.mx_stamps.proofs.Choices.{le_true, le_false, cond_case, compared}
use Rattle.mx_journal.specs.declared.records.Record.{Record}
use Rattle.mx_journal.specs.Records.{Ascending, IsThere}
use Rattle.mx_journal.specs.Runs.{AreConsecutive, AreRuns, flatten, last_number, runs_up_to}
use Rattle.mx_journal.proofs.Maps.{ascending_above, ascending_from}

pub flatten-append : (before bs : List (List Record)) → flatten (before ++ bs) ≡ flatten before ++ flatten bs
flatten-append [] bs = refl
flatten-append (a ∷ before) bs = ap (λ l. a ++ l) (flatten-append before bs) ∙ sym (append_append a (flatten before) (flatten bs))

-- the last of consecutive numbers
pub last_consecutive : (x : Record) (xs : List Record) → AreConsecutive (suc x.number) xs → last_number (x ∷ xs) ≡ x.number + length xs
last_consecutive x [] c = omega arith
last_consecutive x (y ∷ ys) c =
    let e = c.0 in
    let rest = last_consecutive y ys (subst (λ n. AreConsecutive (suc n) ys) (sym e) c.1) in
    omega arith

pub last-append : (xs : List Record) (y : Record) (ys : List Record) → last_number (xs ++ y ∷ ys) ≡ last_number (y ∷ ys)
last-append [] y ys = refl
last-append (x ∷ []) y ys = refl
last-append (x ∷ z ∷ zs) y ys = last-append (z ∷ zs) y ys

-- consecutive numbers ascend, and what begins behind them may follow
pub ascending_run : (n k : ℕ) (xs ys : List Record) → AreConsecutive n xs → k ≤ n → Ascending (n + length xs) ys → Ascending k (xs ++ ys)
ascending_run n k [] ys c l a = ascending_from k (n + 0) ys (omega arith) a
ascending_run n k (x ∷ xs) ys c l a =
    let e = c.0 in
    (omega arith, ascending_run (suc n) (suc x.number) xs ys c.1 (omega arith) (subst (λ m. Ascending m ys) (let q : n + suc (length xs) ≡ suc n + length xs = omega arith in q) a))

-- the records of runs ascend
pub ascending_flat : (k : ℕ) (runs : List (List Record)) → AreRuns k runs → Ascending k (flatten runs)
ascending_flat k [] r = tt
ascending_flat k ([] ∷ runs) r = absurd r
ascending_flat k ((x ∷ xs) ∷ runs) r =
    let end = last_consecutive x xs r.1 in
    let rest = ascending_flat (last_number (x ∷ xs) + 2) runs r.2 in (
      r.0,
      ascending_run (suc x.number) (suc x.number) xs (flatten runs) r.1 (omega arith)
          (ascending_from (suc x.number + length xs) (last_number (x ∷ xs) + 2) (flatten runs) (omega arith) rest),
    )

-- runs have some record
pub some_record : (runs : List (List Record)) → AreRuns 1 runs → 1 ≤ length runs → (x : Record) × IsIn x (flatten runs)
some_record [] r l = absurd (omega arith)
some_record ([] ∷ runs) r l = absurd r
some_record ((x ∷ xs) ∷ runs) r l = (x, inl refl)

-- the numbers of a run, and that all of them are there
pub in_run : (n : ℕ) (xs : List Record) → AreConsecutive n xs → (x : Record) → IsIn x xs → (n ≤ x.number) × (x.number < n + length xs)
in_run n [] c x h = absurd h
in_run n (y ∷ ys) c x (inl q) = let e = c.0 in let f : x.number ≡ y.number = ap (λ (z : Record). z.number) q in (omega arith, omega arith)
in_run n (y ∷ ys) c x (inr h) = let r = in_run (suc n) ys c.1 x h in let a = r.0 in let b = r.1 in (omega arith, omega arith)

pub there_in_run : (n m : ℕ) (xs : List Record) → AreConsecutive n xs → n ≤ m → m < n + length xs → IsThere m xs
there_in_run n m [] c l h = absurd (omega arith)
there_in_run n m (y ∷ ys) c l h = elim (compared n m) [
  | inl p ↦ (let r = there_in_run (suc n) m ys c.1 (omega arith) (omega arith) in (r.0, inr r.1, r.2))
  | inr (inl e) ↦ (y, inl refl, c.0 ∙ e)
  | inr (inr p) ↦ absurd (omega arith)
]

-- what holds of the number of runs up to n, by whether the first one ends there
pub up_to_case : (P : ℕ → Type 0) (n : ℕ) (run : List Record) (runs : List (List Record)) → (last_number run ≤ n → P (suc (runs_up_to n runs))) → (n < last_number run → P 0) → P (runs_up_to n (run ∷ runs))
up_to_case P n run runs ends goes_on =
    cond_case P (nat_le (last_number run) n) (suc (runs_up_to n runs)) 0 (λ t. ends (le_true (last_number run) n t)) (λ f. goes_on (le_false (last_number run) n f))

pub up_to_within : (n : ℕ) (runs : List (List Record)) → runs_up_to n runs ≤ length runs
up_to_within n [] = omega arith
up_to_within n (run ∷ runs) = let rest = up_to_within n runs in up_to_case (λ i. i ≤ suc (length runs)) n run runs (λ _. omega arith) (λ _. omega arith)

-- each run ends at `least` or above
pub last_above : (k : ℕ) (runs : List (List Record)) (i : ℕ) (run : List Record) → AreRuns k runs → i < length runs → run ≡ get_or runs i run → k ≤ last_number run
last_above k [] i run r l e = absurd (omega arith)
last_above k ([] ∷ runs) i run r l e = absurd r
last_above k ((x ∷ xs) ∷ runs) zero run r l e =
    let end = last_consecutive x xs r.1 in
    let low = r.0 in
    subst (λ q. k ≤ last_number q) (sym e) (omega arith)
last_above k ((x ∷ xs) ∷ runs) (suc i) run r l e =
    let end = last_consecutive x xs r.1 in
    let low = r.0 in
    let rest = last_above (last_number (x ∷ xs) + 2) runs i run r.2 (omega arith) e in
    omega arith

-- a run that ends at n or below is among those up to n, and one that ends above is not
pub among_up_to : (n k : ℕ) (runs : List (List Record)) (i : ℕ) (run : List Record) → AreRuns k runs → i < length runs → run ≡ get_or runs i run → last_number run ≤ n → i < runs_up_to n runs
among_up_to n k [] i run r l e h = absurd (omega arith)
among_up_to n k ([] ∷ runs) i run r l e h = absurd r
among_up_to n k ((x ∷ xs) ∷ runs) zero run r l e h =
    let q : last_number (x ∷ xs) ≤ n = subst (λ s. last_number s ≤ n) e h in
    up_to_case (λ i. 0 < i) n (x ∷ xs) runs (λ _. omega arith) (λ bad. absurd (omega arith))
among_up_to n k ((x ∷ xs) ∷ runs) (suc i) run r l e h =
    let low = last_above (last_number (x ∷ xs) + 2) runs i run r.2 (omega arith) e in
    let rest = among_up_to n (last_number (x ∷ xs) + 2) runs i run r.2 (omega arith) e h in
    up_to_case (λ j. suc i < j) n (x ∷ xs) runs (λ _. omega arith) (λ bad. absurd (omega arith))

pub not_among_up_to : (n : ℕ) (runs : List (List Record)) (i : ℕ) (run : List Record) → i < length runs → run ≡ get_or runs i run → n < last_number run → runs_up_to n runs ≤ i
not_among_up_to n [] i run l e h = absurd (omega arith)
not_among_up_to n (first ∷ runs) zero run l e h =
    let q : n < last_number first = subst (λ s. n < last_number s) e h in
    up_to_case (λ i. i ≤ 0) n first runs (λ bad. absurd (omega arith)) (λ _. omega arith)
not_among_up_to n (first ∷ runs) (suc i) run l e h =
    let rest = not_among_up_to n runs i run (omega arith) e h in
    up_to_case (λ j. j ≤ suc i) n first runs (λ _. omega arith) (λ _. omega arith)

-- the records of the runs up to n bear n at most
pub low_records : (n k : ℕ) (runs : List (List Record)) → AreRuns k runs → (x : Record) → IsIn x (flatten (take (runs_up_to n runs) runs)) → x.number ≤ n
low_records n k [] r x h = absurd h
low_records n k ([] ∷ runs) r x h = absurd r
low_records n k ((y ∷ ys) ∷ runs) r x was =
    up_to_case (λ i. IsIn x (flatten (take i ((y ∷ ys) ∷ runs))) → x.number ≤ n) n (y ∷ ys) runs
    (λ ends h. elim (in_append x (y ∷ ys) (flatten (take (runs_up_to n runs) runs)) h) [
      | inl m ↦ (let end = last_consecutive y ys r.1 in let w = in_run y.number (y ∷ ys) (refl, r.1) x m in let a = w.1 in omega arith)
      | inr m ↦ low_records n (last_number (y ∷ ys) + 2) runs r.2 x m
    ])
    (λ _ h. absurd h) was

-- where nothing bears n, the records of the other runs bear more
pub high_records : (n k : ℕ) (runs : List (List Record)) → AreRuns k runs → ((x : Record) → IsIn x (flatten runs) → x.number ≢ n) → (x : Record) → IsIn x (flatten (drop (runs_up_to n runs) runs)) → n < x.number
high_records n k [] r fresh x h = absurd h
high_records n k ([] ∷ runs) r fresh x h = absurd r
high_records n k ((y ∷ ys) ∷ runs) r fresh x was =
    let end = last_consecutive y ys r.1 in
    up_to_case (λ i. IsIn x (flatten (drop i ((y ∷ ys) ∷ runs))) → n < x.number) n (y ∷ ys) runs
    (λ _ h. high_records n (last_number (y ∷ ys) + 2) runs r.2 (λ z m. fresh z (in_right z (y ∷ ys) (flatten runs) m)) x h)
    (λ goes_on h. elim (compared n y.number) [
      | inl l ↦ elim (in_append x (y ∷ ys) (flatten runs) h) [
        | inl m ↦ (let w = in_run y.number (y ∷ ys) (refl, r.1) x m in let a = w.0 in omega arith)
        | inr m ↦ (let a = ascending_above (last_number (y ∷ ys) + 2) (flatten runs) (ascending_flat (last_number (y ∷ ys) + 2) runs r.2) x m in omega arith)
      ]
      | inr (inl e) ↦ absurd (fresh y (inl refl) (sym e))
      | inr (inr l) ↦ (let w = there_in_run y.number n (y ∷ ys) (refl, r.1) (omega arith) (omega arith) in absurd (fresh w.0 (in_left w.0 (y ∷ ys) (flatten runs) w.1) w.2))
    ]) was

-- the record at the last place
pub last_is : (xs : List Record) (i : ℕ) (x : Record) → suc i ≡ length xs → x ≡ get_or xs i x → x.number ≡ last_number xs
last_is [] i x l e = absurd (omega arith)
last_is (y ∷ []) zero x l e = ap (λ (z : Record). z.number) e
last_is (y ∷ []) (suc i) x l e = absurd (omega arith)
last_is (y ∷ z ∷ zs) zero x l e = absurd (omega arith)
last_is (y ∷ z ∷ zs) (suc i) x l e = last_is (z ∷ zs) i x (omega arith) e

-- runs without records are none
pub empty_runs : (runs : List (List Record)) (n : ℕ) (b : Bool) → AreRuns 1 runs → n ≡ length runs → b ≡ (n == 0) → IsTrue b ↔ (flatten runs ≡ [])
empty_runs [] n b r e f = (λ _. refl, λ _. grind (arith, nat_tests, e, f))
empty_runs ([] ∷ runs) n b r e f = absurd r
empty_runs ((x ∷ xs) ∷ runs) n b r e f = (λ t. absurd (grind (arith, nat_tests, e, f, t)), λ q. let bad : ⊥ = cc in absurd bad)
