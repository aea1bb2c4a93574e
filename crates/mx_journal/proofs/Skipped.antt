-- Runs without their first records.
use Rattle.std.proofs.Common.{ℕ, suc, ◌+◌, ◌-◌, ◌<◌, ◌≤◌, ◌≡◌, List, [], ◌∷◌, ◌++◌, length, get_or, slice_set, drop, refl, sym, ◌∙◌, ap, subst, arith}
use Rattle.mx_journal.specs.declared.records.Record.{Record}
use Rattle.mx_journal.specs.Records.{above}
use Rattle.mx_journal.specs.Runs.{AreConsecutive, AreRuns, first_number, flatten, last_number, runs_up_to}
use Rattle.mx_journal.proofs.Flat.{last_consecutive, up_to_case}
use Rattle.mx_journal.proofs.Found.{above_consecutive, above_in_run, low_run}
use Rattle.mx_journal.proofs.Going.{above_case}

runs_lower : (j k : ℕ) (runs : List (List Record)) → j ≤ k → AreRuns k runs → AreRuns j runs
runs_lower j k [] l r = tt
runs_lower j k ([] ∷ runs) l r = absurd r
runs_lower j k ((x ∷ xs) ∷ runs) l r = let low = r.0 in (omega arith, r.1, r.2)

-- without the runs that end at n or below, the others stay runs, and no record above n is lost
pub rest_are_runs : (n k : ℕ) (runs : List (List Record)) → AreRuns k runs → AreRuns k (drop (runs_up_to n runs) runs)
rest_are_runs n k [] r = tt
rest_are_runs n k ([] ∷ runs) r = absurd r
rest_are_runs n k ((x ∷ xs) ∷ runs) r =
    let end = last_consecutive x xs r.1 in
    let low = r.0 in
    up_to_case (λ i. AreRuns k (drop i ((x ∷ xs) ∷ runs))) n (x ∷ xs) runs
    (λ _. runs_lower k (last_number (x ∷ xs) + 2) (drop (runs_up_to n runs) runs) (omega arith) (rest_are_runs n (last_number (x ∷ xs) + 2) runs r.2))
    (λ _. r)

pub rest_above : (n k : ℕ) (runs : List (List Record)) → AreRuns k runs → above n (flatten (drop (runs_up_to n runs) runs)) ≡ above n (flatten runs)
rest_above n k [] r = refl
rest_above n k ([] ∷ runs) r = absurd r
rest_above n k ((x ∷ xs) ∷ runs) r =
    up_to_case (λ i. above n (flatten (drop i ((x ∷ xs) ∷ runs))) ≡ above n (flatten ((x ∷ xs) ∷ runs))) n (x ∷ xs) runs
    (λ ends. rest_above n (last_number (x ∷ xs) + 2) runs r.2 ∙ sym (low_run n x xs (flatten runs) r.1 ends))
    (λ _. refl)

-- the first of the others ends above n
pub rest_goes_on : (n : ℕ) (runs : List (List Record)) → 1 ≤ length (drop (runs_up_to n runs) runs) → n < last_number (get_or (drop (runs_up_to n runs) runs) 0 [])
rest_goes_on n [] l = absurd (omega arith)
rest_goes_on n (run ∷ runs) was =
    up_to_case (λ i. 1 ≤ length (drop i (run ∷ runs)) → n < last_number (get_or (drop i (run ∷ runs)) 0 [])) n run runs
    (λ _ l. rest_goes_on n runs l) (λ goes_on _. goes_on) was

-- what is above n of a run that ends above it begins that run's end
above_runs : (n k : ℕ) (x : Record) (xs : List Record) (runs : List (List Record)) → AreRuns k ((x ∷ xs) ∷ runs) → n < last_number (x ∷ xs) → AreRuns k (above n (x ∷ xs) ∷ runs)
above_runs n k x [] runs r l = above_case (λ l. AreRuns k (l ∷ runs)) n x [] (λ _. r) (λ bad. absurd (omega arith))
above_runs n k x (y ∷ ys) runs r l =
    let low = r.0 in
    let next = (r.1).0 in
    above_case (λ l. AreRuns k (l ∷ runs)) n x (y ∷ ys) (λ _. r)
    (λ _. above_runs n k y ys runs (omega arith, subst (λ m. AreConsecutive (suc m) ys) (sym next) (r.1).1, r.2) l)

-- how many numbers up to n a run has
abbrev pub skipped : ℕ → List Record → List Record
skipped n run = drop (suc n - first_number run) run

pub skipped_records : (n k : ℕ) (runs : List (List Record)) → AreRuns k runs → 1 ≤ length runs → n < last_number (get_or runs 0 []) → flatten (slice_set runs 0 (skipped n (get_or runs 0 []))) ≡ above n (flatten runs)
skipped_records n k [] r some l = absurd (omega arith)
skipped_records n k ([] ∷ runs) r some l = absurd r
skipped_records n k ((x ∷ xs) ∷ runs) r some l =
    let end = last_consecutive x xs r.1 in
    sym (above_in_run n x xs (flatten runs) r.1 (omega arith) ∙ ap (λ q. q ++ flatten runs) (above_consecutive n x.number (x ∷ xs) (refl, r.1)))

pub skipped_runs : (n k : ℕ) (runs : List (List Record)) → AreRuns k runs → 1 ≤ length runs → n < last_number (get_or runs 0 []) → AreRuns k (slice_set runs 0 (skipped n (get_or runs 0 [])))
skipped_runs n k [] r some l = absurd (omega arith)
skipped_runs n k ([] ∷ runs) r some l = absurd r
skipped_runs n k ((x ∷ xs) ∷ runs) r some l =
    subst (λ q. AreRuns k (q ∷ runs)) (above_consecutive n x.number (x ∷ xs) (refl, r.1)) (above_runs n k x xs runs r l)

-- the first of runs begins at the least number or above
pub first_low : (k : ℕ) (runs : List (List Record)) → AreRuns k runs → 1 ≤ length runs → k ≤ first_number (get_or runs 0 [])
first_low k [] r l = absurd (omega arith)
first_low k ([] ∷ runs) r l = absurd r
first_low k ((x ∷ xs) ∷ runs) r l = r.0

-- no runs, no records
pub none_left : (n : ℕ) (runs : List (List Record)) → length runs ≡ 0 → flatten runs ≡ above n (flatten runs)
none_left n [] e = refl
none_left n (run ∷ runs) e = absurd (omega arith)

-- what is left once the runs that end at n or below are dropped
pub record IsRest (n : ℕ) (old new : List (List Record)) : Type 0 where
  pub runs : AreRuns 1 new
  pub records : above n (flatten new) ≡ above n (flatten old)
  pub goes_on : 1 ≤ length new → n < last_number (get_or new 0 [])

pub rest_of : (n i : ℕ) (old seen new : List (List Record)) → AreRuns 1 old → new ≡ drop i old → i ≡ runs_up_to n seen → seen ≡ old → IsRest n old new
rest_of n i old seen new r e at same =
    let here : drop (runs_up_to n old) old ≡ new = sym (e ∙ ap (λ j. drop j old) (at ∙ ap (λ l. runs_up_to n l) same)) in
    subst (λ l. IsRest n old l) here record { runs = rest_are_runs n 1 old r; records = rest_above n 1 old r; goes_on = rest_goes_on n old }
