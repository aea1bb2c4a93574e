-- Runs with one more record.
use Rattle.std.proofs.Common.{ℕ, zero, suc, ◌+◌, ◌-◌, ◌<◌, ◌≤◌, ◌≡◌, ◌≢◌, inl, inr, List, [], ◌∷◌, ◌++◌, None, length, get_or, slice_set, insert, remove, take, drop, refl, sym, ◌∙◌, ap, subst, arith}
use Rattle.std.proofs.lemmas.List.{drop_all, drop-set-lt, set_split, take-append-drop, take-set-le}
use Rattle.std.proofs.Math.Seq.{take-suc-set}
use Rattle.mx_stamps.specs.Lists.{IsIn}
use Rattle.mx_stamps.proofs.Lists.{append_append, append_nil, in_left, in_right, length_set, set_set}
use Rattle.mx_stamps.proofs.Choices.{compared}
use Rattle.mx_journal.specs.declared.records.Record.{Record}
use Rattle.mx_journal.specs.Records.{record_at, with_record}
use Rattle.mx_journal.specs.Runs.{AreConsecutive, AreRuns, IsPut, TouchesAbove, TouchesBelow, flatten, first_number, last_number, runs_up_to, with_joined}
use Rattle.mx_journal.proofs.Maps.{none_in, with_record_case}
use Rattle.mx_journal.proofs.Flat.{flatten-append, high_records, last-append, last_consecutive, low_records, there_in_run, up_to_case, up_to_within}

-- a record goes between those of lower and those of higher numbers
pub with_record_between : (r : Record) (before bs : List Record) → ((x : Record) → IsIn x before → x.number < r.number) → ((x : Record) → IsIn x bs → r.number < x.number) → with_record r (before ++ bs) ≡ before ++ r ∷ bs
with_record_between r [] [] low high = refl
with_record_between r [] (b ∷ bs) low high =
    let h = high b (inl refl) in
    with_record_case (λ l. l ≡ r ∷ b ∷ bs) r b bs (λ _. refl) (λ bad. absurd (omega arith)) (λ bad. absurd (omega arith))
with_record_between r (a ∷ before) bs low high =
    let h = low a (inl refl) in
    with_record_case (λ l. l ≡ a ∷ (before ++ r ∷ bs)) r a (before ++ bs) (λ bad. absurd (omega arith))
    (λ _. ap (λ l. a ∷ l) (with_record_between r before bs (λ x m. low x (inr m)) high)) (λ bad. absurd (omega arith))

-- so it goes between the runs up to its number and the others
put_between : (r : Record) (k : ℕ) (runs : List (List Record)) (i : ℕ) → AreRuns k runs → record_at r.number (flatten runs) ≡ None → i ≡ runs_up_to r.number runs → flatten (take i runs) ++ r ∷ flatten (drop i runs) ≡ with_record r (flatten runs)
put_between r k runs i rs gone at =
    let fresh = none_in r.number (flatten runs) gone in
    let split : flatten (take i runs) ++ flatten (drop i runs) ≡ flatten runs = sym (flatten-append (take i runs) (drop i runs)) ∙ ap flatten (take-append-drop i runs) in
    sym (with_record_between r (flatten (take i runs)) (flatten (drop i runs))
    (λ x h. let l = low_records r.number k runs rs x (subst (λ j. IsIn x (flatten (take j runs))) at h) in
    let ne : x.number ≢ r.number = fresh x (subst (λ l. IsIn x l) split (in_left x (flatten (take i runs)) (flatten (drop i runs)) h)) in omega arith)
    (λ x h. high_records r.number k runs rs fresh x (subst (λ j. IsIn x (flatten (drop j runs))) at h)))
    ∙ ap (λ l. with_record r l) split

-- the number from which on more runs may follow
abbrev pub reach : ℕ → List (List Record) → ℕ
reach k [] = k
reach k (run ∷ runs) = reach (last_number run + 2) runs

runs_split : (k : ℕ) (before bs : List (List Record)) → AreRuns k (before ++ bs) → AreRuns k before × AreRuns (reach k before) bs
runs_split k [] bs r = (tt, r)
runs_split k ([] ∷ before) bs r = absurd r
runs_split k ((x ∷ xs) ∷ before) bs r = let w = runs_split (last_number (x ∷ xs) + 2) before bs r.2 in ((r.0, r.1, w.0), w.1)

pub runs_joined : (k : ℕ) (before bs : List (List Record)) → AreRuns k before → AreRuns (reach k before) bs → AreRuns k (before ++ bs)
runs_joined k [] bs a b = b
runs_joined k ([] ∷ before) bs a b = absurd a
runs_joined k ((x ∷ xs) ∷ before) bs a b = (a.0, a.1, runs_joined (last_number (x ∷ xs) + 2) before bs a.2 b)

reach_at : (k : ℕ) (runs : List (List Record)) (j : ℕ) → j < length runs → reach k (take (suc j) runs) ≡ last_number (get_or runs j []) + 2
reach_at k [] j l = absurd (omega arith)
reach_at k (run ∷ runs) zero l = refl
reach_at k (run ∷ runs) (suc j) l = reach_at (last_number run + 2) runs j (omega arith)

-- runs that begin higher
pub runs_from : (k m : ℕ) (run : List Record) (runs : List (List Record)) → AreRuns k (run ∷ runs) → m ≤ first_number run → AreRuns m (run ∷ runs)
runs_from k m [] runs r l = absurd r
runs_from k m (x ∷ xs) runs r l = (l, r.1, r.2)

-- a run with a record more at its end, or at its start
pub run_more : (n : ℕ) (xs : List Record) (r : Record) → AreConsecutive n xs → r.number ≡ n + length xs → (ys : List Record) → AreConsecutive (suc r.number) ys → AreConsecutive n (xs ++ r ∷ ys)
run_more n [] r c e ys d = let q : r.number ≡ n = omega arith in (q, subst (λ m. AreConsecutive (suc m) ys) q d)
run_more n (x ∷ xs) r c e ys d = (c.0, run_more (suc n) xs r c.1 (omega arith) ys d)

-- the run at a place, and what stands before and behind it
pub here : (runs : List (List Record)) (i : ℕ) → i < length runs → drop i runs ≡ get_or runs i [] ∷ drop (suc i) runs
here [] i l = absurd (omega arith)
here (run ∷ runs) zero l = refl
here (run ∷ runs) (suc i) l = here runs i (omega arith)

up_to_here : (runs : List (List Record)) (j : ℕ) → j < length runs → take (suc j) runs ≡ take j runs ++ get_or runs j [] ∷ []
up_to_here [] j l = absurd (omega arith)
up_to_here (run ∷ runs) zero l = refl
up_to_here (run ∷ runs) (suc j) l = ap (λ l. run ∷ l) (up_to_here runs j (omega arith))

-- the parts of runs around a place
pub runs_around : (k : ℕ) (runs : List (List Record)) (i : ℕ) → AreRuns k runs → AreRuns k (take i runs) × AreRuns (reach k (take i runs)) (drop i runs)
runs_around k runs i r = runs_split k (take i runs) (drop i runs) (subst (λ l. AreRuns k l) (sym (take-append-drop i runs)) r)

-- where nothing bears n, the run before its place ends below n, and the one at it begins above
pub ends_below : (n k : ℕ) (runs : List (List Record)) → AreRuns k runs → ((x : Record) → IsIn x (flatten runs) → x.number ≢ n) → (j : ℕ) → j < runs_up_to n runs → last_number (get_or runs j []) < n
ends_below n k [] r fresh j l = absurd (omega arith)
ends_below n k ([] ∷ runs) r fresh j l = absurd r
ends_below n k ((y ∷ ys) ∷ runs) r fresh zero was =
    up_to_case (λ i. 0 < i → last_number (y ∷ ys) < n) n (y ∷ ys) runs
    (λ ends l. elim (compared (last_number (y ∷ ys)) n) [
      | inl q ↦ q
      | inr (inl e) ↦ (let end = last_consecutive y ys r.1 in let w = there_in_run y.number n (y ∷ ys) (refl, r.1) (omega arith) (omega arith) in absurd (fresh w.0 (in_left w.0 (y ∷ ys) (flatten runs) w.1) w.2))
      | inr (inr q) ↦ absurd (omega arith)
    ])
    (λ _ l. absurd (omega arith)) was
ends_below n k ((y ∷ ys) ∷ runs) r fresh (suc j) was =
    up_to_case (λ i. suc j < i → last_number (get_or runs j []) < n) n (y ∷ ys) runs
    (λ _ l. ends_below n (last_number (y ∷ ys) + 2) runs r.2 (λ z m. fresh z (in_right z (y ∷ ys) (flatten runs) m)) j (omega arith))
    (λ _ l. absurd (omega arith)) was

pub begins_above : (n k : ℕ) (runs : List (List Record)) → AreRuns k runs → ((x : Record) → IsIn x (flatten runs) → x.number ≢ n) → runs_up_to n runs < length runs → n < first_number (get_or runs (runs_up_to n runs) [])
begins_above n k [] r fresh l = absurd (omega arith)
begins_above n k ([] ∷ runs) r fresh l = absurd r
begins_above n k ((y ∷ ys) ∷ runs) r fresh was =
    up_to_case (λ i. i < suc (length runs) → n < first_number (get_or ((y ∷ ys) ∷ runs) i [])) n (y ∷ ys) runs
    (λ _ l. begins_above n (last_number (y ∷ ys) + 2) runs r.2 (λ z m. fresh z (in_right z (y ∷ ys) (flatten runs) m)) (omega arith))
    (λ goes_on l. elim (compared n y.number) [
      | inl q ↦ q
      | inr (inl e) ↦ absurd (fresh y (inl refl) (sym e))
      | inr (inr q) ↦ (let end = last_consecutive y ys r.1 in let w = there_in_run y.number n (y ∷ ys) (refl, r.1) (omega arith) (omega arith) in absurd (fresh w.0 (in_left w.0 (y ∷ ys) (flatten runs) w.1) w.2))
    ]) was

-- a record that touches no run before its place may follow there
reach_low : (n : ℕ) (runs : List (List Record)) (i : ℕ) → AreRuns 1 runs → 1 ≤ n → ((x : Record) → IsIn x (flatten runs) → x.number ≢ n) → i ≡ runs_up_to n runs → (TouchesBelow n i runs → ⊥) → reach 1 (take i runs) ≤ n
reach_low n runs zero r l fresh at apart = l
reach_low n runs (suc j) r l fresh at apart =
    let within = up_to_within n runs in
    let low = ends_below n 1 runs r fresh j (omega arith) in
    let same : suc j - 1 ≡ j = omega arith in
    let gap : last_number (get_or runs j []) + 1 ≢ n = λ e. apart ((omega arith), ap (λ q. last_number (get_or runs q []) + 1) same ∙ e) in
    let far = reach_at 1 runs j (omega arith) in
    subst (λ q. q ≤ n) (sym far) (elim (compared (last_number (get_or runs j []) + 1) n) [
      | inl q ↦ omega arith
      | inr (inl e) ↦ absurd (gap e)
      | inr (inr q) ↦ absurd (omega arith)
    ])

-- and where it touches none behind, those may follow it
rest_high : (n : ℕ) (runs : List (List Record)) (i : ℕ) → AreRuns 1 runs → ((x : Record) → IsIn x (flatten runs) → x.number ≢ n) → i ≡ runs_up_to n runs → (TouchesAbove n i runs → ⊥) → AreRuns (n + 2) (drop i runs)
rest_high n runs i r fresh at apart = elim (compared i (length runs)) [
  | inl l ↦
      let high : n < first_number (get_or runs i []) = subst (λ j. n < first_number (get_or runs j [])) (sym at) (begins_above n 1 runs r fresh (subst (λ j. j < length runs) at l)) in
      let gap : first_number (get_or runs i []) ≢ n + 1 = λ e. apart (l, e) in
      let far : n + 2 ≤ first_number (get_or runs i []) = elim (compared (n + 1) (first_number (get_or runs i []))) [ inl q ↦ omega arith | inr (inl e) ↦ absurd (gap (sym e)) | inr (inr q) ↦ absurd (omega arith) ] in
      subst (λ l. AreRuns (n + 2) l) (sym (here runs i l))
      (runs_from (reach 1 (take i runs)) (n + 2) (get_or runs i []) (drop (suc i) runs) (let w = runs_around 1 runs i r in subst (λ l. AreRuns (reach 1 (take i runs)) l) (here runs i l) w.1) far)
  | inr (inl e) ↦ subst (λ l. AreRuns (n + 2) l) (sym (drop_all i runs (omega arith))) tt
  | inr (inr q) ↦ subst (λ l. AreRuns (n + 2) l) (sym (drop_all i runs (omega arith))) tt
]

-- a run of its own
pub put_alone : (r : Record) (runs : List (List Record)) (i : ℕ) → AreRuns 1 runs → 1 ≤ r.number → record_at r.number (flatten runs) ≡ None → i ≡ runs_up_to r.number runs → (TouchesBelow r.number i runs → ⊥) → (TouchesAbove r.number i runs → ⊥) → IsPut r runs (insert runs i (r ∷ []))
put_alone r runs i rs l gone at below above =
    let fresh = none_in r.number (flatten runs) gone in
    record {
      records = flatten-append (take i runs) ((r ∷ []) ∷ drop i runs) ∙ put_between r 1 runs i rs gone at;
      runs = runs_joined 1 (take i runs) ((r ∷ []) ∷ drop i runs) (let w = runs_around 1 runs i rs in w.0)
          (reach_low r.number runs i rs l fresh at below, tt, rest_high r.number runs i rs fresh at above);
    }

-- the end of a run
more_at_end : (m : ℕ) (run : List Record) (runs : List (List Record)) (r : Record) → AreRuns m (run ∷ runs) → last_number run + 1 ≡ r.number → AreRuns (r.number + 2) runs → AreRuns m ((run ++ r ∷ []) ∷ runs)
more_at_end m [] runs r a e b = absurd a
more_at_end m (x ∷ xs) runs r a e b =
    let end = last_consecutive x xs a.1 in
    (a.0, run_more (suc x.number) xs r a.1 (omega arith) [] tt, subst (λ n. AreRuns (n + 2) runs) (sym (last-append (x ∷ xs) r [])) b)

pub before_end : (runs : List (List Record)) (j : ℕ) → j < length runs → flatten (take (suc j) runs) ≡ flatten (take j runs) ++ get_or runs j []
before_end runs j l =
    ap flatten (up_to_here runs j l) ∙ flatten-append (take j runs) (get_or runs j [] ∷ []) ∙ ap (λ l. flatten (take j runs) ++ l) (append_nil (get_or runs j []))

pub put_at_end : (r : Record) (runs : List (List Record)) (j : ℕ) → AreRuns 1 runs → record_at r.number (flatten runs) ≡ None → suc j ≡ runs_up_to r.number runs → last_number (get_or runs j []) + 1 ≡ r.number → (TouchesAbove r.number (suc j) runs → ⊥) → IsPut r runs (slice_set runs j (get_or runs j [] ++ r ∷ []))
put_at_end r runs j rs gone at below above =
    let within = up_to_within r.number runs in
    let inside : j < length runs = omega arith in
    let fresh = none_in r.number (flatten runs) gone in
    let run = get_or runs j [] in
    let rest = drop (suc j) runs in
    let changed : slice_set runs j (run ++ r ∷ []) ≡ take j runs ++ (run ++ r ∷ []) ∷ rest = set_split runs j (run ++ r ∷ []) inside in
    let around = runs_around 1 runs j rs in
    record {
      records = ap flatten changed ∙ flatten-append (take j runs) ((run ++ r ∷ []) ∷ rest)
          ∙ ap (λ l. flatten (take j runs) ++ l) (append_append run (r ∷ []) (flatten rest))
          ∙ sym (append_append (flatten (take j runs)) run (r ∷ flatten rest))
          ∙ ap (λ l. l ++ r ∷ flatten rest) (sym (before_end runs j inside))
          ∙ put_between r 1 runs (suc j) rs gone at;
      runs = subst (λ l. AreRuns 1 l) (sym changed) (runs_joined 1 (take j runs) ((run ++ r ∷ []) ∷ rest) around.0
          (more_at_end (reach 1 (take j runs)) run rest r (subst (λ l. AreRuns (reach 1 (take j runs)) l) (here runs j inside) around.1) below (rest_high r.number runs (suc j) rs fresh at above)));
    }

-- the start of a run
more_at_start : (k m : ℕ) (run : List Record) (runs : List (List Record)) (r : Record) → AreRuns k (run ∷ runs) → first_number run ≡ r.number + 1 → m ≤ r.number → AreRuns m ((r ∷ run) ∷ runs)
more_at_start k m [] runs r a e l = absurd a
more_at_start k m (x ∷ xs) runs r a e l =
    let q : x.number ≡ suc r.number = omega (arith, e) in
    (l, (q, subst (λ n. AreConsecutive (suc n) xs) q a.1), a.2)

pub put_at_start : (r : Record) (runs : List (List Record)) (i : ℕ) → AreRuns 1 runs → 1 ≤ r.number → record_at r.number (flatten runs) ≡ None → i ≡ runs_up_to r.number runs → (TouchesBelow r.number i runs → ⊥) → TouchesAbove r.number i runs → IsPut r runs (slice_set runs i (r ∷ get_or runs i []))
put_at_start r runs i rs l gone at below above =
    let inside = above.0 in
    let fresh = none_in r.number (flatten runs) gone in
    let run = get_or runs i [] in
    let rest = drop (suc i) runs in
    let changed : slice_set runs i (r ∷ run) ≡ take i runs ++ (r ∷ run) ∷ rest = set_split runs i (r ∷ run) inside in
    let around = runs_around 1 runs i rs in
    record {
      records = ap flatten changed ∙ flatten-append (take i runs) ((r ∷ run) ∷ rest)
          ∙ ap (λ l. flatten (take i runs) ++ r ∷ l) (ap flatten (sym (here runs i inside)))
          ∙ put_between r 1 runs i rs gone at;
      runs = subst (λ l. AreRuns 1 l) (sym changed) (runs_joined 1 (take i runs) ((r ∷ run) ∷ rest) around.0
          (more_at_start (reach 1 (take i runs)) (reach 1 (take i runs)) run rest r (subst (λ l. AreRuns (reach 1 (take i runs)) l) (here runs i inside) around.1) above.1 (reach_low r.number runs i rs l fresh at below)));
    }

-- between two runs, which become one
joined_runs : (m : ℕ) (run next : List Record) (runs : List (List Record)) (r : Record) → AreRuns m (run ∷ next ∷ runs) → last_number run + 1 ≡ r.number → first_number next ≡ r.number + 1 → AreRuns m ((run ++ r ∷ next) ∷ runs)
joined_runs m [] next runs r a e f = absurd a
joined_runs m (x ∷ xs) [] runs r a e f = let b = a.2 in absurd b
joined_runs m (x ∷ xs) (y ∷ ys) runs r a e f =
    let end = last_consecutive x xs a.1 in
    let b = a.2 in
    let q : y.number ≡ suc r.number = omega (arith, f) in (
      a.0,
      run_more (suc x.number) xs r a.1 (omega arith) (y ∷ ys) (q, subst (λ n. AreConsecutive (suc n) ys) q b.1),
      subst (λ n. AreRuns (n + 2) runs) (sym (last-append (x ∷ xs) r (y ∷ ys))) b.2,
    )

pub put_joining : (r : Record) (runs : List (List Record)) (j : ℕ) → AreRuns 1 runs → record_at r.number (flatten runs) ≡ None → suc j ≡ runs_up_to r.number runs → last_number (get_or runs j []) + 1 ≡ r.number → TouchesAbove r.number (suc j) runs → IsPut r runs (remove (slice_set (slice_set runs (suc j) []) j (get_or runs j [] ++ r ∷ get_or runs (suc j) [])) (suc j))
put_joining r runs j rs gone at below above =
    let within = up_to_within r.number runs in
    let inside : j < length runs = omega arith in
    let more = above.0 in
    let run = get_or runs j [] in
    let next = get_or runs (suc j) [] in
    let both = run ++ r ∷ next in
    let rest = drop (suc (suc j)) runs in
    let cleared = slice_set runs (suc j) [] in
    let long : length cleared ≡ length runs = length_set runs (suc j) [] in
    let front : take (suc j) (slice_set cleared j both) ≡ take j runs ++ both ∷ [] =
    take-suc-set cleared j both (omega arith) ∙ ap (λ l. l ++ both ∷ []) (take-set-le j runs (suc j) [] (omega arith)) in
    let back : drop (suc (suc j)) (slice_set cleared j both) ≡ rest =
    drop-set-lt (suc (suc j)) cleared j both (omega arith) ∙ drop-set-lt (suc (suc j)) runs (suc j) [] (omega arith) in
    let changed : remove (slice_set cleared j both) (suc j) ≡ take j runs ++ both ∷ rest =
    ap (λ l. l ++ drop (suc (suc j)) (slice_set cleared j both)) front ∙ ap (λ l. (take j runs ++ both ∷ []) ++ l) back ∙ append_append (take j runs) (both ∷ []) rest in
    let around = runs_around 1 runs j rs in
    record {
      records = ap flatten changed ∙ flatten-append (take j runs) (both ∷ rest)
          ∙ ap (λ l. flatten (take j runs) ++ l) (append_append run (r ∷ next) (flatten rest))
          ∙ sym (append_append (flatten (take j runs)) run (r ∷ (next ++ flatten rest)))
          ∙ ap (λ l. l ++ r ∷ (next ++ flatten rest)) (sym (before_end runs j inside))
          ∙ ap (λ l. flatten (take (suc j) runs) ++ r ∷ l) (ap flatten (sym (here runs (suc j) more)))
          ∙ put_between r 1 runs (suc j) rs gone at;
      runs = subst (λ l. AreRuns 1 l) (sym changed) (runs_joined 1 (take j runs) (both ∷ rest) around.0
          (joined_runs (reach 1 (take j runs)) run next rest r
          (subst (λ l. AreRuns (reach 1 (take j runs)) l) (here runs j inside ∙ ap (λ l. run ∷ l) (here runs (suc j) more)) around.1) below above.1));
    }

-- a place set to what it holds
pub set_same : (xs : List (List Record)) (i : ℕ) (x : List Record) → i < length xs → x ≡ get_or xs i x → slice_set xs i x ≡ xs
set_same [] i x l e = refl
set_same (y ∷ ys) zero x l e = ap (λ z. z ∷ ys) e
set_same (y ∷ ys) (suc i) x l e = ap (λ zs. y ∷ zs) (set_same ys i x (omega arith) e)

-- two runs that are put back
pub set_back : (runs : List (List Record)) (i j : ℕ) (d u v : List Record) → i < length runs → j < length runs → u ≡ get_or (slice_set runs j d) i u → v ≡ get_or runs j v → slice_set (slice_set (slice_set runs j d) i u) j v ≡ runs
set_back runs i j d u v l m e f =
    ap (λ q. slice_set q j v) (set_same (slice_set runs j d) i u (omega (arith, length_set runs j d)) e) ∙ set_set runs j d v ∙ set_same runs j v m f

-- the same, by the place itself
before_place : (i : ℕ) → 1 ≤ i → suc (i - 1) ≡ i
before_place i l = omega arith

pub put_below : (r : Record) (runs : List (List Record)) (i : ℕ) → AreRuns 1 runs → record_at r.number (flatten runs) ≡ None → i ≡ runs_up_to r.number runs → TouchesBelow r.number i runs → (TouchesAbove r.number i runs → ⊥) → IsPut r runs (slice_set runs (i - 1) (get_or runs (i - 1) [] ++ r ∷ []))
put_below r runs i rs gone at below apart =
    let q : suc (i - 1) ≡ i = before_place i below.0 in
    put_at_end r runs (i - 1) rs gone (q ∙ at) below.1 (λ t. apart (subst (λ k. TouchesAbove r.number k runs) q t))

pub put_both : (r : Record) (runs : List (List Record)) (i : ℕ) → AreRuns 1 runs → record_at r.number (flatten runs) ≡ None → i ≡ runs_up_to r.number runs → TouchesBelow r.number i runs → TouchesAbove r.number i runs → IsPut r runs (with_joined i (get_or runs (i - 1) [] ++ r ∷ get_or runs i []) runs)
put_both r runs i rs gone at below above =
    let q : suc (i - 1) ≡ i = before_place i below.0 in
    subst (λ k. IsPut r runs (remove (slice_set (slice_set runs k []) (i - 1) (get_or runs (i - 1) [] ++ r ∷ get_or runs k [])) k)) q
    (put_joining r runs (i - 1) rs gone (q ∙ at) below.1 (subst (λ k. TouchesAbove r.number k runs) (sym q) above))

-- what is read at a place that there is does not depend on what is read elsewhere
pub read_there : (runs : List (List Record)) (i : ℕ) (run : List Record) → i < length runs → run ≡ get_or runs i run → run ≡ get_or runs i []
read_there [] i run l e = absurd (omega arith)
read_there (x ∷ xs) zero run l e = e
read_there (x ∷ xs) (suc i) run l e = read_there xs i run (omega arith) e
