-- Runs that are sewn together, and cut again.
use Rattle.std.proofs.Common.{ℕ, suc, ◌+◌, ◌-◌, ◌<◌, ◌≤◌, ◌≡◌, ◌≢◌, ◌⊎◌, inl, inr, List, [], ◌∷◌, ◌++◌, length, get_or, slice_set, take, drop, nat_eq, refl, sym, ◌∙◌, ap, subst, arith}
use Rattle.std.proofs.lemmas.List.{take-append-drop, take_all, take_at}
use Rattle.mx_stamps.specs.Lists.{IsIn}
use Rattle.mx_stamps.proofs.Lists.{append_append, append_nil, in_append, in_left, in_right}
use Rattle.mx_stamps.proofs.Choices.{eq_true, eq_false, compared, cond_case, dec_le}
use Rattle.mx_journal.specs.declared.records.Record.{Record}
use Rattle.mx_journal.specs.Agreement.{AreAgreeing}
use Rattle.mx_journal.specs.Records.{Ascending, top_of, with_record, with_records}
use Rattle.mx_journal.specs.Runs.{AreNew, AreRuns, IsJoinedUpTo, TouchesBelow, first_number, flatten, last_number, runs_up_to, sewn, stitched}
use Rattle.mx_journal.proofs.Maps.{ascending_above, ascending_same, ascending_with_all, in_with_record, in_with_records, none_found, none_in, same_members, with_records_have, with_records_keep}
use Rattle.mx_journal.proofs.Flat.{ascending_flat, flatten-append, high_records, last-append, last_consecutive, low_records, there_in_run, up_to_case}
use Rattle.mx_journal.proofs.PutRuns.{reach, runs_around, run_more}
use Rattle.mx_journal.proofs.Joining.{length_with, top_above}

-- what holds of a run stitched to others, by whether the first of them goes on from it
stitched_case : (P : List (List Record) → Type 0) (run next : List Record) (runs : List (List Record)) → (last_number run + 1 ≡ first_number next → P ((run ++ next) ∷ runs)) → (last_number run + 1 ≢ first_number next → P (run ∷ next ∷ runs)) → P (stitched run (next ∷ runs))
stitched_case P run next runs touches apart =
    cond_case P (nat_eq (last_number run + 1) (first_number next)) ((run ++ next) ∷ runs) (run ∷ next ∷ runs)
    (λ t. touches (eq_true (last_number run + 1) (first_number next) t)) (λ f. apart (eq_false (last_number run + 1) (first_number next) f))

-- sewing keeps the records
pub flatten_sewn : (runs others : List (List Record)) → flatten (sewn runs others) ≡ flatten runs ++ flatten others
flatten_sewn [] others = refl
flatten_sewn (run ∷ []) [] = sym (append_nil (run ++ []))
flatten_sewn (run ∷ []) (next ∷ others) =
    stitched_case (λ l. flatten l ≡ (run ++ []) ++ (next ++ flatten others)) run next others
    (λ _. append_append run next (flatten others) ∙ ap (λ l. l ++ (next ++ flatten others)) (sym (append_nil run)))
    (λ _. ap (λ l. l ++ (next ++ flatten others)) (sym (append_nil run)))
flatten_sewn (run ∷ more ∷ runs) others =
    ap (λ l. run ++ l) (flatten_sewn (more ∷ runs) others) ∙ sym (append_append run (flatten (more ∷ runs)) (flatten others))

-- runs that begin no higher
pub runs_lower : (k m : ℕ) (runs : List (List Record)) → k ≤ m → AreRuns m runs → AreRuns k runs
runs_lower k m [] l r = tt
runs_lower k m ([] ∷ runs) l r = absurd r
runs_lower k m ((x ∷ xs) ∷ runs) l r = let low = r.0 in (omega arith, r.1, r.2)

sewn_one : (k m : ℕ) (run : List Record) (others : List (List Record)) → AreRuns k (run ∷ []) → AreRuns m others → last_number run + 1 ≤ m → AreRuns k (stitched run others)
sewn_one k m run [] a b far = a
sewn_one k m [] (next ∷ others) a b far = absurd a
sewn_one k m (x ∷ xs) ([] ∷ others) a b far = absurd b
sewn_one k m (x ∷ xs) ((y ∷ ys) ∷ others) a b far =
    let end = last_consecutive x xs a.1 in
    let low = b.0 in
    stitched_case (λ l. AreRuns k l) (x ∷ xs) (y ∷ ys) others
    (λ e. (a.0, run_more (suc x.number) xs y a.1 (omega (arith, e)) ys b.1, subst (λ n. AreRuns (n + 2) others) (sym (last-append (x ∷ xs) y ys)) b.2))
    (λ ne. (
      a.0,
      a.1,
      (
        elim (compared (last_number (x ∷ xs) + 1) y.number) [
          | inl l ↦ (let q : last_number (x ∷ xs) + 2 ≤ y.number = omega arith in q)
          | inr (inl e) ↦ absurd (ne e)
          | inr (inr l) ↦ absurd (omega arith)
        ],
        b.1,
        b.2,
      ),
    ))

-- where the others begin behind the runs, they are runs together
sewn_some : (k m : ℕ) (run : List Record) (runs others : List (List Record)) → AreRuns k (run ∷ runs) → AreRuns m others → reach k (run ∷ runs) ≤ m + 1 → AreRuns k (sewn (run ∷ runs) others)
sewn_some k m run [] others a b far = sewn_one k m run others a b (omega arith)
sewn_some k m [] (more ∷ runs) others a b far = absurd a
sewn_some k m (x ∷ xs) (more ∷ runs) others a b far = (a.0, a.1, sewn_some (last_number (x ∷ xs) + 2) m more runs others a.2 b far)

pub sewn_runs : (k m : ℕ) (runs others : List (List Record)) → AreRuns k runs → AreRuns m others → k ≤ m → reach k runs ≤ m + 1 → AreRuns k (sewn runs others)
sewn_runs k m [] others a b l far = runs_lower k m others l b
sewn_runs k m (run ∷ runs) others a b l far = sewn_some k m run runs others a b far

-- runs whose records bear n at most reach no further
pub reach_members : (k n : ℕ) (runs : List (List Record)) → AreRuns k runs → ((x : Record) → IsIn x (flatten runs) → x.number ≤ n) → k ≤ n + 2 → reach k runs ≤ n + 2
reach_members k n [] r low l = l
reach_members k n ([] ∷ runs) r low l = absurd r
reach_members k n ((x ∷ xs) ∷ runs) r low l =
    let end = last_consecutive x xs r.1 in
    let w = there_in_run x.number (last_number (x ∷ xs)) (x ∷ xs) (refl, r.1) (omega arith) (omega arith) in
    let high = low w.0 (in_left w.0 (x ∷ xs) (flatten runs) w.1) in
    let same = w.2 in
    reach_members (last_number (x ∷ xs) + 2) n runs r.2 (λ z h. low z (in_right z (x ∷ xs) (flatten runs) h)) (omega (arith, same, high))

-- runs whose records bear n at least begin there
pub runs_begin : (k n : ℕ) (runs : List (List Record)) → AreRuns k runs → ((x : Record) → IsIn x (flatten runs) → n ≤ x.number) → AreRuns n runs
runs_begin k n [] r high = tt
runs_begin k n ([] ∷ runs) r high = absurd r
runs_begin k n ((x ∷ xs) ∷ runs) r high = (high x (inl refl), r.1, r.2)

-- the last run, where the first of the others goes on from it
pub sewn_touching : (run : List Record) (runs : List (List Record)) (next : List Record) (others : List (List Record)) → last_number (get_or (run ∷ runs) (length runs) []) + 1 ≡ first_number next → slice_set (run ∷ runs) (length runs) (get_or (run ∷ runs) (length runs) [] ++ next) ++ others ≡ sewn (run ∷ runs) (next ∷ others)
sewn_touching run [] next others e = stitched_case (λ l. (run ++ next) ∷ others ≡ l) run next others (λ _. refl) (λ ne. absurd (ne e))
sewn_touching run (more ∷ runs) next others e = ap (λ l. run ∷ l) (sewn_touching more runs next others e)

pub sewn_apart : (run : List Record) (runs : List (List Record)) (next : List Record) (others : List (List Record)) → last_number (get_or (run ∷ runs) (length runs) []) + 1 ≢ first_number next → (run ∷ runs) ++ next ∷ others ≡ sewn (run ∷ runs) (next ∷ others)
sewn_apart run [] next others ne = stitched_case (λ l. run ∷ next ∷ others ≡ l) run next others (λ e. absurd (ne e)) (λ _. refl)
sewn_apart run (more ∷ runs) next others ne = ap (λ l. run ∷ l) (sewn_apart more runs next others ne)

sewn_none : (runs : List (List Record)) → runs ++ [] ≡ sewn runs []
sewn_none [] = refl
sewn_none (run ∷ []) = refl
sewn_none (run ∷ more ∷ runs) = ap (λ l. run ∷ l) (sewn_none (more ∷ runs))

last_place : (run : List Record) (runs : List (List Record)) → length (run ∷ runs) - 1 ≡ length runs
last_place run runs = omega arith

-- both, as `splice` finds them
pub sewn_by_touch : (runs others : List (List Record)) → 1 ≤ length others → TouchesBelow (first_number (get_or others 0 [])) (length runs) runs → slice_set runs (length runs - 1) (get_or runs (length runs - 1) [] ++ get_or others 0 []) ++ drop 1 others ≡ sewn runs others
sewn_by_touch runs [] l t = absurd (omega arith)
sewn_by_touch [] (next ∷ others) l t = absurd (let q = t.0 in omega arith)
sewn_by_touch (run ∷ runs) (next ∷ others) l t =
    subst (λ j. slice_set (run ∷ runs) j (get_or (run ∷ runs) j [] ++ next) ++ others ≡ sewn (run ∷ runs) (next ∷ others)) (sym (last_place run runs))
    (sewn_touching run runs next others (subst (λ j. last_number (get_or (run ∷ runs) j []) + 1 ≡ first_number next) (last_place run runs) t.1))

pub sewn_by_gap : (runs others : List (List Record)) → ((1 ≤ length others) × TouchesBelow (first_number (get_or others 0 [])) (length runs) runs → ⊥) → runs ++ others ≡ sewn runs others
sewn_by_gap runs [] apart = sewn_none runs
sewn_by_gap [] (next ∷ others) apart = refl
sewn_by_gap (run ∷ runs) (next ∷ others) apart =
    sewn_apart run runs next others (λ e. apart (omega arith, (omega arith, subst (λ j. last_number (get_or (run ∷ runs) j []) + 1 ≡ first_number next) (sym (last_place run runs)) e)))

-- what was sewn to runs is cut off again
pub sewn_long : (runs others : List (List Record)) → length runs ≤ length (sewn runs others)
sewn_long [] others = omega arith
sewn_long (run ∷ []) [] = omega arith
sewn_long (run ∷ []) (next ∷ others) = stitched_case (λ l. 1 ≤ length l) run next others (λ _. omega arith) (λ _. omega arith)
sewn_long (run ∷ more ∷ runs) others = let rest = sewn_long (more ∷ runs) others in omega arith

cut_some : (run : List Record) (runs others : List (List Record)) → slice_set (take (suc (length runs)) (sewn (run ∷ runs) others)) (length runs) (take (length (get_or (run ∷ runs) (length runs) [])) (get_or (take (suc (length runs)) (sewn (run ∷ runs) others)) (length runs) [])) ≡ run ∷ runs
cut_some run [] [] = ap (λ l. l ∷ []) (take_all (length run) run (omega arith))
cut_some run [] (next ∷ others) =
    stitched_case (λ l. slice_set (take 1 l) 0 (take (length run) (get_or (take 1 l) 0 [])) ≡ run ∷ []) run next others
    (λ _. ap (λ l. l ∷ []) (take_at run next (length run) refl))
    (λ _. ap (λ l. l ∷ []) (take_all (length run) run (omega arith)))
cut_some run (more ∷ runs) others = ap (λ l. run ∷ l) (cut_some more runs others)

-- the first runs, of whose last one only the first records are left
abbrev cut_of : ℕ → ℕ → ℕ → List (List Record) → List (List Record)
cut_of count j len runs = slice_set (take count runs) j (take len (get_or (take count runs) j []))

pub cut_back : (runs others whole : List (List Record)) (count len : ℕ) → whole ≡ sewn runs others → count ≡ length runs → len ≡ length (get_or runs (length runs - 1) []) → slice_set (take count whole) (count - 1) (take len (get_or (take count whole) (count - 1) [])) ≡ runs
cut_back [] others whole count len e n m = ap (λ c. cut_of c (c - 1) len whole) n
cut_back (run ∷ runs) others whole count len e n m =
    let q = last_place run runs in
    let many : count ≡ suc (length runs) = omega (arith, n) in
    ap (λ l. cut_of count (count - 1) len l) e
    ∙ ap (λ c. cut_of c (c - 1) len (sewn (run ∷ runs) others)) many
    ∙ ap (λ j. cut_of (suc (length runs)) j len (sewn (run ∷ runs) others)) q
    ∙ ap (λ k. cut_of (suc (length runs)) (length runs) k (sewn (run ∷ runs) others)) (m ∙ ap (λ j. length (get_or (run ∷ runs) j [])) q)
    ∙ cut_some run runs others

-- new records of numbers that ascend are as many more
pub length_new : (k : ℕ) (ys xs : List Record) → Ascending k ys → AreNew ys xs → length (with_records ys xs) ≡ length xs + length ys
length_new k [] xs a new = omega arith
length_new k (y ∷ ys) xs a new =
    let more = length_with y xs (none_in y.number xs (new y (inl refl))) in
    let rest = length_new (suc y.number) ys (with_record y xs) a.1 (λ x h. none_found x.number (with_record y xs) (λ z m e. elim (in_with_record y xs z m) [
      | inl old ↦ absurd (none_in x.number xs (new x (inr h)) z old e)
      | inr same ↦ absurd (let high = ascending_above (suc y.number) ys a.1 x h in let q : z.number ≡ y.number = ap (λ (w : Record). w.number) same in omega (arith, e))
    ])) in
    omega arith

-- more runs end at a higher number
pub up_to_more : (n m : ℕ) (runs : List (List Record)) → n ≤ m → runs_up_to n runs ≤ runs_up_to m runs
up_to_more n m [] l = omega arith
up_to_more n m (run ∷ runs) l =
    let rest = up_to_more n m runs l in
    up_to_case (λ i. i ≤ runs_up_to m (run ∷ runs)) n run runs
    (λ ends. up_to_case (λ j. suc (runs_up_to n runs) ≤ j) m run runs (λ _. omega arith) (λ bad. absurd (omega arith)))
    (λ _. omega arith)

-- the greatest number is one of them
top_there : (x : Record) (xs : List Record) → (z : Record) × IsIn z (x ∷ xs) × (z.number ≡ top_of (x ∷ xs))
top_there x [] = (x, inl refl, omega arith)
top_there x (y ∷ ys) =
    let w = top_there y ys in
    let e = w.2 in
    elim (dec_le x.number (top_of (y ∷ ys))) [
      | inl l ↦ (w.0, inr w.1, omega (arith, e))
      | inr l ↦ (x, inl refl, omega (arith, e))
    ]

-- new runs, whose least number is `first` and whose greatest is `last`
pub record Ends (first last : ℕ) (runs new : List (List Record)) : Type 0 where
  pub ours : AreRuns 1 runs
  pub theirs : AreRuns 1 new
  pub fresh : AreNew (flatten new) (flatten runs)
  pub start : 1 ≤ first
  pub order : first ≤ last
  pub least : (x : Record) → IsIn x (flatten new) → first ≤ x.number
  pub most : (x : Record) → IsIn x (flatten new) → x.number ≤ last
  pub no_first : (x : Record) → IsIn x (flatten runs) → x.number ≢ first
  pub no_last : (x : Record) → IsIn x (flatten runs) → x.number ≢ last

pub ends_of : (runs new : List (List Record)) (run : List Record) → AreRuns 1 runs → AreRuns 1 new → AreNew (flatten new) (flatten runs) → 1 ≤ length new → run ≡ get_or new 0 run → Ends (first_number run) (top_of (flatten new)) runs new
ends_of runs [] run a b fresh l e = absurd (omega arith)
ends_of runs ([] ∷ new) run a b fresh l e = absurd b
ends_of runs ((x ∷ xs) ∷ new) run a b fresh l e =
    let all = flatten ((x ∷ xs) ∷ new) in
    let w = top_there x (xs ++ flatten new) in
    subst (λ q. Ends (first_number q) (top_of all) runs ((x ∷ xs) ∷ new)) (sym e) record {
      ours = a;
      theirs = b;
      fresh = fresh;
      start = b.0;
      order = top_above all x (inl refl);
      least = ascending_above x.number all (ascending_flat x.number ((x ∷ xs) ∷ new) (omega arith, b.1, b.2));
      most = top_above all;
      no_first = none_in x.number (flatten runs) (fresh x (inl refl));
      no_last = λ z h q. none_in (w.0).number (flatten runs) (fresh w.0 w.1) z h (q ∙ sym w.2);
    }

-- the records before and behind a place
split_at : (i : ℕ) (runs : List (List Record)) → flatten (take i runs) ++ flatten (drop i runs) ≡ flatten runs
split_at i runs = sym (flatten-append (take i runs) (drop i runs)) ∙ ap flatten (take-append-drop i runs)

in_before : (x : Record) (i : ℕ) (runs : List (List Record)) → IsIn x (flatten (take i runs)) → IsIn x (flatten runs)
in_before x i runs h = subst (λ l. IsIn x l) (split_at i runs) (in_left x (flatten (take i runs)) (flatten (drop i runs)) h)

in_behind : (x : Record) (i : ℕ) (runs : List (List Record)) → IsIn x (flatten (drop i runs)) → IsIn x (flatten runs)
in_behind x i runs h = subst (λ l. IsIn x l) (split_at i runs) (in_right x (flatten (take i runs)) (flatten (drop i runs)) h)

in_parts : (x : Record) (i : ℕ) (runs : List (List Record)) → IsIn x (flatten runs) → IsIn x (flatten (take i runs)) ⊎ IsIn x (flatten (drop i runs))
in_parts x i runs h = in_append x (flatten (take i runs)) (flatten (drop i runs)) (subst (λ l. IsIn x l) (sym (split_at i runs)) h)

before_low : (n : ℕ) (runs : List (List Record)) (i : ℕ) → AreRuns 1 runs → i ≡ runs_up_to n runs → (x : Record) → IsIn x (flatten (take i runs)) → x.number ≤ n
before_low n runs i r at x h = low_records n 1 runs r x (subst (λ j. IsIn x (flatten (take j runs))) at h)

behind_high : (n : ℕ) (runs : List (List Record)) (i : ℕ) → AreRuns 1 runs → ((x : Record) → IsIn x (flatten runs) → x.number ≢ n) → i ≡ runs_up_to n runs → (x : Record) → IsIn x (flatten (drop i runs)) → n < x.number
behind_high n runs i r none at x h = high_records n 1 runs r none x (subst (λ j. IsIn x (flatten (drop j runs))) at h)

-- the runs with those of the middle in place of what lies between the ends
abbrev renewed : ℕ → ℕ → List (List Record) → List (List Record) → List (List Record)
renewed i k runs middle = sewn (sewn (take i runs) middle) (drop k runs)

flat_renewed : (i k : ℕ) (runs middle : List (List Record)) → flatten (renewed i k runs middle) ≡ flatten (take i runs) ++ (flatten middle ++ flatten (drop k runs))
flat_renewed i k runs middle =
    flatten_sewn (sewn (take i runs) middle) (drop k runs) ∙ ap (λ l. l ++ flatten (drop k runs)) (flatten_sewn (take i runs) middle)
    ∙ append_append (flatten (take i runs)) (flatten middle) (flatten (drop k runs))

-- the runs from place i to place k are those that reach to the new numbers, and `middle` has the records of both
pub record Renewal (first last : ℕ) (runs new middle : List (List Record)) (i k : ℕ) : Type 0 where
  pub ends : Ends first last runs new
  pub between : AreRuns 1 middle
  pub joined : IsJoinedUpTo (first - 1) last (flatten runs) (flatten new) (flatten middle)
  pub from : i ≡ runs_up_to first runs
  pub to : k ≡ runs_up_to last runs

pub renewed_runs : (first last : ℕ) (runs new middle : List (List Record)) (i k : ℕ) → Renewal first last runs new middle i k → AreRuns 1 (sewn (sewn (take i runs) middle) (drop k runs))
renewed_runs first last runs new middle i k r =
    let ends = r.ends in
    let am = r.between in
    let j = r.joined in
    let at = r.from in
    let to = r.to in
    let start = ends.start in
    let order = ends.order in
    let front = runs_around 1 runs i ends.ours in
    let back = runs_around 1 runs k ends.ours in
    let low : (x : Record) → IsIn x (flatten (take i runs)) → x.number ≤ first - 1 = λ x h.
    let l = before_low first runs i ends.ours at x h in let ne = ends.no_first x (in_before x i runs h) in omega arith in
    let begun = runs_begin 1 first middle am (λ x h. let w = j.known x h in let q = w.1 in omega arith) in
    let one = sewn_runs 1 first (take i runs) middle front.0 begun start (let q = reach_members 1 (first - 1) (take i runs) front.0 low (omega arith) in omega arith) in
    let tail = runs_begin (reach 1 (take k runs)) (last + 1) (drop k runs) back.1 (λ x h. let l = behind_high last runs k ends.ours ends.no_last to x h in omega arith) in
    sewn_runs 1 (last + 1) (sewn (take i runs) middle) (drop k runs) one tail (omega arith)
    (let q = reach_members 1 last (sewn (take i runs) middle) one (λ x h.
    elim (in_append x (flatten (take i runs)) (flatten middle) (subst (λ l. IsIn x l) (flatten_sewn (take i runs) middle) h)) [
      | inl p ↦ (let l = low x p in omega arith)
      | inr p ↦ (let w = j.known x p in w.2)
    ]) (omega arith) in omega arith)

pub renewed_records : (first last : ℕ) (runs new middle : List (List Record)) (i k : ℕ) → Renewal first last runs new middle i k → flatten (sewn (sewn (take i runs) middle) (drop k runs)) ≡ with_records (flatten new) (flatten runs)
renewed_records first last runs new middle i k r =
    let ends = r.ends in
    let j = r.joined in
    let to = r.to in
    let at = r.from in
    let xs = flatten runs in
    let ys = flatten new in
    let front = flatten (take i runs) in
    let ms = flatten middle in
    let back = flatten (drop k runs) in
    let start = ends.start in
    let a = ascending_flat 1 runs ends.ours in
    let b = ascending_flat 1 new ends.theirs in
    let flat = flat_renewed i k runs middle in
    let agree : AreAgreeing xs ys = λ x y h t e. absurd (none_in y.number xs (ends.fresh y t) x h e) in
    same_members 1 1 (flatten (renewed i k runs middle)) (with_records ys xs)
    (ascending_flat 1 (renewed i k runs middle) (renewed_runs first last runs new middle i k r)) (ascending_with_all ys xs a (ascending_above 1 ys b))
    (λ x h. elim (in_append x front (ms ++ back) (subst (λ l. IsIn x l) flat h)) [
      | inl p ↦ with_records_keep ys xs x (in_before x i runs p)
      | inr q ↦ elim (in_append x ms back q) [
        | inl p ↦ (let w = j.known x p in elim w.0 [ inl t ↦ with_records_keep ys xs x t | inr t ↦ with_records_have ys xs agree (ascending_same 1 ys b) x t ])
        | inr p ↦ with_records_keep ys xs x (in_behind x k runs p)
      ]
    ])
    (λ x h. subst (λ l. IsIn x l) (sym flat) (elim (in_with_records ys xs x h) [
      | inl t ↦ elim (dec_le first x.number) [
        | inl high ↦ elim (dec_le x.number last) [
          | inl within ↦ in_right x front (ms ++ back) (in_left x ms back (j.all x (inl t) (omega arith) within))
          | inr beyond ↦ elim (in_parts x k runs t) [
            | inl p ↦ absurd (let l = before_low last runs k ends.ours to x p in omega arith)
            | inr p ↦ in_right x front (ms ++ back) (in_right x ms back p)
          ]
        ]
        | inr low ↦ elim (in_parts x i runs t) [
          | inl p ↦ in_left x front (ms ++ back) p
          | inr p ↦ absurd (let l = behind_high first runs i ends.ours ends.no_first at x p in omega arith)
        ]
      ]
      | inr t ↦ (let l = ends.least x t in in_right x front (ms ++ back) (in_left x ms back (j.all x (inr t) (omega arith) (ends.most x t))))
    ]))
