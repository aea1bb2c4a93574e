-- Runs with a run more that goes on from one of them.
use Rattle.std.proofs.Common.{ℕ, suc, ◌+◌, ◌-◌, ◌<◌, ◌≤◌, ◌≡◌, inl, inr, List, [], ◌∷◌, ◌++◌, length, get_or, slice_set, take, drop, refl, sym, ◌∙◌, ap, subst, arith}
use Rattle.std.proofs.lemmas.List.{drop_all, length-append, set_split, take-append-drop}
use Rattle.mx_stamps.specs.Lists.{IsIn}
use Rattle.mx_stamps.proofs.Lists.{append_append, append_nil, in_append}
use Rattle.mx_stamps.proofs.Choices.{compared}
use Rattle.mx_journal.specs.declared.records.Record.{Record}
use Rattle.mx_journal.specs.Records.{with_records}
use Rattle.mx_journal.specs.Runs.{AreConsecutive, AreRuns, TouchesBelow, first_number, flatten, last_number, runs_up_to}
use Rattle.mx_journal.proofs.Maps.{ascending_above}
use Rattle.mx_journal.proofs.Flat.{ascending_flat, flatten-append, last-append, last_consecutive, low_records, up_to_within}
use Rattle.mx_journal.proofs.Found.{last_of_run}
use Rattle.mx_journal.proofs.PutRuns.{before_end, here, reach, run_more, runs_around, runs_from, runs_joined, with_record_between}

-- records in a row go between those of lower and those of higher numbers
with_records_between : (k : ℕ) (rs before bs : List Record) → AreConsecutive k rs → ((x : Record) → IsIn x before → x.number < k) → ((x : Record) → IsIn x bs → k + length rs ≤ x.number) → with_records rs (before ++ bs) ≡ before ++ (rs ++ bs)
with_records_between k [] before bs c low high = refl
with_records_between k (r ∷ rs) before bs c low high =
    let e = c.0 in
    ap (λ l. with_records rs l)
    (with_record_between r before bs (λ x h. let l = low x h in omega arith) (λ x h. let l = high x h in omega arith) ∙ sym (append_append before (r ∷ []) bs))
    ∙ with_records_between (suc k) rs (before ++ r ∷ []) bs c.1
    (λ x h. elim (in_append x before (r ∷ []) h) [
      | inl m ↦ (let l = low x m in omega arith)
      | inr (inl q) ↦ (let s : x.number ≡ r.number = ap (λ (z : Record). z.number) q in omega arith)
      | inr (inr bad) ↦ absurd bad
    ])
    (λ x h. let l = high x h in omega arith)
    ∙ append_append before (r ∷ []) (rs ++ bs)

-- where no run follows, or it begins behind a gap, the rest are runs from there on
rest_from : (n : ℕ) (runs : List (List Record)) (i : ℕ) → AreRuns 1 runs → (i < length runs → n ≤ first_number (get_or runs i [])) → AreRuns n (drop i runs)
rest_from n runs i r far = elim (compared i (length runs)) [
  | inl l ↦
      subst (λ q. AreRuns n q) (sym (here runs i l))
      (runs_from (reach 1 (take i runs)) n (get_or runs i []) (drop (suc i) runs) (let w = runs_around 1 runs i r in subst (λ q. AreRuns (reach 1 (take i runs)) q) (here runs i l) w.1) (far l))
  | inr (inl e) ↦ subst (λ q. AreRuns n q) (sym (drop_all i runs (omega arith))) tt
  | inr (inr q) ↦ subst (λ q. AreRuns n q) (sym (drop_all i runs (omega arith))) tt
]

joined_run : (m : ℕ) (run more : List Record) (runs : List (List Record)) → AreRuns m (run ∷ runs) → AreConsecutive (first_number more) more → 1 ≤ length more → last_number run + 1 ≡ first_number more → AreRuns (last_number more + 2) runs → AreRuns m ((run ++ more) ∷ runs)
joined_run m [] more runs a c l e b = absurd a
joined_run m (x ∷ xs) [] runs a c l e b = absurd (omega arith)
joined_run m (x ∷ xs) (r ∷ ys) runs a c l e b =
    let end = last_consecutive x xs a.1 in
    (a.0, run_more (suc x.number) xs r a.1 (omega arith) ys c.1, subst (λ n. AreRuns (n + 2) runs) (sym (last-append (x ∷ xs) r ys)) b)

-- a run goes on from the one before place i, and the one at it begins behind a gap
pub record Goes (more : List Record) (runs : List (List Record)) (i : ℕ) : Type 0 where
  pub ours : AreRuns 1 runs
  pub row : AreConsecutive (first_number more) more
  pub some : 1 ≤ length more
  pub place : i ≡ runs_up_to (first_number more - 1) runs
  pub low : 1 ≤ i
  pub inside : i - 1 < length runs
  pub touches : last_number (get_or runs (i - 1) []) + 1 ≡ first_number more
  pub rest : AreRuns (last_number more + 2) (drop i runs)
  pub next : suc (i - 1) ≡ i

pub goes : (more : List Record) (runs : List (List Record)) (i : ℕ) → AreRuns 1 runs → AreConsecutive (first_number more) more → 1 ≤ length more → i ≡ runs_up_to (first_number more - 1) runs → TouchesBelow (first_number more) i runs → (i < length runs → last_number more + 2 ≤ first_number (get_or runs i [])) → Goes more runs i
goes more runs i rs c some at touches far =
    let within = up_to_within (first_number more - 1) runs in
    let low = touches.0 in
    record { ours = rs; row = c; some = some; place = at; low = low; inside = omega arith; touches = touches.1; rest = rest_from (last_number more + 2) runs i rs far; next = omega arith }

-- what stands behind the run before place i
behind_it : (more : List Record) (runs : List (List Record)) (i : ℕ) → Goes more runs i → drop (suc (i - 1)) runs ≡ drop i runs
behind_it more runs i g = ap (λ k. drop k runs) g.next

changed : (more : List Record) (runs : List (List Record)) (i : ℕ) → Goes more runs i → slice_set runs (i - 1) (get_or runs (i - 1) [] ++ more) ≡ take (i - 1) runs ++ (get_or runs (i - 1) [] ++ more) ∷ drop i runs
changed more runs i g =
    set_split runs (i - 1) (get_or runs (i - 1) [] ++ more) g.inside
    ∙ ap (λ l. take (i - 1) runs ++ (get_or runs (i - 1) [] ++ more) ∷ l) (behind_it more runs i g)

-- the runs before place i, flat
front_is : (more : List Record) (runs : List (List Record)) (i : ℕ) → Goes more runs i → flatten (take i runs) ≡ flatten (take (i - 1) runs) ++ get_or runs (i - 1) []
front_is more runs i g = ap (λ k. flatten (take k runs)) (sym g.next) ∙ before_end runs (i - 1) g.inside

pub appended_runs : (more : List Record) (runs : List (List Record)) (i : ℕ) → Goes more runs i → AreRuns 1 (slice_set runs (i - 1) (get_or runs (i - 1) [] ++ more))
appended_runs more runs i g =
    let j = i - 1 in
    let around = runs_around 1 runs j g.ours in
    subst (λ l. AreRuns 1 l) (sym (changed more runs i g)) (runs_joined 1 (take j runs) ((get_or runs j [] ++ more) ∷ drop i runs) around.0
    (joined_run (reach 1 (take j runs)) (get_or runs j []) more (drop i runs)
    (subst (λ l. AreRuns (reach 1 (take j runs)) l) (here runs j g.inside ∙ ap (λ l. get_or runs j [] ∷ l) (behind_it more runs i g)) around.1) g.row g.some g.touches g.rest))

pub appended_records : (more : List Record) (runs : List (List Record)) (i : ℕ) → Goes more runs i → flatten (slice_set runs (i - 1) (get_or runs (i - 1) [] ++ more)) ≡ with_records more (flatten runs)
appended_records more runs i g =
    let run = get_or runs (i - 1) [] in
    let rest = drop i runs in
    let front = flatten (take i runs) in
    let end = last_of_run more g.row g.some in
    let some = g.some in
    let low = g.touches in
    let order = ascending_flat (last_number more + 2) rest g.rest in
    let split : front ++ flatten rest ≡ flatten runs = sym (flatten-append (take i runs) rest) ∙ ap flatten (take-append-drop i runs) in
    ap flatten (changed more runs i g) ∙ flatten-append (take (i - 1) runs) ((run ++ more) ∷ rest)
    ∙ ap (λ l. flatten (take (i - 1) runs) ++ l) (append_append run more (flatten rest))
    ∙ sym (append_append (flatten (take (i - 1) runs)) run (more ++ flatten rest))
    ∙ ap (λ l. l ++ (more ++ flatten rest)) (sym (front_is more runs i g))
    ∙ sym (with_records_between (first_number more) more front (flatten rest) g.row
    (λ x h. let l = low_records (first_number more - 1) 1 runs g.ours x (subst (λ k. IsIn x (flatten (take k runs))) g.place h) in omega arith)
    (λ x h. let l = ascending_above (last_number more + 2) (flatten rest) order x h in omega arith))
    ∙ ap (λ l. with_records more l) split

pub appended_length : (more : List Record) (runs : List (List Record)) (i : ℕ) → Goes more runs i → length (flatten (slice_set runs (i - 1) (get_or runs (i - 1) [] ++ more))) ≡ length (flatten runs) + length more
appended_length more runs i g =
    let run = get_or runs (i - 1) [] in
    let rest = drop i runs in
    let front = flatten (take (i - 1) runs) in
    let e : length (flatten (slice_set runs (i - 1) (run ++ more))) ≡ length (front ++ ((run ++ more) ++ flatten rest)) =
    ap length (ap flatten (changed more runs i g) ∙ flatten-append (take (i - 1) runs) ((run ++ more) ∷ rest)) in
    let f = length-append front ((run ++ more) ++ flatten rest) in
    let h = length-append (run ++ more) (flatten rest) in
    let m = length-append run more in
    let split : length (flatten runs) ≡ length ((front ++ run) ++ flatten rest) =
    ap length (sym (ap flatten (take-append-drop i runs)) ∙ flatten-append (take i runs) rest ∙ ap (λ l. l ++ flatten rest) (front_is more runs i g)) in
    let t = length-append (front ++ run) (flatten rest) in
    let u = length-append front run in
    omega arith

-- one run alone
pub single : (runs : List (List Record)) (run : List Record) → length runs ≡ 1 → run ≡ get_or runs 0 run → flatten runs ≡ run
single [] run l e = absurd (omega arith)
single (x ∷ []) run l e = append_nil x ∙ sym e
single (x ∷ y ∷ ys) run l e = absurd (omega arith)
