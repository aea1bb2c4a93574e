use Rattle.std.proofs.Common.{ℕ, ◌≡◌, ◌-◌, ◌≤◌, ◌<◌, [], ◌∷◌, ◌++◌, List, get_or, insert, length, slice_set, sym, ◌∙◌, ap, refl, subst, arith}
use Rattle.std.specs.Vec.{vec_len}
use Rattle.mx_journal.specs.declared.records.Record.{Record}
use Rattle.mx_journal.specs.Runs.{AreRuns, IsPut, TouchesAbove, TouchesBelow, runs_up_to}
use Rattle.mx_journal.proofs.Answering.{at_failure, no_success, not_true, on_ok}
use Rattle.mx_journal.proofs.Flat.{up_to_within}
use Rattle.mx_journal.proofs.PutRuns.{put_alone, put_at_start, put_below, put_both, read_there}
use Rattle.mx_journal.proofs.places.insert.Goals as goal

before_end : (i n : ℕ) → 1 ≤ i → i ≤ n → i - 1 < n
before_end i n some within = omega arith

-- where the record goes
spot : (n at : ℕ) (seen runs : List (List Record)) → at ≡ runs_up_to n seen → seen ≡ runs → at ≡ runs_up_to n runs
spot n at seen runs e same = e ∙ ap (λ l. runs_up_to n l) same

pub returns-then-above-clause-ok : goal.returns-then-above-clause-ok
returns-then-above-clause-ok c =
    let runs = c.args.runs.now.items in
    let at = c.place_of-at.result in
    let below : TouchesBelow c.args.entry.number at runs = subst (λ l. TouchesBelow c.args.entry.number at l) c.deref-2.ensures.value (c.touches_below-below.ensures.0 c.if-below.true) in
    let above : TouchesAbove c.args.entry.number at runs = subst (λ l. TouchesAbove c.args.entry.number at l) c.deref-3.ensures.value (c.touches_above-above.ensures.0 c.if-above.true) in
    on_ok c.insert_between.result c.insert_between.ensures.ok (λ e. subst (λ l. IsPut c.args.entry runs l) (sym e) (put_both c.args.entry runs at c.requires.runs c.requires.fresh (spot c.args.entry.number at _ runs c.place_of-at.ensures.value c.deref.ensures.value) below above))

pub returns-then-below-clause-ok : goal.returns-then-below-clause-ok
returns-then-below-clause-ok c =
    let runs = c.args.runs.now.items in
    let at = c.place_of-at.result in
    let below : TouchesBelow c.args.entry.number at runs = subst (λ l. TouchesBelow c.args.entry.number at l) c.deref-2.ensures.value (c.touches_below-below.ensures.0 c.if-below.true) in
    let apart : TouchesAbove c.args.entry.number at runs → ⊥ = λ t.
    let e = c.touches_above-above.ensures.1 (subst (λ l. TouchesAbove c.args.entry.number at l) (sym c.deref-3.ensures.value) t) in not_true c.touches_above-above.result e c.if-above.false in
    let within = up_to_within c.args.entry.number runs in
    let some = below.0 in
    let run : c.index_mut-run.result.now ≡ get_or runs (at - 1) [] = read_there runs (at - 1) c.index_mut-run.result.now (omega arith) c.index_mut-run.ensures.value in
    on_ok c.push_back.result c.push_back.ensures.ok (λ e.
    subst (λ l. IsPut c.args.entry runs (slice_set runs (at - 1) l)) (sym (e ∙ ap (λ l. l ++ c.args.entry ∷ []) run)) (put_below c.args.entry runs at c.requires.runs c.requires.fresh (spot c.args.entry.number at _ runs c.place_of-at.ensures.value c.deref.ensures.value) below apart))

pub returns-then-above-2-clause-ok : goal.returns-then-above-2-clause-ok
returns-then-above-2-clause-ok c =
    let runs = c.args.runs.now.items in
    let at = c.place_of-at.result in
    let above : TouchesAbove c.args.entry.number at runs = subst (λ l. TouchesAbove c.args.entry.number at l) c.deref-3.ensures.value (c.touches_above-above.ensures.0 c.if-above-2.true) in
    let apart : TouchesBelow c.args.entry.number at runs → ⊥ = λ t.
    let e = c.touches_below-below.ensures.1 (subst (λ l. TouchesBelow c.args.entry.number at l) (sym c.deref-2.ensures.value) t) in not_true c.touches_below-below.result e c.if-below.false in
    let run : c.index_mut-run-then-above-2.result.now ≡ get_or runs at [] = read_there runs at c.index_mut-run-then-above-2.result.now above.0 c.index_mut-run-then-above-2.ensures.value in
    on_ok c.push_front.result c.push_front.ensures.ok (λ e.
    subst (λ l. IsPut c.args.entry runs (slice_set runs at l)) (sym (e ∙ ap (λ l. c.args.entry ∷ l) run)) (put_at_start c.args.entry runs at c.requires.runs c.requires.numbered c.requires.fresh (spot c.args.entry.number at _ runs c.place_of-at.ensures.value c.deref.ensures.value) apart above))

pub returns-clause-ok : goal.returns-clause-ok
returns-clause-ok c =
    let runs = c.args.runs.now.items in
    let at = c.place_of-at.result in
    let above : TouchesAbove c.args.entry.number at runs → ⊥ = λ t.
    let e = c.touches_above-above.ensures.1 (subst (λ l. TouchesAbove c.args.entry.number at l) (sym c.deref-3.ensures.value) t) in not_true c.touches_above-above.result e c.if-above-2.false in
    let below : TouchesBelow c.args.entry.number at runs → ⊥ = λ t.
    let e = c.touches_below-below.ensures.1 (subst (λ l. TouchesBelow c.args.entry.number at l) (sym c.deref-2.ensures.value) t) in not_true c.touches_below-below.result e c.if-below.false in
    let run : c.push_back-2.new.self ≡ c.args.entry ∷ [] = c.in_ok-push_back.ensures.ok ∙ ap (λ l. l ++ c.args.entry ∷ []) c.new-run.ensures in
    subst (λ l. IsPut c.args.entry runs l) (sym (c.in_ok-insert.ensures.items ∙ ap (λ l. insert runs at l) run))
    (put_alone c.args.entry runs at c.requires.runs c.requires.numbered c.requires.fresh (spot c.args.entry.number at _ runs c.place_of-at.ensures.value c.deref.ensures.value) below above)

pub place_of-at-requires : goal.place_of-at-requires
place_of-at-requires c = subst (λ l. AreRuns 1 l) (sym c.deref.ensures.value) c.requires.runs

pub touches_below-below-requires : goal.touches_below-below-requires
touches_below-below-requires c = subst (λ l. c.place_of-at.result ≤ length l) (c.deref.ensures.value ∙ sym c.deref-2.ensures.value) c.place_of-at.ensures.bound

pub insert_between-requires : goal.insert_between-requires
insert_between-requires c = record {
  first = (c.touches_below-below.ensures.0 c.if-below.true).0;
  second = subst (λ l. c.place_of-at.result < length l) c.deref-3.ensures.value (c.touches_above-above.ensures.0 c.if-above.true).0;
}

pub returns-then-above-clause-err : goal.returns-then-above-clause-err
returns-then-above-clause-err c = c.insert_between.ensures.err

pub overflow_sub-at : goal.overflow_sub-at
overflow_sub-at c = (c.touches_below-below.ensures.0 c.if-below.true).0

pub index_mut-run-requires : goal.index_mut-run-requires
index_mut-run-requires c = before_end c.place_of-at.result (vec_len c.args.runs.now) (c.touches_below-below.ensures.0 c.if-below.true).0 (subst (λ n. c.place_of-at.result ≤ n) c.deref.ensures.len c.place_of-at.ensures.bound)

pub index_mut-run-requires-then-above-2 : goal.index_mut-run-requires-then-above-2
index_mut-run-requires-then-above-2 c = subst (λ n. c.place_of-at.result < n) c.deref-3.ensures.len (c.touches_above-above.ensures.0 c.if-above-2.true).0

pub returns-in_err-push_back : goal.returns-in_err-push_back
returns-in_err-push_back c = record { ok = no_success c.from_residual.result _ c.from_residual.ensures.0; err = at_failure c.from_residual.result refl }

pub insert-requires : goal.insert-requires
insert-requires c = subst (λ n. c.place_of-at.result ≤ n) c.deref.ensures.len c.place_of-at.ensures.bound

pub returns-in_err-insert-clause-ok : goal.returns-in_err-insert-clause-ok
returns-in_err-insert-clause-ok c = no_success c.from_residual-in_err-insert.result _ c.from_residual-in_err-insert.ensures.0
