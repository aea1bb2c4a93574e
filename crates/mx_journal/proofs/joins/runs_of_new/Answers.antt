use Rattle.std.proofs.Common.{ℕ, ◌+◌, ◌<◌, ◌≡◌, ◌≤◌, ◌⊎◌, inl, inr, None, [], ◌∷◌, Vec, Global, List, take, refl, sym, ◌∙◌, ap, subst, arith}
use Rattle.std.proofs.lemmas.List.{take_all}
use Rattle.mx_stamps.specs.Lists.{IsIn}
use Rattle.mx_stamps.proofs.Lists.{in_append, in_at, take_here}
use Rattle.mx_journal.specs.declared.records.Record.{Record}
use Rattle.mx_journal.specs.Records.{IsThere, record_at}
use Rattle.mx_journal.specs.Runs.{AreNumbersOf, AreRuns, IsPut, flatten}
use Rattle.mx_journal.specs.Settled.{beyond}
use Rattle.mx_journal.proofs.Answering.{at_failure}
use Rattle.mx_journal.proofs.Maps.{in_with_record, none_in, with_record_has, with_record_keeps}
use Rattle.mx_journal.proofs.Beyond.{beyond_has, in_beyond}
use Rattle.mx_journal.proofs.joins.runs_of_new.Goals.{then-not-is_known+then-not-is_there+in_ok-insert, else-not-is_known, else-not-is_known-via-then-not-is_known+else-not-is_there, else-not-is_known-via-else-not-is_known}
use Rattle.mx_journal.proofs.joins.runs_of_new.Goals as goal

pub insert-requires-clause-numbered : goal.insert-requires-clause-numbered
insert-requires-clause-numbered c =
    subst (λ (x : Record). 1 ≤ x.number) (sym c.copy.ensures)
    (c.requires.numbered c.entry-item.result (in_at c.args.list.now c.loop-entry.entry-index c.entry-item.result c.loop-entry-test.true c.entry-item.is))

-- the runs after one record: they are runs, with this record at most, and without losing any
record IsStep (from : ℕ) (entry : Record) (known old new : List (List Record)) : Type 0 where
  runs : AreRuns 1 new
  only : (x : Record) → IsIn x (flatten new) → IsIn x (flatten old) ⊎ ((x ≡ entry) × (from < entry.number))
  keeps : (x : Record) → IsIn x (flatten old) → IsIn x (flatten new)
  fresh : (x : Record) → IsIn x (flatten new) → IsIn x (flatten old) ⊎ (record_at x.number (flatten known) ≡ None)
  there : from < entry.number → IsThere entry.number (flatten new) ⊎ IsThere entry.number (flatten known)

step_put : (from : ℕ) (entry : Record) (known old new : List (List Record)) → from < entry.number → IsPut entry old new → ((x : Record) → IsIn x (flatten old) → x.number ≡ entry.number → ⊥) → record_at entry.number (flatten known) ≡ None → IsStep from entry known old new
step_put from entry known old new high put fresh unknown = record {
  runs = put.runs;
  only = λ x h. elim (in_with_record entry (flatten old) x (subst (λ l. IsIn x l) put.records h)) [ inl m ↦ inl m | inr e ↦ inr (e, high) ];
  keeps = λ x h. subst (λ l. IsIn x l) (sym put.records) (with_record_keeps entry (flatten old) x h);
  fresh = λ x h. elim (in_with_record entry (flatten old) x (subst (λ l. IsIn x l) put.records h)) [
    | inl m ↦ inl m
    | inr e ↦ inr (subst (λ (z : Record). record_at z.number (flatten known) ≡ None) (sym e) unknown)
  ];
  there = λ _. inl (entry, subst (λ l. IsIn entry l) (sym put.records) (with_record_has entry (flatten old) (λ x h e. absurd (fresh x h e))), refl);
}

step_same : (from : ℕ) (entry : Record) (known old : List (List Record)) → AreRuns 1 old → (from < entry.number → IsThere entry.number (flatten old) ⊎ IsThere entry.number (flatten known)) → IsStep from entry known old old
step_same from entry known old r there = record { runs = r; only = λ x h. inl h; keeps = λ x h. h; fresh = λ x h. inl h; there = there }

step : (c : goal.Joined-not-is_known) → IsStep c.args.from c.entry-item.result c.args.known.now c.loop-entry.runs.items c.if-not-is_known.runs.items
step c =
    let entry = c.entry-item.result in
    let from = c.args.from in
    let known = c.args.known.now in
    let old = c.loop-entry.runs.items in
    elim c.if-not-is_known.branch [
      | then-not-is_known+then-not-is_there+in_ok-insert w ↦
          let put : IsPut entry old w.insert.new.runs.items = subst (λ (r : Record). IsPut r old w.insert.new.runs.items) w.copy.ensures w.in_ok-insert.ensures.ok in
          let gone : record_at entry.number (flatten old) ≡ _ = ap (λ l. record_at entry.number (flatten l)) (sym w.deref.ensures.value) ∙ w.is_there.ensures.missing w.if-not-is_there.true in
          let new = c.is_known.ensures.new w.if-not-is_known.true in
          subst (λ (v : Vec (List Record) Global). IsStep from entry known old v.items) (sym w.runs-is)
          (step_put from entry known old w.insert.new.runs.items new.0 put (none_in entry.number (flatten old) gone) new.1)
      | else-not-is_known w ↦
          let there : from < entry.number → IsThere entry.number (flatten old) ⊎ IsThere entry.number (flatten known) = elim w.else-not-is_known.branch [
            | else-not-is_known-via-then-not-is_known+else-not-is_there v ↦
                λ _. inl (subst (λ l. IsThere entry.number (flatten l)) v.deref.ensures.value (v.is_there.ensures.there v.if-not-is_there.false))
            | else-not-is_known-via-else-not-is_known v ↦
                λ high. elim (c.is_known.ensures.known v.if-not-is_known.false) [ inl low ↦ absurd (omega arith) | inr there ↦ inr there ]
          ] in
          subst (λ (v : Vec (List Record) Global). IsStep from entry known old v.items) (sym w.runs-is) (step_same from entry known old c.loop-entry.invariant.runs there)
    ]

pub loop-entry-preserved : goal.loop-entry-preserved
loop-entry-preserved c =
    let list = c.args.list.now in
    let entry = c.entry-item.result in
    let i = c.loop-entry.entry-index in
    let one = step c in
    record {
      runs = one.runs;
      listed = λ x h. elim (one.only x h) [
        | inl m ↦ c.loop-entry.invariant.listed x m
        | inr e ↦ subst (λ z. IsIn z (beyond c.args.from list)) (sym e.0) (beyond_has c.args.from list entry (in_at list i entry c.loop-entry-test.true c.entry-item.is) e.1)
      ];
      new = λ x h. elim (one.fresh x h) [ inl m ↦ c.loop-entry.invariant.new x m | inr gone ↦ gone ];
      all = λ x h.
          let w = in_beyond c.args.from (take (i + 1) list) x h in
          elim (in_append x (take i list) (entry ∷ []) (subst (λ l. IsIn x l) (take_here list i entry c.loop-entry-test.true c.entry-item.is) w.0)) [
            | inl m ↦ elim (c.loop-entry.invariant.all x (beyond_has c.args.from (take i list) x m w.1)) [ inl v ↦ inl (v.0, one.keeps v.0 v.1, v.2) | inr v ↦ inr v ]
            | inr (inl e) ↦ subst (λ (z : Record). IsThere z.number (flatten c.if-not-is_known.runs.items) ⊎ IsThere z.number (flatten c.args.known.now)) (sym e) (one.there (subst (λ (z : Record). c.args.from < z.number) e w.1))
            | inr (inr bad) ↦ absurd bad
          ];
    }

pub returns-clause-all : goal.returns-clause-all
returns-clause-all c =
    subst (λ l. AreNumbersOf (beyond c.args.from l) (flatten c.loop-entry.runs.items) (flatten c.args.known.now)) (take_all c.loop-entry.entry-index c.args.list.now (omega (arith, c.loop-entry-test.false))) c.loop-entry.invariant.all

pub returns-in_err-insert-clause-missing : goal.returns-in_err-insert-clause-missing
returns-in_err-insert-clause-missing c =
    let list = c.args.list.now in
    let entry = c.entry-item.result in
    let new = c.is_known.ensures.new c.if-not-is_known.true in
    let here = beyond_has c.args.from list entry (in_at list c.loop-entry.entry-index entry c.loop-entry-test.true c.entry-item.is) new.0 in
    at_failure c.from_residual.result (entry, here, new.1)
