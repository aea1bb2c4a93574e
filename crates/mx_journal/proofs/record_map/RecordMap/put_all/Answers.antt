use Rattle.std.proofs.Common.{length, ◌+◌, ◌∙◌, ◌++◌, sym, ap, subst, refl}
use Rattle.mx_stamps.specs.Lists.{IsIn}
use Rattle.mx_journal.specs.Records.{BringsNew, with_records}
use Rattle.mx_journal.specs.Runs.{AreNew, AreNumbersOf, AreRuns, flatten}
use Rattle.mx_journal.specs.Settled.{beyond}
use Rattle.mx_journal.specs.Agreement.{IsConsistent, IsFirstConflict}
use Rattle.mx_journal.proofs.Beyond.{in_beyond}
use Rattle.mx_journal.proofs.Flat.{ascending_flat, some_record}
use Rattle.mx_journal.proofs.Joining.{of_new_joins}
use Rattle.mx_journal.proofs.Answering.{at_failure, conflict_verdict, is_memory, memory_verdict, no_value, ok_verdict, zero_verdict}
use Rattle.mx_journal.proofs.record_map.RecordMap.put_all.Goals as goal

pub returns-then-has_zero : goal.returns-then-has_zero
returns-then-has_zero c =
    let v = zero_verdict _ c.args.list.now (c.args.self.now ++ beyond c.args.from c.args.list.now) refl (c.has_zero.ensures.there.0 c.if-has_zero.true) in
    record { zero = v.zero; conflict = v.conflict; agreed = v.agreed; ok = _; memory = λ e. absurd (let bad : ⊥ = cc in bad); err = refl }

pub returns-in-Some : goal.returns-in-Some
returns-in-Some c =
    let list = beyond c.args.from c.args.list.now in
    let first : IsFirstConflict c.in-Some.number (c.args.self.now ++ list) =
    subst (λ xs. IsFirstConflict c.in-Some.number (xs ++ list)) (ap flatten c.deref.ensures.value ∙ c.self.view_is) c.in-Some.ensures.some in
    let v = conflict_verdict c.in-Some.number _ c.args.list.now (c.args.self.now ++ list) refl (c.has_zero.ensures.numbered c.if-has_zero.false) first in
    record { zero = v.zero; conflict = v.conflict; agreed = v.agreed; ok = _; memory = λ e. absurd (let bad : ⊥ = cc in bad); err = refl }

pub runs_of_new-requires-clause-known : goal.runs_of_new-requires-clause-known
runs_of_new-requires-clause-known c = subst (λ l. AreRuns 1 l) (sym c.deref-2.ensures.value) c.self.invariant

pub runs_of_new-requires-clause-numbered : goal.runs_of_new-requires-clause-numbered
runs_of_new-requires-clause-numbered c = c.has_zero.ensures.numbered c.if-has_zero.false

pub returns-in_err-other : goal.returns-in_err-other
returns-in_err-other c =
    let list = beyond c.args.from c.args.list.now in
    let consistent : IsConsistent (c.args.self.now ++ list) =
    subst (λ xs. IsConsistent (xs ++ list)) (ap flatten c.deref.ensures.value ∙ c.self.view_is) c.in_default.ensures.none in
    let memory = is_memory c.from_residual.result c.from_residual.ensures.1 in
    let v = memory_verdict c.from_residual.result c.args.list.now (c.args.self.now ++ list) memory (c.has_zero.ensures.numbered c.if-has_zero.false) consistent in
    let new = subst (λ xs. BringsNew list xs) (ap flatten c.deref-2.ensures.value ∙ c.self.view_is) c.in_err-other.ensures.missing in
    record { zero = v.zero; conflict = v.conflict; agreed = v.agreed; ok = no_value c.from_residual.result _ c.from_residual.ensures.0; memory = λ _. new; err = at_failure c.from_residual.result refl }

pub put_runs-requires-clause-fresh : goal.put_runs-requires-clause-fresh
put_runs-requires-clause-fresh c =
    let here = flatten c.self.inside.runs.items in
    let new = flatten c.in_ok-other.other.items in
    subst (λ xs. AreNew xs here) (sym (ap flatten c.deref-3.ensures.value)) (subst (λ xs. AreNew new xs) (ap flatten c.deref-2.ensures.value) c.in_ok-other.ensures.new)

pub put_runs-requires-clause-runs : goal.put_runs-requires-clause-runs
put_runs-requires-clause-runs c = c.self.invariant

pub put_runs-requires-clause-new : goal.put_runs-requires-clause-new
put_runs-requires-clause-new c = subst (λ l. AreRuns 1 l) (sym c.deref-3.ensures.value) c.in_ok-other.ensures.runs

pub invariant_of-self : goal.invariant_of-self
invariant_of-self c = subst (λ l. AreRuns 1 l) (sym c.in_err-put_runs.ensures.err) c.self.invariant

pub returns-in_err-put_runs : goal.returns-in_err-put_runs
returns-in_err-put_runs c =
    let list = beyond c.args.from c.args.list.now in
    let consistent : IsConsistent (c.args.self.now ++ list) =
    subst (λ xs. IsConsistent (xs ++ list)) (ap flatten c.deref.ensures.value ∙ c.self.view_is) c.in_default.ensures.none in
    let memory = is_memory c.from_residual-in_err-put_runs.result c.from_residual-in_err-put_runs.ensures.1 in
    let v = memory_verdict c.from_residual-in_err-put_runs.result c.args.list.now (c.args.self.now ++ list) memory (c.has_zero.ensures.numbered c.if-has_zero.false) consistent in
    let some = some_record c.deref-3.result.now (subst (λ l. AreRuns 1 l) (sym c.deref-3.ensures.value) c.in_ok-other.ensures.runs) c.in_err-put_runs.ensures.some in
    let x = subst (λ l. IsIn some.0 (flatten l)) c.deref-3.ensures.value some.1 in
    let new : BringsNew list (flatten c.deref-2.result.now) = (some.0, c.in_ok-other.ensures.listed some.0 x, c.in_ok-other.ensures.new some.0 x) in
    record { zero = v.zero; conflict = v.conflict; agreed = v.agreed; ok = no_value c.from_residual-in_err-put_runs.result _ c.from_residual-in_err-put_runs.ensures.0; memory = λ _. subst (λ xs. BringsNew list xs) (ap flatten c.deref-2.ensures.value ∙ c.self.view_is) new; err = at_failure c.from_residual-in_err-put_runs.result (ap flatten c.in_err-put_runs.ensures.err ∙ c.self.view_is) }

pub invariant_of-self-2 : goal.invariant_of-self-2
invariant_of-self-2 c = c.in_ok-put_runs.ensures.runs

pub returns : goal.returns
returns c =
    let numbered = c.has_zero.ensures.numbered c.if-has_zero.false in
    let list = beyond c.args.from c.args.list.now in
    let here = flatten c.self.inside.runs.items in
    let new = flatten c.in_ok-other.other.items in
    let consistent : IsConsistent (here ++ list) = subst (λ xs. IsConsistent (xs ++ list)) (ap flatten c.deref.ensures.value) c.in_default.ensures.none in
    let numbers : AreNumbersOf list new here = subst (λ xs. AreNumbersOf list new xs) (ap flatten c.deref-2.ensures.value) c.in_ok-other.ensures.all in
    let done = c.in_ok-put_runs.ensures in
    let v = ok_verdict c.in_ok-put_runs.field-0 c.args.list.now (c.args.self.now ++ list) numbered (subst (λ xs. IsConsistent (xs ++ list)) c.self.view_is consistent) in
    record {
      zero = v.zero;
      conflict = v.conflict;
      agreed = v.agreed;
      ok = (
        done.records ∙ ap (λ l. with_records l here) (ap flatten c.deref-3.ensures.value)
            ∙ of_new_joins here list new (ascending_flat 1 c.self.inside.runs.items c.self.invariant) (λ x h. let w = in_beyond c.args.from c.args.list.now x h in numbered x w.0) consistent c.in_ok-other.ensures.listed numbers
            ∙ ap (λ l. with_records list l) c.self.view_is,
        done.count ∙ ap (λ l. length l + c.in_ok-put_runs.field-0) c.self.view_is,
      );
      memory = λ e. absurd (let bad : ⊥ = cc in bad);
      err = _;
    }
