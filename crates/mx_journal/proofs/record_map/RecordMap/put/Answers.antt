use Rattle.std.proofs.Common.{◌≡◌, ◌≢◌, None, Some, ◌∙◌, sym, ap, subst, refl, arith}
use Rattle.mx_journal.specs.Records.{Ascending, record_at, with_record}
use Rattle.mx_journal.specs.Runs.{AreRuns, flatten}
use Rattle.mx_journal.proofs.Flat.{ascending_flat}
use Rattle.mx_journal.proofs.Answering.{PutVerdict, conflict_put, is_memory, memory_put, new_put, not_true, same_put, zero_none, zero_put}
use Rattle.mx_journal.proofs.record_map.RecordMap.put.Goals.{then-is, else-is}
use Rattle.mx_journal.proofs.record_map.RecordMap.put.Goals as goal

pub invariant_of-self : goal.invariant_of-self
invariant_of-self c = c.self.invariant

pub returns-then-entry-eq0 : goal.returns-then-entry-eq0
returns-then-entry-eq0 c =
    let none = zero_none c.args.entry.number c.args.self.now (subst (λ xs. Ascending 1 xs) c.self.view_is (ascending_flat 1 c.self.inside.runs.items c.self.invariant)) c.if-entry-eq0.true in
    let v = zero_put _ c.args.entry c.args.self.now (flatten c.self.inside.runs.items) refl c.if-entry-eq0.true none c.self.view_is in
    record { zero = v.zero; conflict = v.conflict; same = v.same; new = v.new; fresh = v.fresh; kept = v.kept }

pub find-requires : goal.find-requires
find-requires c = subst (λ l. AreRuns 1 l) (sym c.deref.ensures.value) c.self.invariant

pub invariant_of-self-in-Some : goal.invariant_of-self-in-Some
invariant_of-self-in-Some c = c.self.invariant

pub returns-in-Some : goal.returns-in-Some
returns-in-Some c =
    let some : c.args.entry.number ≢ 0 = c.if-entry-eq0.false in
    let found : record_at c.args.entry.number c.args.self.now ≡ Some c.in-Some.there.now = subst (λ l. record_at c.args.entry.number l ≡ Some c.in-Some.there.now) (ap flatten c.deref.ensures.value ∙ c.self.view_is) c.in-Some.ensures in
    let v : PutVerdict c.if-is.result c.args.entry c.args.self.now (flatten c.self.inside.runs.items) = elim c.if-is.branch [
      | then-is w ↦ same_put c.if-is.result c.args.entry c.in-Some.there.now c.args.self.now (flatten c.self.inside.runs.items) w.result-is some found (c.is.ensures.0 w.if-is.true) c.self.view_is
      | else-is w ↦ conflict_put c.if-is.result c.args.entry c.in-Some.there.now c.args.self.now (flatten c.self.inside.runs.items) w.result-is some found (λ e. not_true c.is.result (c.is.ensures.1 e) w.if-is.false) c.self.view_is
    ] in
    record { zero = v.zero; conflict = v.conflict; same = v.same; new = v.new; fresh = v.fresh; kept = v.kept }

pub insert-requires : goal.insert-requires
insert-requires c = record {
  runs = c.self.invariant;
  numbered = omega (arith, c.if-entry-eq0.false);
  fresh = subst (λ l. record_at c.args.entry.number (flatten l) ≡ None) c.deref.ensures.value c.in_default.ensures;
}

pub invariant_of-self-in_err-insert : goal.invariant_of-self-in_err-insert
invariant_of-self-in_err-insert c = subst (λ l. AreRuns 1 l) (sym c.in_err-insert.ensures.err) c.self.invariant

pub returns-in_err-insert : goal.returns-in_err-insert
returns-in_err-insert c =
    let none = subst (λ l. record_at c.args.entry.number l ≡ None) (ap flatten c.deref.ensures.value ∙ c.self.view_is) c.in_default.ensures in
    let v = memory_put c.from_residual.result c.args.entry c.args.self.now (flatten c.insert.new.runs.items) (is_memory c.from_residual.result c.from_residual.ensures.1) c.if-entry-eq0.false none (ap flatten c.in_err-insert.ensures.err ∙ c.self.view_is) in
    record { zero = v.zero; conflict = v.conflict; same = v.same; new = v.new; fresh = v.fresh; kept = v.kept }

pub invariant_of-self-2 : goal.invariant_of-self-2
invariant_of-self-2 c = c.in_ok-insert.ensures.ok.runs

pub returns : goal.returns
returns c =
    let none = subst (λ l. record_at c.args.entry.number l ≡ None) (ap flatten c.deref.ensures.value ∙ c.self.view_is) c.in_default.ensures in
    let v = new_put _ c.args.entry c.args.self.now (flatten c.insert.new.runs.items) refl c.if-entry-eq0.false none (c.in_ok-insert.ensures.ok.records ∙ ap (λ l. with_record c.args.entry l) c.self.view_is) in
    record { zero = v.zero; conflict = v.conflict; same = v.same; new = v.new; fresh = v.fresh; kept = v.kept }
