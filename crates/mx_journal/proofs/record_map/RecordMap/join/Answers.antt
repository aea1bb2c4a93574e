use Rattle.std.proofs.Common.{ℕ, suc, ◌≡◌, ◌+◌, List, IfOk, OnErr, Result, Ok, Err, length, sym, ◌∙◌, ap, subst, arith}
use Rattle.std.specs.declared.alloc.AllocError.{AllocError}
use Rattle.mx_journal.specs.declared.records.Record.{Record}
use Rattle.mx_journal.specs.Agreement.{AreAgreeing}
use Rattle.mx_journal.specs.Records.{Ascending, BringsNew, above, with_records}
use Rattle.mx_journal.specs.Runs.{AreJoined, AreRuns, flatten}
use Rattle.mx_journal.proofs.Answering.{at_failure, on_failure}
use Rattle.mx_journal.proofs.record_map.RecordMap.join.Goals as goal

none_more : (n : ℕ) → n ≡ n + 0
none_more n = omega arith

kept_runs : (r : Result ℕ AllocError) (from : ℕ) (other old new : List (List Record)) → AreRuns 1 old → IfOk r (λ k. AreJoined from other old new k) → OnErr r (new ≡ old) → AreRuns 1 new
kept_runs (Ok k) from other old new runs done kept = done.runs
kept_runs (Err fault) from other old new runs done kept = subst (λ l. AreRuns 1 l) (sym kept) runs

-- what the map has and counts then
map_taken : (r : Result ℕ AllocError) (from : ℕ) (other old new : List (List Record)) → IfOk r (λ k. AreJoined from other old new k) → IfOk r (λ k. (flatten new ≡ with_records (above from (flatten other)) (flatten old)) × (length (flatten new) ≡ length (flatten old) + k))
map_taken (Ok k) from other old new done = (done.records, done.count)
map_taken (Err fault) from other old new done = tt

pub returns-clause-missing : goal.returns-clause-missing
returns-clause-missing c =
    let theirs = ap flatten c.deref-2.ensures.value ∙ c.other.view_is in
    let ours = ap flatten c.deref.ensures.value ∙ c.self.view_is in
    at_failure c.join_runs.result
    (subst (λ l. BringsNew (above c.args.from c.args.other.now) l) ours
    (subst (λ l. BringsNew (above c.args.from l) (flatten c.deref.result.now)) theirs (c.are_there.ensures.missing c.if-are_there.false)))

pub are_there-requires : goal.are_there-requires
are_there-requires c = record {
  runs = subst (λ l. AreRuns 1 l) (sym c.deref.ensures.value) c.self.invariant;
  other = subst (λ l. AreRuns 1 l) (sym c.deref-2.ensures.value) c.other.invariant;
}

pub returns-then-are_there : goal.returns-then-are_there
returns-then-are_there c =
    let ours = ap flatten c.deref.ensures.value ∙ c.self.view_is in
    let theirs = ap flatten c.deref-2.ensures.value ∙ c.other.view_is in
    let same = subst (λ l. with_records (above c.args.from c.args.other.now) l ≡ l) ours
    (subst (λ l. with_records (above c.args.from l) (flatten c.deref.result.now) ≡ flatten c.deref.result.now) theirs (c.are_there.ensures.there c.if-are_there.true)) in
    record { ok = (sym same, none_more (length c.args.self.now)); missing = _; err = _ }

pub join_runs-requires : goal.join_runs-requires
join_runs-requires c =
    let theirs = ap flatten c.deref-3.ensures.value ∙ c.other.view_is in
    record {
      ours = c.self.invariant;
      theirs = subst (λ l. AreRuns 1 l) (sym c.deref-3.ensures.value) c.other.invariant;
      agreeing = subst (λ l. AreAgreeing l (flatten c.deref-3.result.now)) (sym c.self.view_is) (subst (λ l. AreAgreeing c.args.self.now l) (sym theirs) c.requires.agreeing);
      behind = subst (λ l. Ascending (suc c.args.from) l) (sym c.self.view_is) c.requires.behind;
    }

pub invariant_of-self : goal.invariant_of-self
invariant_of-self c = kept_runs c.join_runs.result c.args.from c.deref-3.result.now c.self.inside.runs.items c.join_runs.new.runs.items c.self.invariant c.join_runs.ensures.ok c.join_runs.ensures.err

pub returns-clause-ok : goal.returns-clause-ok
returns-clause-ok c =
    let new = flatten c.join_runs.new.runs.items in
    let other = flatten c.deref-3.result.now in
    subst (λ l. IfOk c.join_runs.result (λ k. (new ≡ with_records (above c.args.from l) c.args.self.now) × (length new ≡ length c.args.self.now + k))) (ap flatten c.deref-3.ensures.value ∙ c.other.view_is)
    (subst (λ l. IfOk c.join_runs.result (λ k. (new ≡ with_records (above c.args.from other) l) × (length new ≡ length l + k))) c.self.view_is
    (map_taken c.join_runs.result c.args.from c.deref-3.result.now c.self.inside.runs.items c.join_runs.new.runs.items c.join_runs.ensures.ok))

pub returns-clause-err : goal.returns-clause-err
returns-clause-err c = on_failure c.join_runs.result c.join_runs.ensures.err (λ e. ap flatten e ∙ c.self.view_is)
