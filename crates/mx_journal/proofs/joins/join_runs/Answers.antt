use Rattle.std.proofs.Common.{ℕ, Bool, true, List, suc, ◌≡◌, ◌≤◌, ◌<◌, ◌+◌, ◌-◌, ◌==◌, [], ◌∷◌, get_or, length, sym, ◌∙◌, ap, refl, subst, arith}
use Rattle.std.proofs.lemmas.Bool.Decides.{nat_tests}
use Rattle.mx_journal.specs.declared.records.Record.{Record}
use Rattle.mx_journal.specs.Records.{Ascending, above, with_records}
use Rattle.mx_journal.specs.Runs.{AreRuns, TouchesBelow, first_number, flatten, last_number, runs_up_to}
use Rattle.mx_journal.proofs.Answering.{at_failure, no_value}
use Rattle.mx_journal.proofs.Appending.{Goes, appended_length, appended_records, appended_runs, goes, single}
use Rattle.mx_journal.proofs.Found.{consecutive_ascends, run_at}
use Rattle.mx_journal.proofs.Going.{above_all}
use Rattle.mx_journal.proofs.Maps.{ascending_from}
use Rattle.mx_journal.proofs.joins.join_runs.Goals as goal

-- without runs nothing changes
nothing : (other : List (List Record)) (none : Bool) (from : ℕ) (ours : List Record) → none ≡ (length other == 0) → none ≡ true → ours ≡ with_records (above from (flatten other)) ours
nothing [] none from ours e f = refl
nothing (run ∷ runs) none from ours e f = absurd (grind (arith, nat_tests, e, f))

-- the other run goes on from one of ours
behind : (c : goal.After-len) → Goes c.index-other-0.result c.args.runs.now.items c.place_of-at.result
behind c =
    let runs = c.args.runs.now.items in
    let more = c.index-other-0.result in
    let at = c.place_of-at.result in
    let w = run_at 1 c.args.other.now 0 more c.requires.theirs (omega (arith, c.if-other-eq1.true)) c.index-other-0.is in
    goes more runs at c.requires.ours w.0 w.2
    (c.place_of-at.ensures.value ∙ ap (λ l. runs_up_to (c.first.result - 1) l) c.deref.ensures.value ∙ ap (λ n. runs_up_to (n - 1) runs) c.first.ensures)
    (subst (λ l. TouchesBelow (first_number more) at l) c.deref-then-first-from.ensures.value (c.goes_behind.ensures.touches c.if-goes_behind.true))
    (subst (λ l. at < length l → last_number more + 2 ≤ first_number (get_or l at [])) c.deref-then-first-from.ensures.value (c.goes_behind.ensures.apart c.if-goes_behind.true))

-- and all of it is above the number
high : (c : goal.After-len) → Ascending (suc c.args.from) c.index-other-0.result
high c =
    let more = c.index-other-0.result in
    let w = run_at 1 c.args.other.now 0 more c.requires.theirs (omega (arith, c.if-other-eq1.true)) c.index-other-0.is in
    ascending_from (suc c.args.from) (first_number more) more (omega (arith, c.if-first-from.true, c.first-then-other-eq1.ensures)) (consecutive_ascends (first_number more) more w.0)

pub returns-then-goes_behind : goal.returns-then-goes_behind
returns-then-goes_behind c =
    let runs = c.args.runs.now.items in
    let more = c.index-other-0.result in
    let at = c.place_of-at.result in
    let done = c.in_ok-append_run.ensures.ok in
    let w = behind c in
    record {
      ok = record {
        records = ap flatten done ∙ appended_records more runs at w
            ∙ ap (λ l. with_records l (flatten runs)) (sym (above_all c.args.from more (high c)) ∙ ap (λ l. above c.args.from l) (sym (single c.args.other.now more c.if-other-eq1.true c.index-other-0.is)));
        runs = subst (λ l. AreRuns 1 l) (sym done) (appended_runs more runs at w);
        count = ap (λ l. length (flatten l)) done ∙ appended_length more runs at w ∙ ap (λ n. length (flatten runs) + n) (sym c.len.ensures);
      };
      err = _;
    }

pub returns-then-is_empty : goal.returns-then-is_empty
returns-then-is_empty c = record {
  ok = record {
    records = nothing c.args.other.now c.is_empty.result c.args.from (flatten c.args.runs.now.items) c.is_empty.ensures c.if-is_empty.true;
    runs = c.requires.ours;
    count = omega arith;
  };
  err = _;
}

pub place_of-at-requires : goal.place_of-at-requires
place_of-at-requires c = subst (λ l. AreRuns 1 l) (sym c.deref.ensures.value) c.requires.ours

pub goes_behind-requires : goal.goes_behind-requires
goes_behind-requires c = subst (λ l. c.place_of-at.result ≤ length l) (c.deref.ensures.value ∙ sym c.deref-then-first-from.ensures.value) c.place_of-at.ensures.bound

pub append_run-requires : goal.append_run-requires
append_run-requires c =
    let w = run_at 1 c.args.other.now 0 c.index-other-0.result c.requires.theirs (omega (arith, c.if-other-eq1.true)) c.index-other-0.is in
    record { first = (c.goes_behind.ensures.touches c.if-goes_behind.true).0; second = subst (λ l. c.place_of-at.result ≤ length l) c.deref.ensures.value c.place_of-at.ensures.bound; some = w.2 }

pub returns-in_err-append_run : goal.returns-in_err-append_run
returns-in_err-append_run c =
    let fault = c.from_residual.ensures.0 in
    let answer = c.from_residual.result in
    record { ok = no_value answer _ fault; err = at_failure answer c.in_err-append_run.ensures.err }

pub join_copies-requires : goal.join_copies-requires
join_copies-requires c = c.requires

pub returns : goal.returns
returns c = let e = c.join_copies.ensures in record { ok = e.ok; err = e.err }
