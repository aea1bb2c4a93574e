use Rattle.std.proofs.Common.{ℕ, Bool, false, List, get_or, ◌≡◌, ◌+◌, ◌-◌, ◌==◌, length, sym, ◌∙◌, ap, subst, arith}
use Rattle.std.proofs.lemmas.Bool.Decides.{nat_tests}
use Rattle.mx_stamps.specs.Lists.{IsIn}
use Rattle.mx_journal.specs.declared.records.Record.{Record}
use Rattle.mx_journal.specs.Records.{top_of}
use Rattle.mx_journal.specs.Runs.{AreNew, AreRuns, IsJoinedUpTo, first_number, flatten, runs_up_to}
use Rattle.mx_journal.proofs.Answering.{at_failure}
use Rattle.mx_journal.proofs.Maps.{none_in}
use Rattle.mx_journal.proofs.Flat.{ascending_flat}
use Rattle.mx_journal.proofs.Seams.{Ends, Renewal, ends_of, length_new, renewed_records, renewed_runs, up_to_more}
use Rattle.mx_journal.proofs.insertion.put_runs.Goals as goal

pub joined_up_to-requires-clause-agreeing : goal.joined_up_to-requires-clause-agreeing
joined_up_to-requires-clause-agreeing c = λ x y h t e.
    absurd (none_in y.number (flatten c.args.runs.now.items) (c.requires.fresh y t) x (subst (λ l. IsIn x (flatten l)) c.deref-3.ensures.value h) e)

-- the least and the greatest of the new numbers
ends : (runs new : List (List Record)) (run : List Record) (first last : ℕ) (none : Bool) → AreRuns 1 runs → AreRuns 1 new → AreNew (flatten new) (flatten runs) → none ≡ (length new == 0) → none ≡ false → run ≡ get_or new 0 run → first ≡ first_number run → last ≡ top_of (flatten new) → Ends first last runs new
ends runs new run first last none a b fresh e f at least most =
    subst (λ n. Ends n last runs new) (sym least)
    (subst (λ n. Ends (first_number run) n runs new) (sym most) (ends_of runs new run a b fresh (grind (arith, nat_tests, e, f)) at))

pub renew-requires-clause-order : goal.renew-requires-clause-order
renew-requires-clause-order c =
    let runs = c.args.runs.now.items in
    let both = (ends c.args.runs.now.items c.args.new.now c.index-new-0.result c.first-first.result c.top_in-last.result c.is_empty.result c.requires.runs c.requires.new c.requires.fresh c.is_empty.ensures c.if-is_empty.false c.index-new-0.is c.first-first.ensures c.top_in-last.ensures) in
    let order = both.order in
    let from : c.place_of-from.result ≡ runs_up_to c.first-first.result runs = c.place_of-from.ensures.value ∙ ap (λ l. runs_up_to c.first-first.result l) c.deref.ensures.value in
    let to : c.place_of-to.result ≡ runs_up_to c.top_in-last.result runs = c.place_of-to.ensures.value ∙ ap (λ l. runs_up_to c.top_in-last.result l) c.deref-2.ensures.value in
    omega (arith, from, to, up_to_more c.first-first.result c.top_in-last.result runs order)

-- the runs that are renewed, and what they are then
renewal : (c : goal.After-drop-middle-2) → Renewal c.first-first.result c.top_in-last.result c.args.runs.now.items c.args.new.now c.in_ok-middle.middle.items c.place_of-from.result c.place_of-to.result
renewal c = record {
  ends = ends c.args.runs.now.items c.args.new.now c.index-new-0.result c.first-first.result c.top_in-last.result c.is_empty.result c.requires.runs c.requires.new c.requires.fresh c.is_empty.ensures c.if-is_empty.false c.index-new-0.is c.first-first.ensures c.top_in-last.ensures;
  between = c.in_ok-middle.ensures.runs;
  joined = subst (λ l. IsJoinedUpTo (c.first-first.result - 1) c.top_in-last.result (flatten l) (flatten c.args.new.now) (flatten c.in_ok-middle.middle.items)) c.deref-3.ensures.value c.in_ok-middle.ensures.records;
  from = c.place_of-from.ensures.value ∙ ap (λ l. runs_up_to c.first-first.result l) c.deref.ensures.value;
  to = c.place_of-to.ensures.value ∙ ap (λ l. runs_up_to c.top_in-last.result l) c.deref-2.ensures.value;
}

pub returns-clause-runs : goal.returns-clause-runs
returns-clause-runs c =
    subst (λ l. AreRuns 1 l) (sym c.in_ok-renew.ensures.ok)
    (renewed_runs c.first-first.result c.top_in-last.result c.args.runs.now.items c.args.new.now c.in_ok-middle.middle.items c.place_of-from.result c.place_of-to.result (renewal c))

pub returns-clause-records : goal.returns-clause-records
returns-clause-records c =
    ap flatten c.in_ok-renew.ensures.ok
    ∙ renewed_records c.first-first.result c.top_in-last.result c.args.runs.now.items c.args.new.now c.in_ok-middle.middle.items c.place_of-from.result c.place_of-to.result (renewal c)

pub returns-clause-count : goal.returns-clause-count
returns-clause-count c =
    let runs = c.args.runs.now.items in
    let new = c.args.new.now in
    ap length (returns-clause-records c)
    ∙ length_new 1 (flatten new) (flatten runs) (ascending_flat 1 new c.requires.new) c.requires.fresh
    ∙ ap (λ n. length (flatten runs) + n) (sym c.len_of.ensures)

pub returns-in_err-middle-clause-some : goal.returns-in_err-middle-clause-some
returns-in_err-middle-clause-some c = at_failure c.from_residual.result (grind (arith, nat_tests, c.is_empty.ensures, c.if-is_empty.false))
