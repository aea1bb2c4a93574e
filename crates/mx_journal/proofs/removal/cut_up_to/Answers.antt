use Rattle.std.proofs.Common.{Bool, Vec, Global, List, true, false, ◌≡◌, ◌≤◌, ◌==◌, [], drop, length, get_or, slice_set, vec_len, sym, ◌∙◌, ap, subst, arith}
use Rattle.std.proofs.lemmas.Bool.Decides.{nat_tests}
use Rattle.mx_journal.specs.declared.records.Record.{Record}
use Rattle.mx_journal.specs.Runs.{AreRuns, first_number, flatten}
use Rattle.mx_journal.proofs.Skipped.{IsRest, first_low, none_left, rest_of, skipped, skipped_records, skipped_runs}
use Rattle.mx_journal.proofs.PutRuns.{read_there}
use Rattle.mx_journal.proofs.removal.cut_up_to.Goals as goal

no_runs : (runs : Vec (List Record) Global) (none : Bool) → none ≡ (vec_len runs == 0) → none ≡ true → length runs.items ≡ 0
no_runs runs none e t = let z : vec_len runs ≡ 0 = grind (arith, nat_tests, e, t) in omega (arith, runs.ok, z)

some_runs : (runs : Vec (List Record) Global) (none : Bool) → none ≡ (vec_len runs == 0) → none ≡ false → 1 ≤ length runs.items
some_runs runs none e f = let z : 1 ≤ vec_len runs = grind (arith, nat_tests, e, f) in omega (arith, runs.ok, z)

pub returns-then-is_empty-clause-records : goal.returns-then-is_empty-clause-records
returns-then-is_empty-clause-records c =
    let left = rest_of c.args.number c.place_of-ended.result c.args.runs.now.items c.deref.result.now c.drop_runs.new.runs.items c.requires c.drop_runs.ensures c.place_of-ended.ensures.value c.deref.ensures.value in
    none_left c.args.number c.drop_runs.new.runs.items (no_runs c.drop_runs.new.runs c.is_empty.result c.is_empty.ensures c.if-is_empty.true) ∙ left.records

pub count_up_to-count-requires : goal.count_up_to-count-requires
count_up_to-count-requires c =
    let rest = c.drop_runs.new.runs.items in
    let left = rest_of c.args.number c.place_of-ended.result c.args.runs.now.items c.deref.result.now rest c.requires c.drop_runs.ensures c.place_of-ended.ensures.value c.deref.ensures.value in
    let some = some_runs c.drop_runs.new.runs c.is_empty.result c.is_empty.ensures c.if-is_empty.false in
    subst (λ run. 1 ≤ first_number run) (sym (read_there rest 0 c.index_mut-run.result.now some c.index_mut-run.ensures.value)) (first_low 1 rest left.runs some)

left_at : (c : goal.After-runs-1) → IsRest c.args.number c.args.runs.now.items c.drop_runs.new.runs.items
left_at c = rest_of c.args.number c.place_of-ended.result c.args.runs.now.items c.deref.result.now c.drop_runs.new.runs.items c.requires c.drop_runs.ensures c.place_of-ended.ensures.value c.deref.ensures.value

some_at : (c : goal.After-runs-1) → 1 ≤ length c.drop_runs.new.runs.items
some_at c = some_runs c.drop_runs.new.runs c.is_empty.result c.is_empty.ensures c.if-is_empty.false

-- what the first run becomes
changed : (c : goal.After-runs-1) → c.skip.new.self ≡ skipped c.args.number (get_or c.drop_runs.new.runs.items 0 [])
changed c =
    c.skip.ensures ∙ ap (λ k. drop k c.index_mut-run.result.now) c.count_up_to-count.ensures ∙ ap (λ run. skipped c.args.number run) (read_there c.drop_runs.new.runs.items 0 c.index_mut-run.result.now (some_at c) c.index_mut-run.ensures.value)

pub returns-clause-records : goal.returns-clause-records
returns-clause-records c =
    let rest = c.drop_runs.new.runs.items in
    ap (λ run. flatten (slice_set rest 0 run)) (changed c) ∙ skipped_records c.args.number 1 rest (left_at c).runs (some_at c) ((left_at c).goes_on (some_at c)) ∙ (left_at c).records

pub returns-clause-runs : goal.returns-clause-runs
returns-clause-runs c =
    let rest = c.drop_runs.new.runs.items in
    subst (λ run. AreRuns 1 (slice_set rest 0 run)) (sym (changed c)) (skipped_runs c.args.number 1 rest (left_at c).runs (some_at c) ((left_at c).goes_on (some_at c)))
