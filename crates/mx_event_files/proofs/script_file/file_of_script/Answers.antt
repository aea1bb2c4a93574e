use Rattle.std.proofs.Common.{◌∙◌, ◌++◌, ◌∷◌, [], List, ap, arith, length, refl, rules, string_bytes, subst}
use Rattle.std.proofs.lemmas.Iterator.Consumers.{YieldsList-end, YieldsList-so_far, YieldsList-turn}
use Rattle.std.proofs.lemmas.Iterator.Splits.{YieldsList-from_lines}
use Rattle.std.proofs.lemmas.List.{length-append}
use Rattle.mx_plan.specs.Text.{Text}
use Rattle.mx_trace.specs.declared.outcome.Entry.{Entry}
use Rattle.mx_format.specs.Files.{file_text, events_of}
use Rattle.mx_event_files.specs.Scripts.{DoesAll, number_after, of_line}
use Rattle.mx_event_files.proofs.ScriptLemmas.{does_more, file_from, next_number, stops_from, stops_here, stops_line}
use Rattle.mx_event_files.proofs.script_file.file_of_script.Goals as goal

pub loop-line-init : goal.loop-line-init
loop-line-init g c = record { does = ([], (refl, refl)); number = refl }

pub loop-line-preserved : goal.loop-line-preserved
loop-line-preserved g c =
    let l = c.loop-line in
    let more = length-append l.yielded (c.in-Some.line ∷ []) in
    let next = next_number l.number c.saturating_add-number.result (length l.yielded) l.invariant.number c.saturating_add-number.ensures in
    let so_far = l.invariant.does in
    let line = c.in_default.ensures.ok in
    record {
      does = (
        so_far.0 ++ of_line (number_after (length l.yielded)) line.0,
        does_more g.C.Exclusion.core c.args.plan.now l.yielded c.in-Some.line so_far.0 line.0 c.args.state.now l.state c.do_line.new.state so_far.1 line.1,
      );
      number = omega (arith, more, next);
    }

pub returns-clause-ok : goal.returns-clause-ok
returns-clause-ok g c =
    let l = c.loop-line in
    let ended = YieldsList-end (YieldsList-from_lines {s = c.into_iter-line-iterator.result} c.args.script.now cc) l.yielded _ l.yielded_by _ _ c.in-None.is c.next.ensures.steps in
    let happened = l.invariant.does.0 in
    let does = subst (λ (texts : List Text). DoesAll g.C.Exclusion.core c.args.plan.now 0 texts c.args.state.now happened l.state) ended.0 l.invariant.does.1 in
    file_from g.C.Exclusion.core c.args.plan.now c.args.script.now c.args.state.now.cluster happened c.args.state.now l.state (string_bytes c.in_ok-text.text) c.requires.fresh c.requires.empty does
    (c.in_ok-text.ensures ∙ ap (λ (t : List Entry). file_text c.args.plan.now (events_of t)) c.trace.ensures)

pub returns-in-Err-clause-err : goal.returns-in-Err-clause-err
returns-in-Err-clause-err g c =
    let l = c.loop-line in
    let road = YieldsList-from_lines {s = c.into_iter-line-iterator.result} c.args.script.now cc in
    let so_far = YieldsList-so_far road l.yielded _ l.yielded_by in
    let turn = YieldsList-turn road l.yielded _ l.yielded_by _ _ c.in-Some.line c.in-Some.is c.next.ensures.steps in
    let next = next_number l.number c.saturating_add-number.result (length l.yielded) l.invariant.number c.saturating_add-number.ensures in
    let stops = stops_here g.C.Exclusion.core c.args.plan.now _ l.yielded c.in-Some.line.now l.invariant.does.0 c.args.state.now l.state c.in-Err.failure l.invariant.does.1 so_far turn c.in-Err.ensures.err in
    stops_from g.C.Exclusion.core c.args.plan.now c.args.script.now c.args.state.now.cluster c.args.state.now c.refuse.result c.requires.fresh
    (stops_line g.C.Exclusion.core c.args.plan.now _ l.invariant.does.0 c.args.state.now l.state (length l.yielded) c.saturating_add-number.result c.in-Err.failure c.refuse.result next stops c.refuse.ensures)

pub do_line-requires : goal.do_line-requires
do_line-requires g c = search rules

pub refuse-requires : goal.refuse-requires
refuse-requires g c = first_of (omega arith, search c.requires-raw, search (rules, c.requires-raw))

pub trace-requires : goal.trace-requires
trace-requires g c = first_of (omega arith, search c.requires-raw, search (rules, c.requires-raw))
