use Rattle.std.proofs.Common.{◌≡◌, ◌∙◌, ◌++◌, ◌∷◌, [], ℕ, List, Option, ap, arith, length, refl, rules, subst, sym}
use Rattle.std.proofs.lemmas.Iterator.Consumers.{YieldsList-end, YieldsList-so_far, YieldsList-turn}
use Rattle.std.proofs.lemmas.Iterator.Splits.{YieldsList-from_lines}
use Rattle.std.proofs.lemmas.List.{length-append}
use Rattle.std.specs.Str.Lines.{lines}
use Rattle.mx_plan.specs.Text.{Text}
use Rattle.mx_lines.specs.Names.{texts_of}
use Rattle.mx_shown_scripts.specs.Happenings.{Reaches}
use Rattle.mx_event_files.specs.Scripts.{DoesAll, number_after, of_line}
use Rattle.mx_scripts.specs.Failures.{IsRefused}
use Rattle.mx_event_files.specs.declared.happening.Happening.{Happening}
use Rattle.mx_scripts.specs.declared.line_failure.RefusedLine.{RefusedLine}
use Rattle.mx_shown_scripts.proofs.HappeningLemmas.{line_done, line_refused}
use Rattle.mx_event_files.proofs.ScriptLemmas.{does_more, next_number, stops_here}
use Rattle.mx_shown_scripts.proofs.happenings.do_lines.Goals as goal

pub loop-line-init : goal.loop-line-init
loop-line-init g c = record { does = (refl, c.requires); number = refl }

pub do_listed-requires : goal.do_listed-requires
do_listed-requires g c = search rules

pub loop-line-preserved : goal.loop-line-preserved
loop-line-preserved g c =
    let l = c.loop-line in
    let core = g.C.Exclusion.core in
    let p = c.args.plan.now in
    let before : List Happening = l.happened.items in
    let after : List Happening = c.do_listed.new.happened.items in
    let more = length-append l.yielded (c.in-Some.line ∷ []) in
    let next = next_number l.number c.saturating_add-number.result (length l.yielded) l.invariant.number c.saturating_add-number.ensures in
    let line = line_done core p c.saturating_add-number.result c.in-Some.line.now l.state c.do_listed.new.state before after c.in_ok-refused.refused
    (sym c.is_some.ensures ∙ c.if-is_some.false) c.in_ok-refused.ensures in
    let is : after ≡ before ++ of_line (number_after (length l.yielded)) line.0 = line.2 ∙ ap (λ (n : ℕ). before ++ of_line n line.0) next in
    record {
      does = subst (λ (h : List Happening). DoesAll core p 0 (texts_of (l.yielded ++ c.in-Some.line ∷ [])) c.args.state.now h c.do_listed.new.state) (sym is)
          (does_more core p l.yielded c.in-Some.line before line.0 c.args.state.now l.state c.do_listed.new.state l.invariant.does line.1);
      number = omega (arith, more, next);
    }

pub returns : goal.returns
returns g c =
    let l = c.loop-line in
    let ended = YieldsList-end (YieldsList-from_lines {s = c.into_iter-line-iterator.result} c.args.script.now cc) l.yielded _ l.yielded_by _ _ c.in-None.is c.next.ensures.steps in
    (l.state, subst (λ (texts : List Text). DoesAll g.C.Exclusion.core c.args.plan.now 0 texts c.args.state.now l.happened.items l.state) ended.0 l.invariant.does)

pub returns-then-is_some : goal.returns-then-is_some
returns-then-is_some g c =
    let l = c.loop-line in
    let core = g.C.Exclusion.core in
    let p = c.args.plan.now in
    let road = YieldsList-from_lines {s = c.into_iter-line-iterator.result} c.args.script.now cc in
    let so_far = YieldsList-so_far road l.yielded _ l.yielded_by in
    let turn = YieldsList-turn road l.yielded _ l.yielded_by _ _ c.in-Some.line c.in-Some.is c.next.ensures.steps in
    let next = next_number l.number c.saturating_add-number.result (length l.yielded) l.invariant.number c.saturating_add-number.ensures in
    let line = line_refused core p c.saturating_add-number.result c.in-Some.line.now l.state c.do_listed.new.state l.happened.items c.do_listed.new.happened.items c.in_ok-refused.refused
    (sym c.is_some.ensures ∙ c.if-is_some.true) c.in_ok-refused.ensures in
    let does = subst (λ (h : List Happening). DoesAll core p 0 (texts_of l.yielded) c.args.state.now h l.state) (sym line.5) l.invariant.does in
    let stops = stops_here core p _ l.yielded c.in-Some.line.now c.do_listed.new.happened.items c.args.state.now l.state line.1 does so_far turn line.3 in (
      l.state,
      subst (λ (o : Option RefusedLine). Reaches core p (lines c.args.script.now) c.args.state.now c.do_listed.new.happened.items o l.state) (sym line.2)
          (length l.yielded, line.1, stops, subst (λ (n : ℕ). IsRefused n line.1 line.0) next line.4),
    )
