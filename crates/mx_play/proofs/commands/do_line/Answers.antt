use Rattle.std.proofs.Common.{◌≡◌, ◌∙◌, ◌++◌, ◌∷◌, [], List, ap, arith, inl, inr, refl, rules, string_bytes, subst, sym}
use Rattle.std.specs.Str.{IsUtf8, trim}
use Rattle.std.proofs.lemmas.Grind.{common_steps}
use Rattle.mx_format.specs.LetterTexts.{letter_text}
use Rattle.mx_scripts.specs.Lines.{Repeats, StopsWithin}
use Rattle.mx_scripts.specs.States.{RunState}
use Rattle.mx_scripts.specs.Told.{IsTold}
use Rattle.mx_play.specs.Histories.{CanLead, Leads, first_state}
use Rattle.mx_play.specs.Sessions.{AddsOne, SessionState, line_events}
use Rattle.mx_play.specs.declared.session.DoneLine.{DoneLine}
use Rattle.mx_play.proofs.HistoryLemmas.{told_none}
use Rattle.mx_play.proofs.SessionLemmas.{is_as_before, line_done, same_holds}
use Rattle.mx_play.proofs.commands.do_line.Goals as goal

pub returns-in_ok-commit-in-Ok : goal.returns-in_ok-commit-in-Ok
returns-in_ok-commit-in-Ok g c =
    let s = c.args.setting.now in
    let core = g.C.Exclusion.core in
    let lt = letter_text g.C.Msg.Letter.parts in
    let line = c.args.line.now in
    let now = c.repeat.new.state in
    let start = c.new-printed.result in
    let printed = c.repeat.new.recorder in
    let r = c.in-Ok.ensures.ok in
    let repeats = subst (λ (x : SessionState g.row.C.Denot g.row.C-Msg.Denot). Repeats core line.order line.times x.state r.0 now) c.session.view_is r.1 in
    let told = subst (λ (x : SessionState g.row.C.Denot g.row.C-Msg.Denot). IsTold core (AddsOne core lt s.plan.now) r.0 x.state now start printed) c.session.view_is r.2 in
    let lines = ap (λ (x : SessionState g.row.C.Denot g.row.C-Msg.Denot). x.lines) c.session.view_is in
    let k = c.in_ok-commit-in-Ok.ensures in
    let listed = k.lines.3 ∙ ap (λ (l : List DoneLine). l ++ k.lines.0 ∷ []) lines in
    let typed = λ (utf8 : IsUtf8 c.args.typed.now). k.lines.1 ∙ ap trim (c.text_of.ensures utf8) in
    let done = line_done core s.plan.now s.shape.now lt line c.args.typed.now c.args.session.now c.commit.new.session now k.lines.0 r.0 start printed (string_bytes c.args.text.now) (string_bytes c.commit.new.text) c.requires.over
    repeats told c.new-printed.ensures.events c.new-printed.ensures.text c.requires.empty k.state typed k.lines.2 listed k.undone k.printed c.requires.is in
    record { done = done.0; is = done.1 }

pub run_again-requires : goal.run_again-requires
run_again-requires g c =
    let s = c.args.setting.now in
    let a = c.args.session.now in
    let is = c.as_slice.ensures.value ∙ ap (λ (x : SessionState g.row.C.Denot g.row.C-Msg.Denot). x.lines) c.session.view_is in
    (first_of (search rules, search (rules, c.requires-raw), grind (arith, common_steps)), subst (λ (l : List DoneLine). CanLead g.C.Exclusion.core (first_state g.C.Exclusion.core s.plan.now s.shape.now) (line_events l)) (sym is) (a.state, c.requires.is.leads))

pub returns-in_ok-run_again-in-Err : goal.returns-in_ok-run_again-in-Err
returns-in_ok-run_again-in-Err g c =
    let s = c.args.setting.now in
    let core = g.C.Exclusion.core in
    let a = c.args.session.now in
    let i = c.session.inside in
    let b : SessionState g.row.C.Denot g.row.C-Msg.Denot = record { state = c.run_again.new.state; lines = i.lines.items; undone = i.undone.items } in
    let lines = ap (λ (x : SessionState g.row.C.Denot g.row.C-Msg.Denot). x.lines) c.session.view_is in
    let undone = ap (λ (x : SessionState g.row.C.Denot g.row.C-Msg.Denot). x.undone) c.session.view_is in
    let leads = subst (λ (l : List DoneLine). Leads core (first_state core s.plan.now s.shape.now) (line_events l) b.state) (c.as_slice.ensures.value ∙ lines) c.in_ok-run_again-in-Err.ensures in
    let same = is_as_before core s.plan.now s.shape.now a b c.requires.is lines undone leads in
    let stops = subst (λ (x : SessionState g.row.C.Denot g.row.C-Msg.Denot). StopsWithin core c.args.line.now.order c.args.line.now.times x.state c.in-Err.failure) c.session.view_is c.in-Err.ensures.err in
    record {
      done = ((c.in-Err.failure, stops, c.in_default.not-Memory, refl), record { same = same; printed = c.requires.empty });
      is = same_holds core s.plan.now s.shape.now a b same c.requires.is;
    }

pub returns-then-is_empty : goal.returns-then-is_empty
returns-then-is_empty g c =
    let s = c.args.setting.now in
    let core = g.C.Exclusion.core in
    let lt = letter_text g.C.Msg.Letter.parts in
    let a = c.args.session.now in
    let i = c.session.inside in
    let b : SessionState g.row.C.Denot g.row.C-Msg.Denot = record { state = c.repeat.new.state; lines = i.lines.items; undone = i.undone.items } in
    let lines = ap (λ (x : SessionState g.row.C.Denot g.row.C-Msg.Denot). x.lines) c.session.view_is in
    let undone = ap (λ (x : SessionState g.row.C.Denot g.row.C-Msg.Denot). x.undone) c.session.view_is in
    let state = ap (λ (x : SessionState g.row.C.Denot g.row.C-Msg.Denot). x.state) c.session.view_is in
    let empty = c.is_empty.ensures c.if-is_empty.true in
    let same_state : b.state ≡ a.state = elim c.in-Err.ensures.part [
      | inl memory ↦ absurd (c.in_default.not-Memory memory)
      | inr told ↦ told_none core lt s.plan.now told.0 _ _ c.new-printed.result c.repeat.new.recorder told.1 c.new-printed.ensures.events empty ∙ state
    ] in
    let leads = subst (λ (x : RunState g.row.C.Denot g.row.C-Msg.Denot). Leads core (first_state core s.plan.now s.shape.now) (line_events a.lines) x) (sym same_state) c.requires.is.leads in
    let same = is_as_before core s.plan.now s.shape.now a b c.requires.is lines undone leads in
    let stops = subst (λ (x : SessionState g.row.C.Denot g.row.C-Msg.Denot). StopsWithin core c.args.line.now.order c.args.line.now.times x.state c.in-Err.failure) c.session.view_is c.in-Err.ensures.err in
    record {
      done = ((c.in-Err.failure, stops, c.in_default.not-Memory, refl), record { same = same; printed = c.requires.empty });
      is = same_holds core s.plan.now s.shape.now a b same c.requires.is;
    }

pub repeat-requires : goal.repeat-requires
repeat-requires g c = first_of (omega arith, search (rules, c.requires-raw), grind (arith, common_steps))

pub commit-requires : goal.commit-requires
commit-requires g c = search c.requires-raw
