use Rattle.std.proofs.Common.{rules, ◌-◌, ◌∙◌, ◌++◌, ◌∷◌, [], ℕ, List, ap, ap₂, arith, drop, length, refl, string_bytes, subst, sym, take}
use Rattle.std.proofs.lemmas.Grind.{common_steps}
use Rattle.std.specs.Prelude.{codes}
use Rattle.mx_play.specs.Histories.{CanLead, Leads, first_state}
use Rattle.mx_play.specs.Printed.{steps_text}
use Rattle.mx_play.specs.Sessions.{SessionState, line_events}
use Rattle.mx_play.specs.declared.session.DoneLine.{DoneLine}
use Rattle.mx_play.proofs.SessionLemmas.{can_return, was_undone}
use Rattle.mx_play.proofs.undo.undo.Goals as goal

pub run_again-requires : goal.run_again-requires
run_again-requires g c =
    let s = c.args.setting.now in
    let left = c.len-lines.result - c.args.count in
    let is = c.as_slice.ensures.value ∙ c.in_ok-undone.ensures.items ∙ ap (λ (x : SessionState g.row.C.Denot g.row.C-Msg.Denot). take left x.lines) c.session.view_is in
    (first_of (search rules, search (rules, c.requires-raw), grind (arith, common_steps)), subst (λ (l : List DoneLine). CanLead g.C.Exclusion.core (first_state g.C.Exclusion.core s.plan.now s.shape.now) (line_events l)) (sym is) (can_return g.C.Exclusion.core s.plan.now s.shape.now left c.args.session.now c.requires.is))

pub returns : goal.returns
returns g c =
    let s = c.args.setting.now in
    let core = g.C.Exclusion.core in
    let a = c.args.session.now in
    let left = c.len-lines.result - c.args.count in
    let u = c.in_ok-undone.undone in
    let b : SessionState g.row.C.Denot g.row.C-Msg.Denot = record { state = c.run_again.new.state; lines = c.split_off.new.self.items; undone = c.push.new.self.items } in
    let long = c.len-lines.ensures ∙ c.session.inside.lines.ok.0 ∙ ap (λ (x : SessionState g.row.C.Denot g.row.C-Msg.Denot). length x.lines) c.session.view_is in
    let listed = c.in_ok-undone.ensures.items ∙ ap (λ (x : SessionState g.row.C.Denot g.row.C-Msg.Denot). take left x.lines) c.session.view_is in
    let tail = c.in_ok-undone.ensures.tail ∙ ap (λ (x : SessionState g.row.C.Denot g.row.C-Msg.Denot). drop left x.lines) c.session.view_is in
    let undone = c.in_ok-push.ensures.items ∙ ap (λ (x : SessionState g.row.C.Denot g.row.C-Msg.Denot). x.undone ++ u ∷ []) c.session.view_is in
    let leads = subst (λ (l : List DoneLine). Leads core (first_state core s.plan.now s.shape.now) (line_events l) b.state) c.as_slice.ensures.value c.in_ok-run_again.ensures in
    let before = c.trace_length-events.ensures in
    let events = c.saturating_sub.ensures ∙ ap₂ (λ (m n : ℕ). m - n) before c.trace_length-events_left.ensures in
    let printed = c.in_ok-add_steps.ensures ∙ ap₂ (λ (l : List DoneLine) (n : ℕ). string_bytes c.args.text.now ++ steps_text (codes "undone") l n) c.as_slice-2.ensures.value events in
    let both = was_undone core s.plan.now s.shape.now c.args.count left c.len-lines.result a b u (string_bytes c.args.text.now) (string_bytes c.add_steps.new.text) c.requires.is long (omega arith) refl listed tail undone leads c.requires.empty printed in
    record { undone = both.0; is = both.1 }

pub trace_length-events-requires : goal.trace_length-events-requires
trace_length-events-requires g c = first_of (search rules, search c.requires-raw)

pub trace_length-events_left-requires : goal.trace_length-events_left-requires
trace_length-events_left-requires g c = first_of (search rules, search c.requires-raw)
