use Rattle.std.proofs.Common.{arith, rules, ◌-◌, ◌∙◌, ◌++◌, ℕ, List, ap, ap₂, refl, string_bytes, subst, sym}
use Rattle.std.proofs.lemmas.Grind.{common_steps}
use Rattle.std.specs.Prelude.{codes}
use Rattle.mx_play.specs.Histories.{CanLead, Leads}
use Rattle.mx_play.specs.Printed.{steps_text}
use Rattle.mx_play.specs.Sessions.{SessionState, line_events}
use Rattle.mx_play.specs.declared.session.DoneLine.{DoneLine}
use Rattle.mx_play.proofs.SessionLemmas.{can_redo, was_redone}
use Rattle.mx_play.proofs.undo.redo.Goals as goal

pub apply_lines-requires : goal.apply_lines-requires
apply_lines-requires g c =
    let s = c.args.setting.now in
    let u = c.in-Some.lines in
    let popped = sym (ap (λ (x : SessionState g.row.C.Denot g.row.C-Msg.Denot). x.undone) c.session.view_is) ∙ c.in-Some.ensures.some in
    let can = can_redo g.C.Exclusion.core s.plan.now s.shape.now c.args.session.now c.pop_undone.new.undone.items u c.requires.is popped in
    let here = subst (λ (x : SessionState g.row.C.Denot g.row.C-Msg.Denot). CanLead g.C.Exclusion.core x.state (line_events u.items)) (sym c.session.view_is) can in
    (grind (arith, common_steps) steps 40000000, subst (λ (l : List DoneLine). CanLead g.C.Exclusion.core c.session.inside.state (line_events l)) (sym c.as_slice.ensures.value) here)

pub returns : goal.returns
returns g c =
    let s = c.args.setting.now in
    let core = g.C.Exclusion.core in
    let a = c.args.session.now in
    let u = c.in-Some.lines in
    let us = c.pop_undone.new.undone.items in
    let b : SessionState g.row.C.Denot g.row.C-Msg.Denot = record { state = c.apply_lines.new.state; lines = c.append.new.self.items; undone = us } in
    let popped = sym (ap (λ (x : SessionState g.row.C.Denot g.row.C-Msg.Denot). x.undone) c.session.view_is) ∙ c.in-Some.ensures.some in
    let listed = c.in_ok-append.ensures.items ∙ ap (λ (x : SessionState g.row.C.Denot g.row.C-Msg.Denot). x.lines ++ u.items) c.session.view_is in
    let from_here = subst (λ (l : List DoneLine). Leads core c.session.inside.state (line_events l) b.state) c.as_slice.ensures.value c.in_ok-apply_lines.ensures in
    let leads = subst (λ (x : SessionState g.row.C.Denot g.row.C-Msg.Denot). Leads core x.state (line_events u.items) b.state) c.session.view_is from_here in
    let before = c.trace_length-events_before.ensures in
    let events = c.saturating_sub.ensures ∙ ap₂ (λ (m n : ℕ). m - n) c.trace_length-events.ensures before in
    let printed = c.in_ok-add_steps.ensures ∙ ap₂ (λ (l : List DoneLine) (n : ℕ). string_bytes c.args.text.now ++ steps_text (codes "redone") l n) c.as_slice-2.ensures.value events in
    let both = was_redone core s.plan.now s.shape.now a us u c.requires.is popped b (string_bytes c.args.text.now) (string_bytes c.add_steps.new.text) refl listed leads c.requires.empty printed in
    record { redone = both.0; is = both.1 }

pub trace_length-events_before-requires : goal.trace_length-events_before-requires
trace_length-events_before-requires g c = first_of (search rules, search c.requires-raw)

pub trace_length-events-requires : goal.trace_length-events-requires
trace_length-events-requires g c = first_of (search rules, search c.requires-raw)
