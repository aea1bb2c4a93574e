use Rattle.std.proofs.Common.{◌∙◌, List, ap, rules, subst, sym}
use Rattle.mx_scripts.specs.States.{RunState}
use Rattle.mx_scripts.specs.declared.state.SessionEvent.{SessionEvent}
use Rattle.mx_play.specs.Histories.{CanLead, Leads}
use Rattle.mx_play.specs.Sessions.{line_events}
use Rattle.mx_play.specs.declared.session.DoneLine.{DoneLine}
use Rattle.mx_play.proofs.HistoryLemmas.{can_do_line, leads_on, lines_end}
use Rattle.mx_play.proofs.undo.apply_lines.Goals as goal

pub apply_all-requires : goal.apply_all-requires
apply_all-requires g c =
    let l = c.loop-line in
    let is = c.as_slice.ensures.value ∙ ap (λ (x : DoneLine). x.events.items) c.line-item.is in (
      first_of (search rules, search (rules, c.requires-raw)),
      subst (λ (es : List SessionEvent). CanLead g.C.Exclusion.core l.state es) (sym is)
          (can_do_line g.C.Exclusion.core c.args.lines.now l.line-index c.line-item.result l.state c.requires.0 c.loop-line-test.true (l.invariant c.requires.0 c.requires.1)),
    )

pub loop-line-preserved : goal.loop-line-preserved
loop-line-preserved g c =
    let l = c.loop-line in
    let is = c.as_slice.ensures.value ∙ ap (λ (x : DoneLine). x.events.items) c.line-item.is in
    λ last leads. leads_on g.C.Exclusion.core c.args.lines.now l.line-index c.line-item.result l.state last c.loop-line-test.true (l.invariant last leads) c.apply_all.new.state
    (subst (λ (es : List SessionEvent). Leads g.C.Exclusion.core l.state es c.apply_all.new.state) is c.in_ok-apply_all.ensures)

pub returns : goal.returns
returns g c =
    let l = c.loop-line in
    subst (λ (m : RunState g.row.C.Denot g.row.C-Msg.Denot). Leads g.C.Exclusion.core c.args.state.now (line_events c.args.lines.now) m)
    (lines_end g.C.Exclusion.core c.args.lines.now l.line-index l.state c.requires.0 c.loop-line-test.false (l.invariant c.requires.0 c.requires.1)) c.requires.1
