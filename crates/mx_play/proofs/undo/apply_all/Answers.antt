use Rattle.std.proofs.Common.{rules, subst, sym}
use Rattle.mx_scripts.specs.States.{Brings, IsAllowed, RunState}
use Rattle.mx_scripts.specs.declared.state.SessionEvent.{SessionEvent}
use Rattle.mx_play.specs.Histories.{Leads}
use Rattle.mx_play.proofs.HistoryLemmas.{allowed_at, leads_at, leads_end}
use Rattle.mx_play.proofs.undo.apply_all.Goals as goal

pub apply-requires : goal.apply-requires
apply-requires g c =
    let l = c.loop-event in (
      first_of (search rules, search (rules, c.requires-raw)),
      subst (λ (e : SessionEvent). IsAllowed l.state e) (sym c.event-item.is)
          (allowed_at g.C.Exclusion.core c.args.events.now l.event-index c.event-item.result l.state c.requires.0 c.loop-event-test.true (l.invariant c.requires.0 c.requires.1)),
    )

pub loop-event-preserved : goal.loop-event-preserved
loop-event-preserved g c =
    let l = c.loop-event in
    λ last leads. leads_at g.C.Exclusion.core c.args.events.now l.event-index c.event-item.result l.state last c.loop-event-test.true (l.invariant last leads) c.apply.new.self
    (subst (λ (e : SessionEvent). Brings g.C.Exclusion.core l.state e c.apply.new.self) c.event-item.is c.in-Ok.ensures.ok)

pub returns : goal.returns
returns g c =
    let l = c.loop-event in
    subst (λ (m : RunState g.row.C.Denot g.row.C-Msg.Denot). Leads g.C.Exclusion.core c.args.state.now c.args.events.now m)
    (leads_end g.C.Exclusion.core c.args.events.now l.event-index l.state c.requires.0 c.loop-event-test.false (l.invariant c.requires.0 c.requires.1)) c.requires.1
