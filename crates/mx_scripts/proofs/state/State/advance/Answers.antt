use Rattle.std.proofs.Common.{rules, subst, sym}
use Rattle.std.specs.Prelude.{IsTrue}
use Rattle.mx_scripts.specs.Fates.{can_pass}
use Rattle.mx_scripts.specs.States.{Brings, RunState}
use Rattle.mx_scripts.specs.declared.state.SessionEvent.TheVariants.{Happens}
use Rattle.mx_scripts.proofs.LineLemmas.{not_applied}
use Rattle.mx_scripts.proofs.ListedLemmas.{brings_noted, listed_on}
use Rattle.mx_scripts.proofs.state.State.advance.Goals as goal

pub returns-clause-ok : goal.returns-clause-ok
returns-clause-ok g c =
    let core = g.C.Exclusion.core in
    let mid = c.advance.new.self in
    let now = c.note.new.self in
    let event = c.args.event.now in
    let passes = subst (λ (s : RunState g.row.C.Denot g.row.C-Msg.Denot). IsTrue (can_pass s.fates s.cluster.sent event)) (sym c.self.view_is) c.requires in
    subst (λ (s : RunState g.row.C.Denot g.row.C-Msg.Denot). Brings core s (Happens event) now) c.self.view_is
    (brings_noted core (record { cluster = c.self.inside.cluster; fates = c.self.inside.in_flight }) now mid event c.in_ok-advance.ensures.ok c.in_ok-note.ensures.same c.in_ok-note.ensures.noted passes)

pub invariant_of-self-2 : goal.invariant_of-self-2
invariant_of-self-2 g c =
    let i = c.self.inside in
    listed_on g.C.Exclusion.core i.cluster c.advance.new.self c.args.event.now i.in_flight.gone i.under_way c.in_ok-advance.ensures.ok c.self.invariant

pub returns-in_err-advance-clause-err : goal.returns-in_err-advance-clause-err
returns-in_err-advance-clause-err g c =
    let failed = c.in_err-advance in
    rw (← c.self.view_is)
    (not_applied g.C.Exclusion.core c.self.inside.in_flight c.from_residual.result c.self.inside.cluster c.advance.new.self c.args.event.now failed.field-0.0 c.from_residual.ensures.1
    failed.ensures.fault failed.ensures.err)

pub advance-requires : goal.advance-requires
advance-requires g c = search rules

pub note-requires : goal.note-requires
note-requires g c = search rules
