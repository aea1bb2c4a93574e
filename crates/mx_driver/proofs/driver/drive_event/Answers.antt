use Rattle.std.proofs.Common.{◌∙◌, ◌≤◌, ◌++◌, ap, length, subst, sym, ℕ}
use Rattle.mx_plan.specs.Text.{Text}
use Rattle.mx_trace.specs.declared.outcome.Entry.{Entry}
use Rattle.mx_network.proofs.Happening.{noted}
use Rattle.mx_driver.proofs.RunLemmas.{grows, has_newest}
use Rattle.mx_driver.proofs.driver.drive_event.Goals as goal

pub event-requires : goal.event-requires
event-requires g c =
    let core = g.C.Exclusion.core in
    let old = c.args.cluster.now in
    let new = c.apply.new.cluster in
    let event = c.args.event.now in
    let n = noted core old event new c.in_ok-apply.ensures.ok in
    let h = (grows core old new event c.in_ok-apply.ensures.ok).1 in
    let le : c.sent-before.result ≤ length new.sent = subst (λ (n : ℕ). n ≤ length new.sent) (sym c.sent-before.ensures) h in
    record { noted = has_newest new.trace old.trace (record { event = event; outcome = n.0 }) n.1; sent = le }

pub returns-clause-text : goal.returns-clause-text
returns-clause-text g c =
    let old = c.args.cluster.now in
    let new = c.apply.new.cluster in
    let event = c.args.event.now in
    let n = noted g.C.Exclusion.core old event new c.in_ok-apply.ensures.ok in
    let entry : Entry = record { event = event; outcome = n.0 } in
    let texts = g.K.Sink.texts c.args.sink.now c.args.plan.now in
    c.in_ok-event.ensures.text old entry n.1 c.sent-before.ensures
    ∙ ap (λ (t : Text). t ++ texts.event c.args.index old new) c.requires.empty

pub returns-clause-heard : goal.returns-clause-heard
returns-clause-heard g c =
    let old = c.args.cluster.now in
    let event = c.args.event.now in
    let n = noted g.C.Exclusion.core old event c.apply.new.cluster c.in_ok-apply.ensures.ok in
    c.in_ok-event.ensures.heard old (record { event = event; outcome = n.0 }) n.1 c.sent-before.ensures
