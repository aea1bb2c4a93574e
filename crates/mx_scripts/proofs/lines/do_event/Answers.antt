use Rattle.std.proofs.Common.{◌∙◌, ap, length, refl}
use Rattle.mx_network.specs.Step.{ClusterState}
use Rattle.mx_scripts.specs.Told.{IsToldUnlessMemory}
use Rattle.mx_scripts.proofs.LineLemmas.{err_of}
use Rattle.mx_scripts.proofs.ToldLemmas.{untold}
use Rattle.mx_scripts.proofs.lines.do_event.Goals as goal

pub event-requires : goal.event-requires
event-requires g c =
    let before = c.sent-before.ensures ∙ ap (λ (k : ClusterState g.row.C.Denot g.row.C-Msg.Denot). length k.sent) c.cluster.ensures in
    record { brought = (c.args.state.now, c.in_ok-apply.ensures.ok, before) }

pub returns-clause-noted : goal.returns-clause-noted
returns-clause-noted g c =
    let before = c.sent-before.ensures ∙ ap (λ (k : ClusterState g.row.C.Denot g.row.C-Msg.Denot). length k.sent) c.cluster.ensures in
    c.in_ok-event.ensures.noted c.args.state.now c.in_ok-apply.ensures.ok before

pub returns-in_err-apply-clause-part : goal.returns-in_err-apply-clause-part
returns-in_err-apply-clause-part g c =
    let why = c.in_err-apply.field-0.0 in
    err_of (IsToldUnlessMemory g.C.Exclusion.core (λ k. g.K.Recorder.noted k c.args.plan.now) c.args.state.now c.apply.new.self c.args.recorder.now c.args.recorder.now) c.from_residual.result why c.from_residual.ensures.1
    (untold g.C.Exclusion.core (λ k. g.K.Recorder.noted k c.args.plan.now) c.args.event.now c.args.state.now c.apply.new.self c.args.recorder.now c.args.recorder.now why c.in_err-apply.ensures.err refl)
