use Rattle.std.proofs.Common.{◌∙◌, ap, arith, string_bytes, sym}
use Rattle.mx_network.specs.Step.{ClusterState}
use Rattle.mx_event_files.proofs.PlayedLemmas.{file_if_played, file_of_trace}
use Rattle.mx_draw.proofs.draw_command.file_after.Goals as goal

pub file_of-requires : goal.file_of-requires
file_of-requires g c = omega arith

pub run-requires : goal.run-requires
run-requires g c = omega arith

pub trace-requires : goal.trace-requires
trace-requires g c = omega arith

pub returns-clause-file : goal.returns-clause-file
returns-clause-file g c =
    file_if_played g.C.Exclusion.core string_bytes c.args.plan.now c.args.cluster c.run.new.cluster c.trace.result.now c.file_of.result c.requires
    c.in_ok-run.ensures.plays c.trace.ensures.value c.file_of.ensures

pub returns-clause-drawn : goal.returns-clause-drawn
returns-clause-drawn g c =
    file_of_trace string_bytes c.args.plan.now c.trace.result.now _ c.file_of.result
    (c.trace.ensures.value ∙ sym (ap (λ (x : ClusterState g.row.C.Denot g.row.C-Msg.Denot). x.trace) c.in_ok-run.ensures.ran)) c.file_of.ensures
