-- The three runs, as the step tables compute them.
use Rattle.std.proofs.Common.{◌≡◌, List, Ok, refl, arith}
use Rattle.mx_nodelaws.specs.Core.{Core}
use Rattle.mx_quorums.specs.Family.{IsMeeting}
use Rattle.mx_trees.specs.Tree.{IsRooted}
use Rattle.mx_trace.specs.declared.outcome.Entry.{Entry}
use Rattle.mx_network.specs.Step.{ClusterState}
use Rattle.mx_ricart.specs.Step.{IsCount, ricart_core}
use Rattle.mx_maekawa.specs.Step.{maekawa_core}
use Rattle.mx_raymond.specs.Step.{raymond_core}
use Rattle.mx_model_runs.specs.Runs.{Happens, at_rest, events_of, maekawa_trace, raymond_trace, ricart_trace, two_nodes, two_sets}
use Rattle.mx_model_runs.proofs.Running.{after, found, run_of}
use Rattle.mx_model_runs.proofs.Shapes.{nodes_rooted, sets_meet}

-- the cluster that the events of a trace lead to
abbrev end_of : {H S M : Type 0} → Core H S M → H → List Entry → ClusterState S M
end_of core shape trace = found core (at_rest core shape) (after core (Ok (at_rest core shape)) (events_of trace))

computed : {H S M : Type 0} (core : Core H S M) (IsShape : H → Type 0) (shape : H) (trace : List Entry) → IsShape shape → after core (Ok (at_rest core shape)) (events_of trace) ≡ Ok (end_of core shape trace) → (end_of core shape trace).trace ≡ trace → Happens core IsShape shape trace
computed core IsShape shape trace valid leads told = record {
  valid = valid;
  after = end_of core shape trace;
  run = run_of core (at_rest core shape) (events_of trace) (end_of core shape trace) leads;
  told = told;
}

pub ricart_happens : Happens ricart_core IsCount 2 ricart_trace
ricart_happens = computed ricart_core IsCount 2 ricart_trace (omega arith, omega arith) refl refl

pub maekawa_happens : Happens maekawa_core IsMeeting two_sets maekawa_trace
maekawa_happens = computed maekawa_core IsMeeting two_sets maekawa_trace sets_meet refl refl

pub raymond_happens : Happens raymond_core IsRooted two_nodes raymond_trace
raymond_happens = computed raymond_core IsRooted two_nodes raymond_trace nodes_rooted refl refl
