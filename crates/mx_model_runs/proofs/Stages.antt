-- The run with events of every kind, computed part by part: the cluster after each part, written out.
use Rattle.std.proofs.Common.{ℕ, ◌≡◌, Bool, true, false, List, [], ◌∷◌, ◌++◌, None, Ok, refl, subst, replicate}
use Rattle.mx_stamps.specs.declared.stamp.Stamp.{Stamp}
use Rattle.mx_letters.specs.declared.ricart.RicartMsg.{RicartMsg}
use Rattle.mx_letters.specs.declared.ricart.RicartMsg.TheVariants.{Request, Reply}
use Rattle.mx_nodelaws.specs.Core.{Core}
use Rattle.mx_nodelaws.specs.declared.phase.Phase.TheVariants.{Idle}
use Rattle.mx_journal.specs.Drafted.{fresh}
use Rattle.mx_journal.specs.Settled.{JournalState, unsettled}
use Rattle.mx_member.specs.declared.parcel.Parcel.{Parcel}
use Rattle.mx_member.specs.declared.parcel.Parcel.TheVariants.{Guard, Want, Base, Records}
use Rattle.mx_member.specs.Member.{MemberState}
use Rattle.mx_events.specs.declared.event.Event.{Event}
use Rattle.mx_network.specs.Step.{ClusterState, RunsTo}
use Rattle.mx_ricart.specs.Node.{Node}
use Rattle.mx_ricart.specs.Step.{ricart_core}
use Rattle.mx_model_runs.specs.Runs.{at_rest, events_of, stamp}
use Rattle.mx_model_runs.specs.Journals.{base, entry, first_part, fourth_part, journals_trace, ones_journal, second_part, third_part, zeros_journal}
use Rattle.mx_model_runs.proofs.Running.{after, run_of}

-- one run after another is a run
runs_on : {H S M : Type 0} (core : Core H S M) (es : List Event) (g mid : ClusterState S M) (others : List Event) (new : ClusterState S M) → RunsTo core g es mid → RunsTo core mid others new → RunsTo core g (es ++ others) new
runs_on {H} {S} {M} core [] g mid others new h k = subst (λ (x : ClusterState S M). RunsTo core x others new) h k
runs_on {H} {S} {M} core (e ∷ es) g mid others new h k = (h.0, h.1, runs_on core es h.0 mid others new h.2 k)

-- a node that is idle
abbrev idle : ℕ → ℕ → Stamp → List Bool → ℕ → ℕ → Node
idle me highest ours got top mine = record {
  me = me;
  count = 2;
  limit = 10;
  phase = Idle;
  highest = highest;
  ours = ours;
  got = got;
  deferred = replicate 21 None;
  top = top;
  mine = mine;
}

abbrev member : ℕ → Node → JournalState → MemberState Node
member me core journal = record {
  setting = record { me = me; nodes = 2; limit = 10; registers = 1 };
  core = core;
  journal = journal;
  draft = fresh;
}

abbrev nobody : List Bool
nobody = replicate 21 false

-- node 0 has the reply of node 1, and node 1 that of node 0
abbrev from_one : List Bool
from_one = false ∷ true ∷ replicate 19 false

abbrev from_zero : List Bool
from_zero = true ∷ replicate 20 false

abbrev Sent : Type 0
Sent = List (ℕ × ℕ × Parcel RicartMsg)

abbrev sent_first : Sent
sent_first =
    (1, 0, Guard (Request (stamp 1 1))) ∷ (0, 1, Guard (Request (stamp 1 0))) ∷ (0, 1, Guard (Request (stamp 1 0))) ∷ (1, 0, Guard (Reply (stamp 1 0) 0)) ∷ []

abbrev sent_second : Sent
sent_second = sent_first ++ (0, 1, Guard (Request (stamp 2 0))) ∷ (1, 0, Guard (Reply (stamp 2 0) 0)) ∷ []

abbrev sent_third : Sent
sent_third =
    sent_second ++ (1, 0, Guard (Request (stamp 3 1))) ∷ (0, 1, Guard (Reply (stamp 3 1) 2))
    ∷ (1, 0, Want (record { items = record { first = 1; last = 10 } ∷ [] })) ∷ (0, 1, Base (base 1 7 1)) ∷ (0, 1, Records (record { items = entry 2 0 9 ∷ [] })) ∷ []

abbrev sent_fourth : Sent
sent_fourth = sent_third ++ (0, 1, Guard (Request (stamp 4 0))) ∷ (1, 0, Guard (Reply (stamp 4 0) 3)) ∷ []

-- the cluster after each part
abbrev first_stage : ClusterState Node RicartMsg
first_stage = record {
  members = member 0 (idle 0 1 (stamp 1 0) from_one 1 1) (unsettled (entry 1 0 7 ∷ [])) ∷ member 1 (idle 1 1 (stamp 1 1) nobody 0 0) (unsettled []) ∷ [];
  sent = sent_first;
  trace = first_part;
}

abbrev second_stage : ClusterState Node RicartMsg
second_stage = record {
  members =
      member 0 (idle 0 2 (stamp 2 0) from_one 2 2) (record { base = base 1 7 1; records = entry 2 0 9 ∷ [] })
      ∷ member 1 (idle 1 2 (stamp 1 1) nobody 0 0) (unsettled []) ∷ [];
  sent = sent_second;
  trace = first_part ++ second_part;
}

abbrev third_stage : ClusterState Node RicartMsg
third_stage = record {
  members =
      member 0 (idle 0 3 (stamp 2 0) from_one 2 2) (record { base = base 2 9 2; records = [] })
      ∷ member 1 (idle 1 3 (stamp 3 1) from_zero 3 3) ones_journal ∷ [];
  sent = sent_third;
  trace = first_part ++ (second_part ++ third_part);
}

abbrev pub fourth_stage : ClusterState Node RicartMsg
fourth_stage = record {
  members = member 0 (idle 0 4 (stamp 4 0) from_one 4 4) zeros_journal ∷ member 1 (idle 1 4 (stamp 3 1) from_zero 3 3) ones_journal ∷ [];
  sent = sent_fourth;
  trace = journals_trace;
}

first_run : after ricart_core (Ok (at_rest ricart_core 2)) (events_of first_part) ≡ Ok first_stage
first_run = refl

second_run : after ricart_core (Ok first_stage) (events_of second_part) ≡ Ok second_stage
second_run = refl

third_run : after ricart_core (Ok second_stage) (events_of third_part) ≡ Ok third_stage
third_run = refl

fourth_run : after ricart_core (Ok third_stage) (events_of fourth_part) ≡ Ok fourth_stage
fourth_run = refl

pub whole_run : RunsTo ricart_core (at_rest ricart_core 2) (events_of journals_trace) fourth_stage
whole_run =
    runs_on ricart_core (events_of first_part) (at_rest ricart_core 2) first_stage (events_of (second_part ++ (third_part ++ fourth_part))) fourth_stage
    (run_of ricart_core (at_rest ricart_core 2) (events_of first_part) first_stage first_run)
    (runs_on ricart_core (events_of second_part) first_stage second_stage (events_of (third_part ++ fourth_part)) fourth_stage
    (run_of ricart_core first_stage (events_of second_part) second_stage second_run)
    (runs_on ricart_core (events_of third_part) second_stage third_stage (events_of fourth_part) fourth_stage
    (run_of ricart_core second_stage (events_of third_part) third_stage third_run)
    (run_of ricart_core third_stage (events_of fourth_part) fourth_stage fourth_run)))
