use Rattle.std.specs.Prelude.{ℕ, ◌≡◌, ◌≤◌, ◌⊎◌, IfErr, OnErr, OnOk, List, [], ◌∷◌, ◌++◌, Option, Some, None, Result, Ok, Err, IsOk, slice_get, slice_set, length, nat_lt, if◌then◌else◌}
use Rattle.mx_stamps.specs.Lists.{IsIn}
use Rattle.mx_nodelaws.specs.World.{Done, answering, sent_by}
use Rattle.mx_nodelaws.specs.Core.{Core, IsInside}
use Rattle.mx_nodelaws.specs.declared.phase.Phase.TheVariants.{Inside}
use Rattle.mx_member.specs.declared.acts.Act.{Act}
use Rattle.mx_member.specs.declared.acts.Act.TheVariants as act
use Rattle.mx_member.specs.declared.parcel.Parcel.{Parcel}
use Rattle.mx_member.specs.Acts.{act_of}
use Rattle.mx_member.specs.Member.{MemberState}
use Rattle.mx_member.specs.Steps.{IsTakeable}
use Rattle.mx_events.specs.declared.event.Event.{Event}
use Rattle.mx_events.specs.declared.event.Event.TheVariants as event
use Rattle.mx_trace.specs.declared.outcome.Outcome.{Outcome}
use Rattle.mx_trace.specs.declared.outcome.Outcome.TheVariants.{Refused}
use Rattle.mx_trace.specs.declared.cause.Cause.{Cause}
use Rattle.mx_trace.specs.declared.cause.Cause.TheVariants as cause
use Rattle.mx_trace.specs.declared.outcome.Entry.{Entry}
use Rattle.mx_network.specs.declared.faults.StepFault.{StepFault}
use Rattle.mx_network.specs.declared.faults.StepFault.TheVariants.{NoNode, NoParcel, Memory}
use Rattle.mx_network.specs.Outcome.{outcome_of}

-- the members, the parcels ever sent, in order, and the trace
pub record ClusterState (S M : Type 0) : Type 0 where
  pub members : List (MemberState S)
  pub sent : List (ℕ × ℕ × Parcel M)
  pub trace : List Entry

-- the step of a member by an act, with the outcome instead of the result
abbrev pub answer_of : {H S M : Type 0} → Core H S M → Act M → MemberState S →
    Done (MemberState S) Outcome (Parcel M)
answer_of core a m = answering (act_of core a m)
    (outcome_of (act_of core a m).answer (length (act_of core a m).letters))

-- the addressee of the parcel, and the act of taking it; a fault if there is no such parcel
abbrev pub delivery_of : {M : Type 0} → Option (ℕ × ℕ × Parcel M) → Result (ℕ × Act M) StepFault
delivery_of None = Err NoParcel
delivery_of (Some p) = Ok (p.1, act.Deliver p.0 p.2)

-- the act of an event other than a delivery; for a delivery, a restart as a placeholder
abbrev pub own_act : {M : Type 0} → Event → Act M
own_act (event.Ask i) = act.Ask
own_act (event.Enter i) = act.Enter
own_act (event.Read i register) = act.Read register
own_act (event.Write i register value) = act.Write register value
own_act (event.Leave i) = act.Leave
own_act (event.Cancel i) = act.Cancel
own_act (event.Settle i k) = act.Settle k
own_act (event.Tick i) = act.Tick
own_act (event.Want i j) = act.Want j
own_act (event.Deliver k) = act.Restart
own_act (event.Restart i) = act.Restart

-- the event is not a delivery
abbrev pub IsByItself : Event → Type 0
IsByItself (event.Deliver k) = ⊥
IsByItself _ = Unit {0}

-- the node of an event other than a delivery, in a cluster with this number of nodes; a fault for a
-- delivery, and for a want to no node
abbrev pub own_node : ℕ → Event → Result ℕ StepFault
own_node nodes (event.Ask i) = Ok i
own_node nodes (event.Enter i) = Ok i
own_node nodes (event.Read i register) = Ok i
own_node nodes (event.Write i register value) = Ok i
own_node nodes (event.Leave i) = Ok i
own_node nodes (event.Cancel i) = Ok i
own_node nodes (event.Settle i k) = Ok i
own_node nodes (event.Tick i) = Ok i
own_node nodes (event.Want i j) = if nat_lt j nodes then Ok i else Err NoNode
own_node nodes (event.Deliver k) = Err NoParcel
own_node nodes (event.Restart i) = Ok i

-- the act, with the node that does it
abbrev pub acting : {M : Type 0} → Act M → Result ℕ StepFault → Result (ℕ × Act M) StepFault
acting a (Ok i) = Ok (i, a)
acting a (Err fault) = Err fault

-- the node of an event, and the act that this node does, in a cluster with this number of nodes and
-- these parcels sent; a fault if a want goes to no node, or a delivery has no parcel
abbrev pub part_of : {M : Type 0} → ℕ → List (ℕ × ℕ × Parcel M) → Event →
    Result (ℕ × Act M) StepFault
part_of nodes sent (event.Deliver k) = delivery_of (slice_get sent k)
part_of nodes sent event = acting (own_act event) (own_node nodes event)

-- the cluster after this step of node i: the parcels of the step join those sent, and the event
-- joins the trace with its outcome
abbrev pub grown : {S M : Type 0} → ClusterState S M → Event → ℕ →
    Done (MemberState S) Outcome (Parcel M) → ClusterState S M
grown g event i done = record {
  members = slice_set g.members i done.state;
  sent = g.sent ++ sent_by i done.letters;
  trace = g.trace ++ (record { event = event; outcome = done.answer }) ∷ [];
}

abbrev pub at_member : {H S M : Type 0} → Core H S M → ClusterState S M → Event → ℕ → Act M →
    Option (MemberState S) → Result (ClusterState S M) StepFault
at_member core g event i a None = Err NoNode
at_member core g event i a (Some m) = Ok (grown g event i (answer_of core a m))

abbrev pub at_part : {H S M : Type 0} → Core H S M → ClusterState S M → Event →
    Result (ℕ × Act M) StepFault → Result (ClusterState S M) StepFault
at_part core g event (Err fault) = Err fault
at_part core g event (Ok p) = at_member core g event p.0 p.1 (slice_get g.members p.0)

-- the member is as after the act, `out` has the parcels that the act sends, and the trace has one
-- more item: the event with its outcome
pub record NotesAct {H S M : Type 0} (core : Core H S M) (event : Event) (a : Act M)
    (old : MemberState S) (before : List Entry) (new : MemberState S) (out : List (ℕ
    × Parcel M)) (trace : List Entry) : Type 0 where
  pub state : new ≡ (answer_of core a old).state
  pub letters : out ≡ (answer_of core a old).letters
  pub noted : trace ≡ before
      ++ (record { event = event; outcome = (answer_of core a old).answer }) ∷ []

-- the cluster after an event; a fault if the event names a node or parcel that does not exist
abbrev pub step_of : {H S M : Type 0} → Core H S M → ClusterState S M → Event →
    Result (ClusterState S M) StepFault
step_of core g event = at_part core g event (part_of (length g.members) g.sent event)

-- the fault is that of the wanted result, or Memory if the wanted result is no fault
abbrev pub IsFaultOf : {G : Type 0} → Result G StepFault → StepFault → Type 0
IsFaultOf wanted fault = ((fault ≡ Memory) × IsOk wanted) ⊎ (wanted ≡ Err fault)

-- if the call succeeds, the cluster is that after the event; if it fails, the fault is that of the
-- step or Memory, and the cluster is unchanged
pub record IsStep {H S M : Type 0} (core : Core H S M) (event : Event) (old new : ClusterState S M)
    (r : Result (Unit {0}) StepFault) : Type 0 where
  pub ok : OnOk r (step_of core old event ≡ Ok new)
  pub fault : IfErr r (IsFaultOf (step_of core old event))
  pub err : OnErr r (new ≡ old)

-- the event names a node that the cluster does not have
abbrev pub NamesNoNode : {S M : Type 0} → ClusterState S M → Event → Type 0
NamesNoNode g (event.Ask i) = length g.members ≤ i
NamesNoNode g (event.Enter i) = length g.members ≤ i
NamesNoNode g (event.Read i register) = length g.members ≤ i
NamesNoNode g (event.Write i register value) = length g.members ≤ i
NamesNoNode g (event.Leave i) = length g.members ≤ i
NamesNoNode g (event.Cancel i) = length g.members ≤ i
NamesNoNode g (event.Settle i k) = length g.members ≤ i
NamesNoNode g (event.Tick i) = length g.members ≤ i
NamesNoNode g (event.Want i j) = (length g.members ≤ i) ⊎ (length g.members ≤ j)
NamesNoNode g (event.Deliver k) = ⊥
NamesNoNode g (event.Restart i) = length g.members ≤ i

-- the event delivers a parcel that was not sent
abbrev pub NamesNoParcel : {S M : Type 0} → ClusterState S M → Event → Type 0
NamesNoParcel g (event.Deliver k) = length g.sent ≤ k
NamesNoParcel g _ = ⊥

abbrev pub IsInsideAt : {H S M : Type 0} → Core H S M → ClusterState S M → ℕ → Type 0
IsInsideAt {H} {S} core g i =
    (m : MemberState S) × (slice_get g.members i ≡ Some m) × IsInside core m.core

-- node i of the cluster is inside section n
abbrev pub IsInsideWith : {H S M : Type 0} → Core H S M → ClusterState S M → ℕ → ℕ → Type 0
IsInsideWith {H} {S} core g i n =
    (m : MemberState S) × (slice_get g.members i ≡ Some m) × (core.phase m.core ≡ Inside n)

-- the members, and the parcels that were sent, are as before
pub record IsUnchanged {S M : Type 0} (old new : ClusterState S M) : Type 0 where
  pub members : new.members ≡ old.members
  pub sent : new.sent ≡ old.sent

-- the event is a read, and the cause is that the section that reads is settled
abbrev pub IsSettledRead : Event → Cause → Type 0
IsSettledRead (event.Read i register) (cause.Below n) = Unit {0}
IsSettledRead _ _ = ⊥

-- no read of the trace was refused because its own section is settled
abbrev pub AreUnsettled : List Entry → Type 0
AreUnsettled trace =
    (entry : Entry) (cause : Cause) → IsIn entry trace → entry.outcome ≡ Refused cause →
    IsSettledRead entry.event cause → ⊥

-- each parcel that was sent can be taken by the member to which it was sent
abbrev pub AreTakeable : {S M : Type 0} → ClusterState S M → Type 0
AreTakeable {S} {M} g =
    (from to : ℕ) (parcel : Parcel M) (m : MemberState S) → IsIn (from, to, parcel) g.sent →
    slice_get g.members to ≡ Some m → IsTakeable from parcel m

-- these events, one after another, lead from one cluster to another
abbrev pub RunsTo : {H S M : Type 0} → Core H S M → ClusterState S M → List Event →
    ClusterState S M → Type 0
RunsTo core g [] new = new ≡ g
RunsTo {H} {S} {M} core g (e ∷ es) new =
    (mid : ClusterState S M) × (step_of core g e ≡ Ok mid) × RunsTo core mid es new
