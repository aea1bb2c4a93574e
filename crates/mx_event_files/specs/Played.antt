-- Events that happened in a cluster, one after another.
use Rattle.std.specs.Prelude.{ℕ, ◌≡◌, List, length, ◌≤◌, ◌<◌, ◌^◌, ⊤}
use Rattle.mx_stamps.specs.declared.limits.TheConstants.{MAX_EVENTS}
use Rattle.mx_stamps.specs.Lists.{IsIn}
use Rattle.mx_nodelaws.specs.Core.{Core}
use Rattle.mx_ricart.specs.Step.{ricart_core}
use Rattle.mx_maekawa.specs.Step.{maekawa_core}
use Rattle.mx_raymond.specs.Step.{raymond_core}
use Rattle.mx_network.specs.Step.{ClusterState, RunsTo}
use Rattle.mx_events.specs.declared.event.Event.{Event}
use Rattle.mx_events.specs.declared.event.Event.TheVariants.{Write, Settle, Deliver}
use Rattle.mx_plan.specs.Text.{Text}
use Rattle.mx_plan.specs.Fields.{Fields}
use Rattle.mx_plan.specs.declared.shape.Shape.{Shape}
use Rattle.mx_plan.specs.declared.shape.Shape.TheVariants.{Ricart, Maekawa, Raymond}
use Rattle.mx_events.specs.Arguments.{AreEventsWithin}
use Rattle.mx_driver.specs.Runs.{at_rest}
use Rattle.mx_format.specs.Files.{events_of, file_text}

-- the events of the cluster's trace lead from the start to the cluster, and name only nodes below
-- `nodes` and registers below `registers`
pub record IsPlayed {H S M : Type 0} (core : Core H S M) (nodes registers : ℕ)
    (start g : ClusterState S M) : Type 0 where
  pub runs : RunsTo core start (events_of g.trace) g
  pub over : AreEventsWithin nodes registers (events_of g.trace)

-- if the events of the old cluster's trace lead from a start to the old cluster, and name only
-- these nodes and registers, the same holds of the new cluster and its trace
abbrev pub StaysPlayed : {H S M : Type 0} → Core H S M → ℕ → ℕ → ClusterState S M → ClusterState S M
    → Type 0
StaysPlayed {H} {S} {M} core nodes registers old new =
    (start : ClusterState S M) → IsPlayed core nodes registers start old
    → IsPlayed core nodes registers start new

-- the text is the file of events that name only nodes and registers of the plan, and lead from the
-- start to some cluster: so each parcel that they deliver was sent
pub record IsFileOf {H S M : Type 0} (core : Core H S M) (p : Fields) (start : ClusterState S M)
    (text : Text) : Type 0 where
  pub events : List Event
  pub is : text ≡ file_text p events
  pub over : AreEventsWithin (length p.nodes) (length p.registers) events
  pub last : ClusterState S M
  pub runs : RunsTo core start events last

-- the text is the file of events that name only nodes and registers of a plan, and can happen from
-- the cluster of the plan, at rest
abbrev pub IsEventFile : Fields → Text → Shape → Type 0
IsEventFile p text (Ricart count) = IsFileOf ricart_core p (at_rest ricart_core p count) text
IsEventFile p text (Maekawa family) = IsFileOf maekawa_core p (at_rest maekawa_core p family) text
IsEventFile p text (Raymond tree) = IsFileOf raymond_core p (at_rest raymond_core p tree) text

-- ---- events that can be read back from their file

-- the number in the event, if it has one, fits in 64 bits
abbrev pub HasSmallNumber : Event → Type 0
HasSmallNumber (Write node register value) = value < 2 ^ 64
HasSmallNumber (Settle node upto) = upto < 2 ^ 64
HasSmallNumber (Deliver k) = k < 2 ^ 64
HasSmallNumber _ = ⊤

-- at most a million events, which name only nodes and registers of the plan; their numbers fit in
-- 64 bits
pub record AreReadable (p : Fields) (es : List Event) : Type 0 where
  pub over : AreEventsWithin (length p.nodes) (length p.registers) es
  pub numbered : (e : Event) → IsIn e es → HasSmallNumber e
  pub few : length es ≤ MAX_EVENTS
