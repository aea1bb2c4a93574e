-- The arguments that an event requires after its word, and those that it has.
use Rattle.std.specs.Prelude.{ℕ, ◌<◌, ◌&&◌, ⊤, Bool, true, false, List, [], ◌∷◌, Option, Some, None, option_map}
use Rattle.std.specs.Option.{option_and_then}
use Rattle.mx_stamps.specs.Lists.{IsIn}
use Rattle.mx_events.specs.declared.argument.Argument.{Argument}
use Rattle.mx_events.specs.declared.argument.Argument.TheVariants as argument
use Rattle.mx_events.specs.declared.argument.ArgumentKind.{ArgumentKind}
use Rattle.mx_events.specs.declared.argument.ArgumentKind.TheVariants.{Node, Register, Value, Section, Parcel}
use Rattle.mx_events.specs.declared.event.Event.{Event}
use Rattle.mx_events.specs.declared.event.Event.TheVariants as event
use Rattle.mx_events.specs.declared.kind.EventKind.{EventKind}
use Rattle.mx_events.specs.declared.kind.EventKind.TheVariants.{Ask, Enter, Read, Write, Leave, Cancel, Settle, Tick, Want, Deliver, Restart}

-- the kinds of the arguments, in order
abbrev pub arguments_of : EventKind → List ArgumentKind
arguments_of Ask = Node ∷ []
arguments_of Enter = Node ∷ []
arguments_of Read = Node ∷ Register ∷ []
arguments_of Write = Node ∷ Register ∷ Value ∷ []
arguments_of Leave = Node ∷ []
arguments_of Cancel = Node ∷ []
arguments_of Settle = Node ∷ Section ∷ []
arguments_of Tick = Node ∷ []
arguments_of Want = Node ∷ Node ∷ []
arguments_of Deliver = Parcel ∷ []
arguments_of Restart = Node ∷ []

-- the arguments of an event
abbrev pub given : Event → List Argument
given (event.Ask node) = argument.Node node ∷ []
given (event.Enter node) = argument.Node node ∷ []
given (event.Read node register) = argument.Node node ∷ argument.Register register ∷ []
given (event.Write node register value) =
    argument.Node node ∷ argument.Register register ∷ argument.Number value ∷ []
given (event.Leave node) = argument.Node node ∷ []
given (event.Cancel node) = argument.Node node ∷ []
given (event.Settle node upto) = argument.Node node ∷ argument.Number upto ∷ []
given (event.Tick node) = argument.Node node ∷ []
given (event.Want node other) = argument.Node node ∷ argument.Node other ∷ []
given (event.Deliver number) = argument.Number number ∷ []
given (event.Restart node) = argument.Node node ∷ []

abbrev pub is_of : ArgumentKind → Argument → Bool
is_of Node (argument.Node node) = true
is_of Register (argument.Register register) = true
is_of Value (argument.Number number) = true
is_of Section (argument.Number number) = true
is_of Parcel (argument.Number number) = true
is_of _ _ = false

-- whether there are equally many arguments and kinds, and each argument is of its kind
abbrev pub are_of : List ArgumentKind → List Argument → Bool
are_of [] [] = true
are_of (kind ∷ kinds) (argument ∷ arguments) = is_of kind argument && are_of kinds arguments
are_of _ _ = false

-- the node, the register or the number in an argument
abbrev pub node_in : Argument → Option ℕ
node_in (argument.Node node) = Some node
node_in _ = None

abbrev pub register_in : Argument → Option ℕ
register_in (argument.Register register) = Some register
register_in _ = None

abbrev pub number_in : Argument → Option ℕ
number_in (argument.Number number) = Some number
number_in _ = None

-- the event of a kind with these arguments, if their number and their kinds are right
abbrev pub event_of : EventKind → List Argument → Option Event
event_of Ask (a ∷ []) = option_map event.Ask (node_in a)
event_of Enter (a ∷ []) = option_map event.Enter (node_in a)
event_of Leave (a ∷ []) = option_map event.Leave (node_in a)
event_of Cancel (a ∷ []) = option_map event.Cancel (node_in a)
event_of Tick (a ∷ []) = option_map event.Tick (node_in a)
event_of Restart (a ∷ []) = option_map event.Restart (node_in a)
event_of Deliver (a ∷ []) = option_map event.Deliver (number_in a)
event_of Read (a ∷ b ∷ []) =
    option_and_then (λ node. option_map (event.Read node) (register_in b)) (node_in a)
event_of Settle (a ∷ b ∷ []) =
    option_and_then (λ node. option_map (event.Settle node) (number_in b)) (node_in a)
event_of Want (a ∷ b ∷ []) =
    option_and_then (λ node. option_map (event.Want node) (node_in b)) (node_in a)
event_of Write (a ∷ b ∷ c ∷ []) =
    option_and_then (λ node. option_and_then (λ register.
    option_map (event.Write node register) (number_in c)) (register_in b)) (node_in a)
event_of _ _ = None

-- the argument is a node below `nodes`, a register below `registers` or a number
abbrev pub IsArgumentWithin : ℕ → ℕ → Argument → Type 0
IsArgumentWithin nodes registers (argument.Node node) = node < nodes
IsArgumentWithin nodes registers (argument.Register register) = register < registers
IsArgumentWithin nodes registers (argument.Number number) = ⊤

abbrev pub AreWithin : ℕ → ℕ → List Argument → Type 0
AreWithin nodes registers [] = ⊤
AreWithin nodes registers (a ∷ others) =
    IsArgumentWithin nodes registers a × AreWithin nodes registers others

-- the event names only nodes below `nodes` and registers below `registers`
abbrev pub IsWithin : ℕ → ℕ → Event → Type 0
IsWithin nodes registers e = AreWithin nodes registers (given e)

-- each of these events does
abbrev pub AreEventsWithin : ℕ → ℕ → List Event → Type 0
AreEventsWithin nodes registers es = (e : Event) → IsIn e es → IsWithin nodes registers e
