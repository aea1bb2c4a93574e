-- The kind and the node of an event.
use Rattle.std.specs.Prelude.{ℕ, Option, Some, None}
use Rattle.mx_events.specs.declared.event.Event.{Event}
use Rattle.mx_events.specs.declared.event.Event.TheVariants as event
use Rattle.mx_events.specs.declared.kind.EventKind.{EventKind}
use Rattle.mx_events.specs.declared.kind.EventKind.TheVariants as kind

abbrev pub kind_of : Event → EventKind
kind_of (event.Ask node) = kind.Ask
kind_of (event.Enter node) = kind.Enter
kind_of (event.Read node register) = kind.Read
kind_of (event.Write node register value) = kind.Write
kind_of (event.Leave node) = kind.Leave
kind_of (event.Cancel node) = kind.Cancel
kind_of (event.Settle node upto) = kind.Settle
kind_of (event.Tick node) = kind.Tick
kind_of (event.Want node other) = kind.Want
kind_of (event.Deliver number) = kind.Deliver
kind_of (event.Restart node) = kind.Restart

-- the node of an event, or `None` for a delivery, whose node depends on the parcel
abbrev pub node_of : Event → Option ℕ
node_of (event.Ask node) = Some node
node_of (event.Enter node) = Some node
node_of (event.Read node register) = Some node
node_of (event.Write node register value) = Some node
node_of (event.Leave node) = Some node
node_of (event.Cancel node) = Some node
node_of (event.Settle node upto) = Some node
node_of (event.Tick node) = Some node
node_of (event.Want node other) = Some node
node_of (event.Deliver number) = None
node_of (event.Restart node) = Some node
