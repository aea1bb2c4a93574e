-- Which nodes and registers the events of a line name.
use Rattle.std.specs.Prelude.{ℕ, ⊤}
use Rattle.mx_events.specs.Arguments.{IsWithin}
use Rattle.mx_lines.specs.declared.line.ScriptLine.{ScriptLine}
use Rattle.mx_lines.specs.declared.line.ScriptLine.TheVariants.{Does, Expects, Nothing}
use Rattle.mx_lines.specs.declared.orders.Order.{Order}
use Rattle.mx_lines.specs.declared.orders.Order.TheVariants.{Happens, Arrives, AllArrive, IsLost, ParcelIsLost, AllAreLost, ArrivesAgain, LinksChange, Parts}

-- the event of an order, if it has one, names nodes below `nodes` and registers below `registers`
abbrev pub IsOrderWithin : ℕ → ℕ → Order → Type 0
IsOrderWithin nodes registers (Happens event) = IsWithin nodes registers event
IsOrderWithin nodes registers (Arrives from to) = ⊤
IsOrderWithin nodes registers (AllArrive scope) = ⊤
IsOrderWithin nodes registers (IsLost from to) = ⊤
IsOrderWithin nodes registers (ParcelIsLost k) = ⊤
IsOrderWithin nodes registers (AllAreLost scope) = ⊤
IsOrderWithin nodes registers (ArrivesAgain from to) = ⊤
IsOrderWithin nodes registers (LinksChange change) = ⊤
IsOrderWithin nodes registers (Parts sides) = ⊤

abbrev pub IsLineWithin : ℕ → ℕ → ScriptLine → Type 0
IsLineWithin nodes registers (Does line) = IsOrderWithin nodes registers line.order
IsLineWithin nodes registers Expects = ⊤
IsLineWithin nodes registers Nothing = ⊤
