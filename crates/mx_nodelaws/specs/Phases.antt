-- Tests of the phase of a node.
use Rattle.std.specs.Prelude.{Bool, true, false}
use Rattle.mx_nodelaws.specs.declared.phase.Phase.{Phase}
use Rattle.mx_nodelaws.specs.declared.phase.Phase.TheVariants.{Idle, Waiting, Inside}

-- whether the node has a current request: it waits or is inside
abbrev pub is_busy : Phase → Bool
is_busy Idle = false
is_busy Waiting = true
is_busy (Inside n) = true

abbrev pub is_waiting : Phase → Bool
is_waiting Idle = false
is_waiting Waiting = true
is_waiting (Inside n) = false

abbrev pub is_inside : Phase → Bool
is_inside Idle = false
is_inside Waiting = false
is_inside (Inside n) = true
