-- What outputs hold, and whether they refuse.
use Rattle.std.specs.Prelude.{ℕ, List, [], ◌∷◌, Bool, false, true, Option, Result, Ok, Err}
use Rattle.mx_io.specs.declared.output.OutputFault.{OutputFault}
use Rattle.mx_io.specs.declared.output.OutputFault.TheVariants as output_fault

-- what an output holds, if that is known
abbrev pub Held : Type 0
Held = Option (List ℕ)

-- whether an output has refused something, after a call with this fault
abbrev pub refused_at : OutputFault → Bool → Bool
refused_at output_fault.Refused before = true
refused_at output_fault.Memory before = before

-- the same after a call that returned this result
abbrev pub refused_by : {T : Type 0} → Result T OutputFault → Bool → Bool
refused_by (Ok t) before = before
refused_by (Err fault) before = refused_at fault before

-- whether a buffer has bytes
abbrev pub has_bytes : List ℕ → Bool
has_bytes [] = false
has_bytes (b ∷ bs) = true
