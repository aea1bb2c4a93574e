-- Errors of the words of a line.
use Rattle.std.specs.Prelude.{ℕ, Result, Ok, Err}
use Rattle.mx_lines.specs.declared.errors.Expected.{Expected}
use Rattle.mx_lines.specs.declared.errors.LineError.{LineError}
use Rattle.mx_lines.specs.declared.errors.LineFault.{LineFault}

-- the error that the word of this number is wrong
abbrev pub refused : {T : Type 0} → LineFault → ℕ → Expected → Result T LineError
refused fault word expected = Err (record { fault = fault; word = word; expected = expected })

-- continues if nothing was wrong
abbrev pub and_then : {A B : Type 0} → Result A LineError → (A → Result B LineError)
    → Result B LineError
and_then (Ok a) f = f a
and_then (Err e) f = Err e
