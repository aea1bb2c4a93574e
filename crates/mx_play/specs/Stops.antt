-- Why a session stops before its end.
use Rattle.std.specs.Prelude.{ℕ, ◌≡◌, ◌≤◌, ◌<◌, ◌+◌, ◌-◌, ◌^◌, ⊤, Option, Some, Result, IfErr, IsSomeAnd}
use Rattle.mx_cli.specs.declared.stop.Stop.{Stop}
use Rattle.mx_cli.specs.declared.stop.Stop.TheVariants as stop
use Rattle.mx_play.specs.declared.input.Input.{Input}
use Rattle.mx_play.specs.declared.input.Input.TheVariants as input
use Rattle.mx_play.specs.declared.line_sources.LineRead.{LineRead}
use Rattle.mx_play.specs.declared.line_sources.LineRead.TheVariants.{Line, TooLong, End, Unreadable}

-- if a call fails, memory ran out
abbrev pub OnlyMemory : {T : Type 0} → Result T Stop → Type 0
OnlyMemory result = IfErr result (λ end. end ≡ stop.Memory)

-- at most n lines were left, and each can be read: fewer are left after one that was read
abbrev pub CountsDown : ℕ → LineRead → Option ℕ → Type 0
CountsDown n Line left = (m : ℕ) × (m < n) × (left ≡ Some m)
CountsDown n TooLong left = (m : ℕ) × (m < n) × (left ≡ Some m)
CountsDown n End left = (m : ℕ) × (m ≤ n) × (left ≡ Some m)
CountsDown n Unreadable left = ⊥

-- the same of an input: fewer lines are left, unless there were none
abbrev pub LeavesFewer : ℕ → Input → Option ℕ → Type 0
LeavesFewer n input.Eof left = ⊤
LeavesFewer n of left = (m : ℕ) × (m < n) × (left ≡ Some m)

-- each line that is left can be read and has a number, the first of them the number `first`
abbrev pub HaveNumbers : ℕ → Option ℕ → Type 0
HaveNumbers first left = IsSomeAnd left (λ n. first + n < 2 ^ 64 - 1)

-- each line that is left can be read, and there are fewer than 2 ^ 62 of them
abbrev pub AreReadableLines : Option ℕ → Type 0
AreReadableLines left = IsSomeAnd left (λ n. n < 2 ^ 62)
