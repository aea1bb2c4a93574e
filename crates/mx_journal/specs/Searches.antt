use Rattle.std.specs.Prelude.{ℕ, min, Option, Some, None}

-- the lower of n and the other number, or n if there is no other
abbrev pub lower_of : Option ℕ → ℕ → ℕ
lower_of None n = n
lower_of (Some m) n = min m n
