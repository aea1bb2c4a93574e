use Rattle.std.specs.Prelude.{ℕ}

-- the greatest number of a stamp, grant, request or hop: after it no other is drawn
abbrev pub last_number : ℕ
last_number = 18446744073709551615
