-- Which of two places of a text is worse.
use Rattle.std.specs.Prelude.{ℕ}
use Rattle.mx_picture.specs.declared.open_arrows.Crossing.{Crossing}
use Rattle.mx_picture.specs.declared.open_arrows.Crossing.TheVariants.{Clear, Foreign, Own}

-- an arrow between other nodes is worse than one from or to the node of the text
abbrev pub rank_of : Crossing → ℕ
rank_of Clear = 0
rank_of Own = 1
rank_of Foreign = 2
