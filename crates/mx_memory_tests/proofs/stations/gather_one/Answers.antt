use Rattle.std.proofs.Common.{rules, ◌≡◌, List, [], ◌∷◌, length, arith}
use Rattle.mx_stations.specs.Gathered.{OfOneTable}
use Rattle.mx_stations.specs.Posts.{Post}
use Rattle.mx_stations.proofs.SameTable.{one_alone}
use Rattle.mx_memory_tests.proofs.stations.gather_one.Goals as goal

-- a list of one station
alone : {T P : Type 0} (all : List (Post T P)) → length all ≡ 1 → OfOneTable all
alone [] is = absurd (omega (arith, is))
alone (s ∷ []) is = one_alone s
alone (s ∷ t ∷ more) is = absurd (omega (arith, is))

pub gather-requires : goal.gather-requires
gather-requires c = (search rules, alone _ c.requires)
