use Rattle.std.proofs.Common.{rules, ◌≡◌, ◌++◌, List, [], ◌∷◌}
use Rattle.mx_stations.proofs.SameTable.{last_two}
use Rattle.mx_tests.proofs.stations.two.Goals as goal

pub returns-in-Some : goal.returns-in-Some
returns-in-Some c =
    let ends : (more : List _) × (left : List _) × (c.in_ok-all.all.items ≡ more ++ c.in-Some.both.1 ∷ []) × (more ≡ left ++ c.in-Some.both.0 ∷ []) = search rules in
    last_two _ _ c.in_ok-all.all.items ends.0 ends.1 c.in-Some.both.0 c.in-Some.both.1 c.in_ok-all.ensures ends.2 ends.3
