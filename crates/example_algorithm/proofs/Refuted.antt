-- Two nodes that enter when they like break exclusion, whatever predicate is chosen for Good.
use Rattle.std.proofs.Common.{ℕ, ◌≡◌, [], ◌∷◌, refl, arith}
use Rattle.mx_nodelaws.specs.World.{World}
use Rattle.mx_nodelaws.specs.Laws.{KeepsGood}
use Rattle.mx_nodelaws.specs.declared.phase.Phase.TheVariants.{Idle, Waiting, Inside}
use Rattle.example_algorithm.specs.declared.solo.One.{One}
use Rattle.example_algorithm.specs.Node.{Node}
use Rattle.example_algorithm.specs.Step.{solo_core}
use Rattle.example_algorithm.specs.Good.{IsOne}

-- node i at rest, waiting, and in its first section
abbrev at_rest : ℕ → Node
at_rest i = record { me = i; limit = 2; phase = Idle; mine = 0 }

abbrev waiting : ℕ → Node
waiting i = record { me = i; limit = 2; phase = Waiting; mine = 0 }

abbrev inside : ℕ → Node
inside i = record { me = i; limit = 2; phase = Inside 1; mine = 1 }

abbrev world : Node → Node → World Node ℕ
world a b = record { nodes = a ∷ b ∷ []; sent = [] }

-- both ask, and both enter
pub no_two : (shape : One) (Good : World Node ℕ → Type 0) → KeepsGood (solo_core 2) IsOne Good → ⊥
no_two shape Good laws =
    let g0 : Good (world (at_rest 0) (at_rest 1)) = laws.at_start shape 0 2 tt (omega arith) (omega arith) (omega arith) in
    let g1 : Good (world (waiting 0) (at_rest 1)) = laws.after_ask (world (at_rest 0) (at_rest 1)) 0 (at_rest 0) g0 refl in
    let g2 : Good (world (waiting 0) (waiting 1)) = laws.after_ask (world (waiting 0) (at_rest 1)) 1 (at_rest 1) g1 refl in
    let g3 : Good (world (inside 0) (waiting 1)) = laws.after_enter (world (waiting 0) (waiting 1)) 0 (waiting 0) g2 refl in
    let g4 : Good (world (inside 0) (inside 1)) = laws.after_enter (world (inside 0) (waiting 1)) 1 (waiting 1) g3 refl in
    let same : 0 ≡ 1 = laws.one_inside (world (inside 0) (inside 1)) 0 1 (inside 0) (inside 1) g4 refl refl (1, refl) (1, refl) in
    omega (arith, same)
