use Rattle.std.proofs.Common.{ℕ, ◌≡◌, ◌+◌}
use Rattle.mx_draw.specs.Walk.{at_first, state_of}
use Rattle.mx_draw.specs.Runs.{ran}
use Rattle.mx_draw.proofs.random_run.run_over.Given as goal

-- with the steps to come, the run is whole
abbrev pub invariant-loop : goal.invariant-loop
invariant-loop g l =
    (rest : ℕ) → l.counter + rest ≡ l.drawn.steps
    → ran g.C.Exclusion.core l.drawn.conditions l.nodes l.registers rest (state_of l.stepper) l.cluster
    ≡ ran g.C.Exclusion.core l.drawn.conditions l.nodes l.registers l.drawn.steps (at_first l.drawn.seed) l.initial.cluster
