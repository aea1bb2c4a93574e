use Rattle.std.proofs.Common.{rules, refl, sym, ◌∙◌}
use Rattle.mx_jobs.proofs.worker.is_inside.Goals as goal

pub returns-in-Inside : goal.returns-in-Inside
returns-in-Inside g c = ((λ _. (c.in-Inside.field-0, sym c.phase.ensures.value ∙ c.in-Inside.is)), (λ _. refl))

pub returns-in_default : goal.returns-in_default
returns-in_default g c = ((λ e. cc), (λ inside. absurd (c.in_default.not-Inside inside.0 (c.phase.ensures.value ∙ inside.1))))

pub phase-requires : goal.phase-requires
phase-requires g c = search rules
