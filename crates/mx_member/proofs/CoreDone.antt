-- What a step of the core makes of a member.
use Rattle.std.proofs.Common.{◌≡◌, ◌∙◌, ap}
use Rattle.mx_member.specs.Member.{MemberState, with_core}

-- a member whose core took a step, by what that step is of the core that it had
pub core_done : {S : Type 0} (was m : MemberState S) (new : S) (step : S → S) → was ≡ m → new ≡ step was.core → with_core new was ≡ with_core (step m.core) m
core_done was m new step same is = ap (λ x. with_core x was) is ∙ ap (λ x. with_core (step x.core) x) same
