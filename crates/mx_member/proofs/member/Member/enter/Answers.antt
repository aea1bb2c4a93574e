use Rattle.std.proofs.Common.{ℕ, ◌≡◌, ◌∙◌, Ok, ap, rules}
use Rattle.mx_nodelaws.specs.Core.{Core}
use Rattle.mx_journal.specs.Drafted.{Drafted, fresh}
use Rattle.mx_member.specs.Member.{MemberState, with_core, with_draft}
use Rattle.mx_member.specs.Steps.{enter_of, entered}
use Rattle.mx_member.proofs.member.Member.enter.Goals as goal

-- a member whose core entered section n
inside : {H S M : Type 0} (core : Core H S M) (was m : MemberState S) (new : S) (n : ℕ) (draft : Drafted) → was ≡ m → new ≡ (core.enter was.core).state → Ok n ≡ (core.enter was.core).answer → draft ≡ fresh → with_draft draft (with_core new was) ≡ (enter_of core m).state
inside core was m new n draft same state answer empty =
    ap (λ d. with_draft d (with_core new was)) empty
    ∙ ap (λ s. with_draft fresh (with_core s was)) state
    ∙ ap (λ r. entered r (with_core (core.enter was.core).state was)) answer
    ∙ ap (λ x. (enter_of core x).state) same

pub returns-clause-state : goal.returns-clause-state
returns-clause-state g c =
    inside g.C.Exclusion.core _ c.args.self.now c.enter.new.self c.in_ok-number.number _ c.self.view_is c.in_ok-number.ensures.state c.in_ok-number.ensures.answer c.clear.ensures

pub invariant_of-self : goal.invariant_of-self
invariant_of-self g c = c.self.invariant

pub invariant_of-self-2 : goal.invariant_of-self-2
invariant_of-self-2 g c = let was = c.self.invariant in (was.0, was.1, was.2, (search rules), (search rules), was.5)
