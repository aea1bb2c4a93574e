use Rattle.std.proofs.Common.{ℕ, ◌∙◌, List, ap, rules}
use Rattle.mx_member.specs.Member.{guarded}
use Rattle.mx_member.proofs.CoreDone.{core_done}
use Rattle.mx_member.proofs.member.Member.cancel.Goals as goal

pub cancel-answer-requires : goal.cancel-answer-requires
cancel-answer-requires g c = search rules

pub guard_all-requires : goal.guard_all-requires
guard_all-requires g c = search rules

pub invariant_of-self : goal.invariant_of-self
invariant_of-self g c = let was = c.self.invariant in (c.guard_all.ensures.empty, was.1, was.2, was.3, was.4, was.5)

pub returns-clause-state : goal.returns-clause-state
returns-clause-state g c =
    core_done _ c.args.self.now c.cancel-answer.new.self (λ (s : g.row.C.Denot). (g.C.Exclusion.core.cancel s).state) c.self.view_is c.cancel-answer.ensures.state

pub returns-clause-answer : goal.returns-clause-answer
returns-clause-answer g c = c.cancel-answer.ensures.answer ∙ ap (λ m. (g.C.Exclusion.core.cancel m.core).answer) c.self.view_is

pub returns-clause-letters : goal.returns-clause-letters
returns-clause-letters g c =
    c.guard_all.ensures.sent
    ∙ ap (λ (ps : List (ℕ × g.row.C-Msg.Denot)). guarded ps) c.cancel-answer.ensures.letters
    ∙ ap (λ m. guarded (g.C.Exclusion.core.cancel m.core).letters) c.self.view_is
