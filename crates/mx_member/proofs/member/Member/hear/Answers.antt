use Rattle.std.proofs.Common.{ℕ, ◌∙◌, List, ap, rules}
use Rattle.mx_member.specs.Member.{guarded}
use Rattle.mx_member.proofs.CoreDone.{core_done}
use Rattle.mx_member.proofs.member.Member.hear.Goals as goal

pub deliver-requires : goal.deliver-requires
deliver-requires g c = search rules

pub guard_all-requires : goal.guard_all-requires
guard_all-requires g c = search rules

pub invariant_of-self : goal.invariant_of-self
invariant_of-self g c = let was = c.self.invariant in (c.guard_all.ensures.empty, was.1, was.2, was.3, was.4, was.5)

pub returns-clause-state : goal.returns-clause-state
returns-clause-state g c =
    core_done _ c.args.self.now c.deliver.new.self (λ (s : g.row.C.Denot). (g.C.Exclusion.core.deliver c.args.from c.args.letter s).state) c.self.view_is c.deliver.ensures.state

pub returns-clause-letters : goal.returns-clause-letters
returns-clause-letters g c =
    c.guard_all.ensures.sent
    ∙ ap (λ (ps : List (ℕ × g.row.C-Msg.Denot)). guarded ps) c.deliver.ensures.letters
    ∙ ap (λ m. guarded (g.C.Exclusion.core.deliver c.args.from c.args.letter m.core).letters) c.self.view_is
