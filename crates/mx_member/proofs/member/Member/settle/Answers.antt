use Rattle.std.proofs.Common.{subst}
use Rattle.mx_journal.specs.Bases.{AreCellsOf, BaseState}
use Rattle.mx_member.proofs.Settling.{settled_over, settles, shown_settled}
use Rattle.mx_member.proofs.member.Member.settle.Goals as goal

pub invariant_of-self : goal.invariant_of-self
invariant_of-self g c =
    let was = c.self.invariant in (
      was.0,
      was.1,
      was.2,
      was.3,
      was.4,
      shown_settled c.settle.result c.self.inside.registers c.args.upto c.self.inside.journal c.settle.new.self c.self.inside.shown was.2 c.is_empty.ensures.ordered (subst (λ (b : BaseState). AreCellsOf b.upto b.cells) c.base.ensures c.upto.ensures.cells) c.settle.ensures.ok c.settle.ensures.err was.5,
    )

pub returns-clause-state : goal.returns-clause-state
returns-clause-state g c =
    (settled_over c.settle.result c.args.upto c.settle.new.self _ c.args.self.now c.self.view_is
    (settles c.args.upto _ c.settle.new.self c.is_empty.ensures.ordered c.settle.result c.settle.ensures.below c.settle.ensures.gap c.settle.ensures.gapless c.settle.ensures.ok c.settle.ensures.err)).0

pub returns-clause-answer : goal.returns-clause-answer
returns-clause-answer g c =
    (settled_over c.settle.result c.args.upto c.settle.new.self _ c.args.self.now c.self.view_is
    (settles c.args.upto _ c.settle.new.self c.is_empty.ensures.ordered c.settle.result c.settle.ensures.below c.settle.ensures.gap c.settle.ensures.gapless c.settle.ensures.ok c.settle.ensures.err)).1
