use Rattle.std.proofs.Common.{◌∙◌, arith, sym}
use Rattle.mx_scripts.proofs.PartitionLemmas.{none_across, none_below_next}
use Rattle.mx_scripts.proofs.links.Links.first_across.Goals as goal

pub loop-link-init : goal.loop-link-init
loop-link-init c k lt = absurd (omega (arith, lt))

pub loop-link-preserved : goal.loop-link-preserved
loop-link-preserved c = none_below_next c.args.sides.now c.args.self.now c.loop-link.link c.loop-link.invariant (sym c.is_across.ensures ∙ c.if-is_across.false)

pub returns-clause-none : goal.returns-clause-none
returns-clause-none c = none_across c.args.sides.now c.args.self.now c.loop-link.link c.loop-link.invariant c.loop-link-test.false
