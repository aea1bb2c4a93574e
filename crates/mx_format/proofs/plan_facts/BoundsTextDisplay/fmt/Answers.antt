use Rattle.std.proofs.Common.{append_assoc}
use Rattle.mx_format.specs.PlanTexts.{bounds_text}
use Rattle.mx_format.proofs.plan_facts.BoundsTextDisplay.fmt.Goals as goal

pub returns-then-self-clause-writes : goal.returns-then-self-clause-writes
unfolding bounds_text
returns-then-self-clause-writes g c = λ plain ok.
    rw c.if-self.true (simp append_assoc (rw (c.registers-registers.ensures.value, c.sections-sections.ensures.value, c.origin-origin.ensures.value) at (c.write.ensures.writes plain ok)))

pub returns-clause-writes : goal.returns-clause-writes
unfolding bounds_text
returns-clause-writes g c = λ plain ok.
    rw c.if-self.false (simp append_assoc (rw (c.registers-registers.ensures.value, c.sections-sections.ensures.value, c.origin-origin.ensures.value) at (c.write-2.ensures.writes plain ok)))
