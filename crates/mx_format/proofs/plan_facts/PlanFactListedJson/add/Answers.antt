use Rattle.std.proofs.Common.{append_assoc}
use Rattle.mx_format.proofs.plan_facts.PlanFactListedJson.add.Goals as goal

pub returns-in-Meeting : goal.returns-in-Meeting
returns-in-Meeting c =
    rw c.in-Meeting.is (simp append_assoc (rw (c.name_of-first.ensures, c.name_of-second.ensures, c.name_of-node.ensures) at c.writeln-in-Meeting.ensures.bytes))

pub returns-in-Toward : goal.returns-in-Toward
returns-in-Toward c =
    rw c.in-Toward.is (simp append_assoc (rw (c.name_of-node-in-Toward.ensures, c.name_of-next.ensures) at c.writeln-in-Toward.ensures.bytes))
