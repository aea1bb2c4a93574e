use Rattle.mx_member.specs.declared.acts.Act.TheVariants.{Ask}
use Rattle.mx_stations.proofs.SameTable.{act_kept}
use Rattle.mx_tests.proofs.settled_stations.ask_if_due.Goals as goal

pub returns-then-not-has_all : goal.returns-then-not-has_all
returns-then-not-has_all g c = act_kept g.C.Exclusion.core Ask c.ask.result _ _ c.ask.ensures.done c.ask.ensures.refused
