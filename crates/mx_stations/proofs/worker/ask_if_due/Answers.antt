use Rattle.std.proofs.Common.{refl}
use Rattle.mx_member.specs.declared.acts.Act.TheVariants.{Ask}
use Rattle.mx_stations.proofs.Leaving.{none_trying}
use Rattle.mx_stations.proofs.Within.{asking_within, serves_none}
use Rattle.mx_stations.proofs.worker.ask_if_due.Goals as goal

pub returns-then-is_to_ask : goal.returns-then-is_to_ask
returns-then-is_to_ask g c = λ register. (
  none_trying g.C.Exclusion.core register Ask c.ask.result _ _ tt refl c.ask.ensures.done c.ask.ensures.refused,
  λ is. asking_within g.C.Exclusion.core g.met.C.Exclusion.phases c.args.sections c.ask.result _ _ (c.if-is_to_ask.ensures refl) c.ask.ensures.done c.ask.ensures.refused,
)

pub returns-else-is_to_ask : goal.returns-else-is_to_ask
returns-else-is_to_ask g c = λ register. serves_none g.C.Exclusion.core g.met.C.Exclusion.phases register c.args.sections _ _ refl
