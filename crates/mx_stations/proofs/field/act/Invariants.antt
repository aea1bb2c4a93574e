use Rattle.mx_stations.specs.Running.{acted_view}
use Rattle.mx_stations.proofs.field.act.Given as goal

abbrev pub ghosts-store_as : goal.ghosts-store_as
ghosts-store_as g a = record { after = λ v. acted_view v a.member.now a.out.now a.hand.now a.receipts.now.items; count = a.field.now.nodes }
