use Rattle.mx_stations.specs.Slides.{released_view}
use Rattle.mx_stations.proofs.turn.lift_fated.Given as goal

abbrev pub ghosts-release : goal.ghosts-release
ghosts-release g a = record { after = λ v. released_view a.hand.now v; count = a.field.now.nodes }
