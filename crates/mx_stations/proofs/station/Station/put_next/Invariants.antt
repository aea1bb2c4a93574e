use Rattle.mx_stations.specs.Links.{slot_in}
use Rattle.mx_stations.specs.Slides.{placed_view}
use Rattle.mx_stations.proofs.station.Station.put_next.Given as goal

abbrev pub ghosts-place : goal.ghosts-place
ghosts-place g a = record { after = λ v. placed_view (slot_in a.field.now.nodes a.link.now a.index) a.parcel v; count = a.field.now.nodes }
