use Rattle.mx_stations.proofs.together.see.Given as goal

abbrev pub ghosts-see_as : goal.ghosts-see_as
ghosts-see_as g a = record { count = a.field.now.nodes }
