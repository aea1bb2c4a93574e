use Rattle.mx_model_runs.proofs.Refused.{maps_join}
use Rattle.mx_model_runs.proofs.definitions.maps_join.Goals as goal

pub returns : goal.returns
returns c = maps_join
