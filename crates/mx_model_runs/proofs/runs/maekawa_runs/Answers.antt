use Rattle.mx_model_runs.proofs.Traces.{maekawa_happens}
use Rattle.mx_model_runs.proofs.runs.maekawa_runs.Goals as goal

pub returns : goal.returns
returns c = maekawa_happens
