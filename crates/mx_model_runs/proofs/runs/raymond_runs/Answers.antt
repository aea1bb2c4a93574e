use Rattle.mx_model_runs.proofs.Traces.{raymond_happens}
use Rattle.mx_model_runs.proofs.runs.raymond_runs.Goals as goal

pub returns : goal.returns
returns c = raymond_happens
