use Rattle.mx_model_runs.proofs.Traces.{ricart_happens}
use Rattle.mx_model_runs.proofs.runs.ricart_runs.Goals as goal

pub returns : goal.returns
returns c = ricart_happens
