use Rattle.mx_model_runs.proofs.Refused.{histories_refused}
use Rattle.mx_model_runs.proofs.definitions.histories_refused.Goals as goal

pub returns : goal.returns
returns c = histories_refused
