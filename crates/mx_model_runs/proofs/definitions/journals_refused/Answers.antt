use Rattle.mx_model_runs.proofs.Refused.{journals_refused}
use Rattle.mx_model_runs.proofs.definitions.journals_refused.Goals as goal

pub returns : goal.returns
returns c = journals_refused
