use Rattle.mx_model_runs.proofs.Merged.{journals_merged}
use Rattle.mx_model_runs.proofs.journals.journals_merge.Goals as goal

pub returns : goal.returns
returns c = journals_merged
