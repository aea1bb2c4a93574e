use Rattle.mx_jobs.proofs.Laws.{value_at}
use Rattle.mx_jobs.proofs.registers.value_of.Goals as goal

pub returns : goal.returns
returns c = let e = value_at c.args.view.now c.args.register in cc
