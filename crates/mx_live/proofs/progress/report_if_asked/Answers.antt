use Rattle.mx_live.proofs.ProgressLemmas.{tells_none, tells_some}
use Rattle.mx_live.proofs.progress.report_if_asked.Goals as goal

pub returns-then-not-asked-clause-progress : goal.returns-then-not-asked-clause-progress
returns-then-not-asked-clause-progress g c = tells_none c.args.asked (g.E.Output.written c.args.err.now)

pub returns-in_default-clause-progress : goal.returns-in_default-clause-progress
returns-in_default-clause-progress g c = tells_none c.args.asked (g.E.Output.written c.args.err.now)

pub returns-in-Some-clause-progress : goal.returns-in-Some-clause-progress
returns-in-Some-clause-progress g c = tells_some c.args.asked _ _ c.if-not-asked.false c.report_progress.ensures.progress
