use Rattle.mx_event_files.proofs.ReadLemmas.{read_back}
use Rattle.mx_event_files.proofs.files.reads_back.Goals as goal

pub returns : goal.returns
returns c = λ valid readable. read_back c.args.plan.now valid c.args.events.now readable
