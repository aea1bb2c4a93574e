use Rattle.serde_json.specs.View.{view}
use Rattle.mx_plan.proofs.WithinLemmas.{read_within}
use Rattle.mx_plan.proofs.event_reader.read_events.Goals as goal

pub returns-clause-within : goal.returns-clause-within
returns-clause-within c = read_within c.args.plan.now (view c.in_ok-value.value) c.events_in.result c.events_in.ensures
