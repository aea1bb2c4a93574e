use Rattle.std.proofs.Common.{map, arith}
use Rattle.serde_json.specs.View.{view}
use Rattle.mx_plan.proofs.EventLemmas.{few_read}
use Rattle.mx_plan.proofs.Lists.{length-map'}
use Rattle.mx_plan.proofs.event_reader.events_in.Goals as goal

pub returns-in-Some-2 : goal.returns-in-Some-2
returns-in-Some-2 c =
    few_read c.args.plan.now (view c.args.value.now) (map view c.in-Some.values.now) c.each_event.result c.in-Some.ensures
    (rw (length-map' view c.in-Some.values.now) (omega arith)) c.each_event.ensures
