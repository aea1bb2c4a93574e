use Rattle.std.proofs.Common.{◌≡◌}
use Rattle.serde_json.specs.View.{view}
use Rattle.mx_plan.specs.Events.{event_of}
use Rattle.mx_plan.proofs.EachLemmas.{after, rest}
use Rattle.mx_plan.proofs.event_reader.each_event.Given as goal

abbrev pub invariant-loop-k : goal.invariant-loop-k
invariant-loop-k l =
    rest view (event_of l.plan) l.values 0 ≡ after l.events.items (rest view (event_of l.plan) l.values l.k)
