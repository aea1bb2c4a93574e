use Rattle.std.proofs.Common.{◌≡◌, length, map}
use Rattle.serde_json.specs.View.{view}
use Rattle.mx_plan.specs.Events.{arguments_in}
use Rattle.mx_plan.proofs.EachLemmas.{after}
use Rattle.mx_plan.proofs.EventLemmas.{arguments_from}
use Rattle.mx_plan.proofs.event_reader.arguments_in.Given as goal

abbrev pub invariant-loop-i : goal.invariant-loop-i
invariant-loop-i l = record {
  so_far : arguments_in l.plan l.k l.kinds (map view l.values)
      ≡ after l.arguments.items (arguments_from view l.kinds l.values l.plan l.k l.i);
  count : length l.arguments.items ≡ l.i;
  as_many : length l.kinds ≡ length l.values;
}
