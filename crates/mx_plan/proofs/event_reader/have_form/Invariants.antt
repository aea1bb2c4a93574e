use Rattle.std.proofs.Common.{◌≡◌, map}
use Rattle.serde_json.specs.View.{view}
use Rattle.mx_plan.specs.Events.{have_form}
use Rattle.mx_plan.proofs.EventLemmas.{form_from}
use Rattle.mx_plan.proofs.event_reader.have_form.Given as goal

abbrev pub invariant-loop-i : goal.invariant-loop-i
invariant-loop-i l = have_form l.kinds (map view l.values) ≡ form_from view l.kinds l.values l.i
