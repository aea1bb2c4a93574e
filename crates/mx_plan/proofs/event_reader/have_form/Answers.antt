use Rattle.std.proofs.Common.{◌∙◌, map, sym}
use Rattle.serde_json.specs.View.{view}
use Rattle.mx_plan.proofs.Lists.{length-map'}
use Rattle.mx_plan.proofs.EventLemmas.{unlike}
use Rattle.mx_plan.proofs.event_reader.have_form.Goals as goal

pub returns-then-kinds-values : goal.returns-then-kinds-values
returns-then-kinds-values c =
    sym (unlike c.args.kinds.now (map view c.args.values.now)
    (λ same. c.if-kinds-values.true (same ∙ length-map' view c.args.values.now)))
