use Rattle.std.proofs.Common.{◌∙◌, sym, ap, map, Some, option_map}
use Rattle.serde_json.specs.View.{view}
use Rattle.mx_plan.specs.Values.{list_of}
use Rattle.mx_plan.proofs.Lists.{list_of-items_of}
use Rattle.mx_plan.proofs.values.elements.Goals as goal

pub returns-in-Some : goal.returns-in-Some
returns-in-Some c =
    ap (λ vs. Some (map view vs)) c.as_slice.ensures.value
    ∙ ap Some (sym (list_of-items_of (map view c.in-Some.list.now.items)))
    ∙ ap (option_map list_of) c.in-Some.ensures
