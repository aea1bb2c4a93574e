use Rattle.std.proofs.Common.{◌∙◌, sym, ap, [], map, option_map}
use Rattle.std.specs.Prelude.{unwrap_or}
use Rattle.serde_json.specs.View.{view}
use Rattle.mx_plan.specs.Values.{list_of}
use Rattle.mx_plan.proofs.Lists.{list_of-items_of}
use Rattle.mx_judge.proofs.entry_reader.items_in.Goals as goal

pub returns-in-Some : goal.returns-in-Some
returns-in-Some c =
    ap (map view) c.as_slice.ensures.value
    ∙ sym (list_of-items_of (map view c.in-Some.items.now.items))
    ∙ ap (λ o. unwrap_or (option_map list_of o) []) c.in-Some.ensures
