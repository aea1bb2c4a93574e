use Rattle.std.proofs.Common.{◌∙◌, sym, map}
use Rattle.serde_json.specs.View.{view}
use Rattle.mx_plan.proofs.NameLemmas.{names_found}
use Rattle.mx_plan.proofs.name_reader.names_at.Goals as goal

pub returns-in-Some-clause-valid : goal.returns-in-Some-clause-valid
returns-in-Some-clause-valid c =
    names_found c.args.most c.args.place (map view c.in-Some.values.now) c.distinct_names.result
    (sym c.are_names.ensures ∙ c.if-are_names.true) c.distinct_names.ensures
