use Rattle.std.proofs.Common.{◌≡◌}
use Rattle.serde_json.specs.View.{view}
use Rattle.mx_plan.specs.NameLists.{number_in}
use Rattle.mx_plan.proofs.EachLemmas.{after, rest}
use Rattle.mx_plan.proofs.name_reader.numbers_of_names.Given as goal

abbrev pub invariant-loop-value : goal.invariant-loop-value
invariant-loop-value l =
    rest view (λ _. number_in l.place l.nodes) l.values 0 ≡ after l.numbers.items (rest view (λ _. number_in l.place l.nodes) l.values l.value-index)
