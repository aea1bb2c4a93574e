use Rattle.std.proofs.Common.{◌≡◌, map, take, false}
use Rattle.serde_json.specs.View.{view}
use Rattle.mx_plan.specs.Text.{has_double}
use Rattle.mx_plan.specs.Values.{text_of}
use Rattle.mx_plan.proofs.name_reader.distinct_names.Given as goal

abbrev pub invariant-loop-value : goal.invariant-loop-value
invariant-loop-value l = record {
  so_far : l.names ≡ map text_of (map view (take l.value-index l.values));
  distinct : has_double l.names ≡ false;
}
