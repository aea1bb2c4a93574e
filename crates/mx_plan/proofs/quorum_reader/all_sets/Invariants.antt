use Rattle.std.proofs.Common.{◌≡◌, length}
use Rattle.serde_json.specs.View.{view}
use Rattle.mx_quorums.specs.Lists.{lists_of}
use Rattle.mx_plan.specs.QuorumKeys.{set_of}
use Rattle.mx_plan.proofs.EachLemmas.{after, rest}
use Rattle.mx_plan.proofs.quorum_reader.all_sets.Given as goal

abbrev pub invariant-loop-value : goal.invariant-loop-value
invariant-loop-value l = record {
  so_far : rest view (λ _. set_of l.nodes) l.values 0
      ≡ after (lists_of l.sets.items) (rest view (λ _. set_of l.nodes) l.values l.value-index);
  counted : length l.sets.items ≡ l.value-index;
}
