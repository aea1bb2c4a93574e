use Rattle.std.proofs.Common.{◌≡◌}
use Rattle.serde_json.specs.View.{view}
use Rattle.mx_judge.specs.Entries.{item_of}
use Rattle.mx_judge.specs.Faults.{list_fault}
use Rattle.mx_judge.specs.Listed.{listed, nothing}
use Rattle.mx_judge.proofs.ItemLemmas.{rest}
use Rattle.mx_judge.proofs.trace_reader.read_items.Given as goal

abbrev pub invariant-loop-index : goal.invariant-loop-index
invariant-loop-index l =
    rest view (item_of l.plan) list_fault l.items nothing 0 ≡ rest view (item_of l.plan) list_fault l.items (listed l.trace) l.index
