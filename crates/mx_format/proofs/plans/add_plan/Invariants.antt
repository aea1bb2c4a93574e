use Rattle.std.proofs.Common.{◌≡◌, ◌++◌, string_bytes}
use Rattle.mx_format.specs.PlanTexts.{shape_text}
use Rattle.mx_format.specs.Lines.{each_node, each_text}
use Rattle.mx_format.proofs.plans.add_plan.Given as goal

abbrev pub invariant-loop-node : goal.invariant-loop-node
invariant-loop-node l =
    string_bytes l.initial.text ++ each_node (shape_text l.is_json l.plan l.plan.shape) l.plan ≡ string_bytes l.text ++ each_text (shape_text l.is_json l.plan l.plan.shape) l.node-iterator
