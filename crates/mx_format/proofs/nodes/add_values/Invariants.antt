use Rattle.std.proofs.Common.{◌≡◌, ◌≤◌, ◌++◌, drop, length, string_bytes}
use Rattle.mx_format.specs.NodeTexts.{register_in, value_by, values_by}
use Rattle.mx_format.specs.Lines.{texts_from}
use Rattle.mx_format.proofs.nodes.add_values.Given as goal

abbrev pub invariant-loop-register : goal.invariant-loop-register
invariant-loop-register l = record {
  in_range : l.register ≤ length l.plan.registers;
  written : string_bytes l.initial.text ++ values_by l.is_json l.plan l.journal
      ≡ string_bytes l.text ++ texts_from (λ k name. value_by l.is_json k name (register_in k l.journal).value) l.register (drop l.register l.plan.registers);
}
