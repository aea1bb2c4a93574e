use Rattle.std.proofs.Common.{◌≡◌, ◌≤◌, ◌++◌, drop, length, string_bytes}
use Rattle.mx_live.specs.Shown.{value_line, value_lines}
use Rattle.mx_format.specs.Lines.{texts_from}
use Rattle.mx_format.specs.NodeTexts.{register_in}
use Rattle.mx_live.proofs.live_text.add_values.Given as goal

abbrev pub invariant-loop-register : goal.invariant-loop-register
invariant-loop-register l = record {
  in_range : l.register ≤ length l.plan.registers;
  written : string_bytes l.initial.text ++ value_lines l.plan l.journal
      ≡ string_bytes l.text ++ texts_from (λ register name. value_line name (register_in register l.journal).value) l.register (drop l.register l.plan.registers);
}
