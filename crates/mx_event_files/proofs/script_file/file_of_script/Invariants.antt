use Rattle.std.proofs.Common.{◌≡◌, ◌-◌, ◌^◌, List, length, min}
use Rattle.mx_lines.specs.Names.{texts_of}
use Rattle.mx_event_files.specs.Scripts.{DoesAll}
use Rattle.mx_event_files.specs.declared.happening.Happening.{Happening}
use Rattle.mx_event_files.proofs.script_file.file_of_script.Given as goal

abbrev pub invariant-loop-line : goal.invariant-loop-line
invariant-loop-line g l = record {
  does : (happened : List Happening) × DoesAll g.C.Exclusion.core l.plan 0 (texts_of l.yielded) l.initial.state happened l.state;
  number : l.number ≡ min (length l.yielded) (2 ^ 64 - 1);
}
