use Rattle.std.proofs.Common.{◌≡◌, ◌-◌, ◌^◌, length, min}
use Rattle.mx_lines.specs.Names.{texts_of}
use Rattle.mx_event_files.specs.Scripts.{DoesAll}
use Rattle.mx_shown_scripts.proofs.happenings.do_lines.Given as goal

abbrev pub invariant-loop-line : goal.invariant-loop-line
invariant-loop-line g l = record {
  does : DoesAll g.C.Exclusion.core l.plan 0 (texts_of l.yielded) l.initial.state l.happened.items l.state;
  number : l.number ≡ min (length l.yielded) (2 ^ 64 - 1);
}
