-- The lines of a script, and why one is not done.
use Rattle.std.specs.Prelude.{◌≡◌, ℕ, ◌++◌, Option, Some, None, codes, decimal}
use Rattle.mx_network.specs.declared.faults.StepFault.{StepFault}
use Rattle.mx_network.specs.declared.faults.StepFault.TheVariants as step_fault
use Rattle.mx_plan.specs.Text.{Text, line_feed}
use Rattle.mx_lines.specs.Texts.{fault_text}
use Rattle.mx_lines.specs.declared.errors.LineFault.{LineFault}
use Rattle.mx_lines.specs.declared.errors.LineFault.TheVariants.{NoNode, NoParcel}
use Rattle.mx_scripts.specs.declared.line_failure.RefusedLine.{RefusedLine}
use Rattle.mx_scripts.specs.declared.line_failure.LineFailure.{LineFailure}
use Rattle.mx_scripts.specs.declared.line_failure.LineFailure.TheVariants as failure

abbrev pub failure_of_step : StepFault → LineFailure
failure_of_step step_fault.NoNode = failure.Refused NoNode
failure_of_step step_fault.NoParcel = failure.Refused NoParcel
failure_of_step step_fault.Memory = failure.Memory

-- the fault of a line that is not done; `None` if memory ran out, since the line is not refused
-- then
abbrev pub fault_of : LineFailure → Option LineFault
fault_of (failure.WrongWord error) = Some error.fault
fault_of (failure.Refused fault) = Some fault
fault_of failure.Memory = None

abbrev pub IsRefused : ℕ → LineFailure → RefusedLine → Type 0
IsRefused number failure line =
    (line.number ≡ number) × (fault_of failure ≡ Some line.fault)

-- what is printed of a fault in line k of a script, with the message about the words of that line
abbrev pub script_line : ℕ → LineFault → Text → Text
script_line k fault message =
    codes "mx: script: line " ++ decimal k ++ codes ": " ++ fault_text fault ++ message
    ++ line_feed
