-- The lines of faults.
use Rattle.std.specs.Prelude.{◌++◌, ◌&&◌, codes, decimal, if◌then◌else◌}
use Rattle.mx_lines.specs.Escapes.{shown}
use Rattle.mx_plan.specs.Text.{Text, line_feed}
use Rattle.mx_plan.specs.FaultTexts.{fault_text}
use Rattle.mx_cli.specs.declared.faults.Fault.{Fault}
use Rattle.mx_cli.specs.declared.faults.Fault.TheVariants.{CannotRead, BadText, NotJson, NoParcel}
use Rattle.mx_cli.specs.declared.faults.Named.{Named}
use Rattle.mx_cli.specs.declared.faults.Named.TheVariants as named
use Rattle.mx_cli.specs.Reading.{is_dash}

-- the place of a text: its name, or its part of standard input, if both names are `-`
abbrev pub part_text : Text × Text → Named → Text
part_text names named.Plan =
    if is_dash names.0 && is_dash names.1 then codes "the first line of standard input" else names.0
part_text names named.Events =
    if is_dash names.0 && is_dash names.1 then codes "the rest of standard input" else names.1

-- the line of a fault, if the plan and the events have these names
abbrev pub fault_line : Text × Text → Fault → Text
fault_line names (CannotRead named.Plan) = codes "mx: cannot read " ++ shown names.0 ++ line_feed
fault_line names (CannotRead named.Events) = codes "mx: cannot read " ++ shown names.1 ++ line_feed
fault_line names (BadText fault) = codes "mx: " ++ fault_text fault ++ line_feed
fault_line names (NotJson part) = codes "mx: not json: " ++ shown (part_text names part) ++ line_feed
fault_line names (NoParcel k) = codes "mx: no parcel: event " ++ decimal k ++ line_feed

abbrev pub memory_line : Text
memory_line = codes "mx: out of memory" ++ line_feed
