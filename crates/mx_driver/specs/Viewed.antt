-- What `replay` prints, without options and with `--quiet`, `--node`, `--json` or `--state`.
use Rattle.std.specs.Prelude.{◌≡◌, ℕ, ◌++◌, ⊤, Bool, true, false, List, Option, Some, None, Result, Ok, Err, codes, option_map, string_bytes}
use Rattle.mx_events.specs.declared.event.Event.{Event}
use Rattle.mx_plan.specs.Text.{Text, line_feed}
use Rattle.mx_plan.specs.Fields.{Fields, node_of}
use Rattle.mx_plan.specs.Events.{events_at}
use Rattle.mx_plan.specs.declared.faults.PlanFault.{PlanFault}
use Rattle.mx_lines.specs.Escapes.{ArePrintable}
use Rattle.mx_cli.specs.Printing.{Report, ends, has_fault, has_line}
use Rattle.mx_cli.specs.Requests.{View as Options, has_options}
use Rattle.mx_cli.specs.declared.faults.Fault.TheVariants.{BadText}
use Rattle.mx_cli.specs.declared.stop.Stop.{Stop}
use Rattle.mx_cli.specs.declared.stop.Stop.TheVariants as stop
use Rattle.mx_driver.specs.Commands.{IsReplay}
use Rattle.mx_driver.specs.Shown.{view_by}
use Rattle.mx_driver.specs.declared.view.View.{View}

-- the node of this name, or `Some None` without a name; `None` if the plan lacks the name
abbrev pub node_in : Fields → Option Text → Option (Option ℕ)
node_in p None = Some None
node_in p (Some name) = option_map Some (node_of p name)

-- the view that the options ask for, of this node or of all
abbrev pub view_on : Options → Option ℕ → View
view_on options node =
    record {
      node = node;
      is_quiet = options.is_quiet;
      is_json = options.is_json;
      has_state = options.has_state;
    }

-- one line about a name that the plan lacks: it has no control bytes
abbrev pub IsUnknownLine : Text → Type 0
IsUnknownLine line =
    (message : Text) × ArePrintable message
    × (line ≡ codes "mx: unknown name:" ++ (message ++ line_feed))

-- what is shown of these events, of this node or of all; or only the line that the plan lacks the
-- node
abbrev pub IsShownOn : Options → Fields → List Event → Option (Option ℕ) → Report → Type 0
IsShownOn options p es (Some node) r = r ≡ view_by p (view_on options node) p.shape es
IsShownOn options p es None r = (line : Text) × IsUnknownLine line × (r ≡ ends (has_line line))

abbrev pub IsShown : Options → Fields → List Event → Report → Type 0
IsShown options p es = IsShownOn options p es (node_in p options.node)

abbrev pub IsViewBy : Options → Fields → Result (List Event) PlanFault → Report → Type 0
IsViewBy options p (Ok es) r = IsShown options p es r
IsViewBy options p (Err fault) r = r ≡ ends (has_fault (BadText fault))

-- a report of what is shown of the events in a text, or of the fault of the text
abbrev pub IsView : Options → Fields → Text → Report → Type 0
IsView options p text = IsViewBy options p (events_at p text)

-- ---- with and without options

abbrev pub IsReplayBy : Bool → Options → Fields → Text → Report → Type 0
IsReplayBy true options = IsView options
IsReplayBy false options = IsReplay

-- a report of `replay`: of what the options show or, without options, of the plain lines
abbrev pub IsReplayed : Options → Fields → Text → Report → Type 0
IsReplayed options = IsReplayBy (has_options options) options

-- ---- the node that is named

-- the result is the node of this name, or `None` without a name; or the line of a name that the
-- plan lacks; or memory ran out
abbrev pub IsFound : Fields → Option Text → Result (Option ℕ) Stop → Type 0
IsFound p name (Ok node) = node_in p name ≡ Some node
IsFound p name (Err (stop.Line line)) = (node_in p name ≡ None) × IsUnknownLine (string_bytes line)
IsFound p name (Err stop.Memory) = ⊤
IsFound p name (Err (stop.Fault fault)) = ⊥
IsFound p name (Err stop.Writer) = ⊥
