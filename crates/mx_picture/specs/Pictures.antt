-- What `picture` prints.
use Rattle.std.specs.Prelude.{◌≡◌, ℕ, Bool, List, Option, None, Some, Result, Ok, Err, length, option_map}
use Rattle.mx_events.specs.declared.event.Event.{Event}
use Rattle.mx_plan.specs.Text.{Text}
use Rattle.mx_plan.specs.Fields.{Fields}
use Rattle.mx_plan.specs.Events.{events_at}
use Rattle.mx_plan.specs.declared.faults.PlanFault.{PlanFault}
use Rattle.mx_cli.specs.Printing.{End, IsWhole, Report, ends, has_fault, has_line, has_status}
use Rattle.mx_cli.specs.Requests.{Part}
use Rattle.mx_cli.specs.declared.faults.Fault.TheVariants.{BadText}
use Rattle.mx_cli.specs.declared.stop.Stop.{Stop}
use Rattle.mx_driver.specs.Jobs.{run_by}
use Rattle.mx_driver.specs.Viewed.{IsFound, IsUnknownLine, node_in}
use Rattle.mx_picture.specs.Drawn.{IsPicture}
use Rattle.mx_picture.specs.declared.part.ShownPart.{ShownPart as Shown}

-- the part that is shown: of this node, or of all
abbrev pub part_on : Part → Bool → Option ℕ → Shown
part_on part only_letters node =
    record { from = part.from; to = part.to; node = node; only_letters = only_letters }

-- the result is the part with the named node; or the line of a name that the plan lacks; or memory
-- ran out
abbrev pub IsPartOf : Fields → Part → Bool → Result Shown Stop → Type 0
IsPartOf p part only_letters (Ok shown) =
    option_map (part_on part only_letters) (node_in p part.node) ≡ Some shown
IsPartOf p part only_letters (Err stop) = IsFound p part.node (Err stop)

-- only the line that the plan lacks the node
abbrev pub IsUnknown : Report → Type 0
IsUnknown r = (line : Text) × IsUnknownLine line × (r ≡ ends (has_line line))

-- a picture of these events and status 0, if they end well; else their end alone
abbrev pub DrawsEvents : Fields → List Event → End → Report → Type 0
DrawsEvents p es (has_status status) r =
    (picture : Text) × IsPicture p (length es) picture × IsWhole picture 0 r
DrawsEvents p es end r = r ≡ ends end

-- the same of a replay of these events, of a node that the plan has, or of all
abbrev pub IsRunDrawnOn : Fields → List Event → Option (Option ℕ) → Report → Type 0
IsRunDrawnOn p es (Some _) r = DrawsEvents p es (run_by p p.shape es).end r
IsRunDrawnOn p es None r = IsUnknown r

abbrev pub IsRunDrawn : Part → Fields → List Event → Report → Type 0
IsRunDrawn part p es = IsRunDrawnOn p es (node_in p part.node)

abbrev pub IsPicturedBy : Part → Fields → Result (List Event) PlanFault → Report → Type 0
IsPicturedBy part p (Ok es) r = IsRunDrawn part p es r
IsPicturedBy part p (Err fault) r = r ≡ ends (has_fault (BadText fault))

-- a report of `picture`: of the events that a text lists, or of the fault of the text
abbrev pub IsPictured : Part → Fields → Text → Report → Type 0
IsPictured part p text = IsPicturedBy part p (events_at p text)
