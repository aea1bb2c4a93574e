-- What is read from a source: a plan, and the text that comes with it (events, a script or a
-- trace); and why it is refused.
use Rattle.std.specs.Prelude.{◌≡◌, ◌⊎◌, ◌&&◌, ◌==◌, ℕ, ⊤, Bool, List, Option, Some, None, Result, Ok, Err, Vec, IfOk, IfSome, codes, if◌then◌else◌, option_map}
use Rattle.std.specs.List.{after_first, before_first}
use Rattle.std.specs.Str.{bytes_eq}
use Rattle.std.specs.declared.alloc.Global.{Global}
use Rattle.mx_plan.specs.Text.{Text}
use Rattle.mx_plan.specs.Fields.{Fields, IsPlan}
use Rattle.mx_plan.specs.Plans.{IsOutcome, draft_at}
use Rattle.mx_plan.specs.declared.needs.Needs.{Needs}
use Rattle.mx_plan.specs.declared.needs.Needs.TheVariants.{All}
use Rattle.mx_plan.specs.declared.faults.PlanFault.{PlanFault}
use Rattle.mx_cli.specs.declared.faults.Fault.TheVariants.{CannotRead}
use Rattle.mx_cli.specs.declared.faults.Named.{Named}
use Rattle.mx_cli.specs.declared.faults.Named.TheVariants.{Plan, Events}
use Rattle.mx_cli.specs.declared.planning.PlanAndText.{PlanAndText}
use Rattle.mx_cli.specs.declared.stop.Stop.{Stop}
use Rattle.mx_cli.specs.declared.stop.Stop.TheVariants as stop
use Rattle.mx_cli.specs.Printing.{stop_at}
use Rattle.mx_io.specs.Told.{Telling}

-- the name is that of standard input
abbrev pub is_dash : Text → Bool
is_dash name = bytes_eq name (codes "-")

-- the plan in a text that also has what comes with the plan: the bytes before its first line feed
abbrev pub line_of : Telling → Telling
line_of = option_map (λ bytes. before_first (λ b. b == 10) bytes)

-- what comes with the plan in such a text: the bytes after its first line feed
abbrev pub rest_of : Telling → Telling
rest_of = option_map (λ bytes. after_first (λ b. b == 10) bytes)

-- what the source states about the plan, the first of two names. If both are standard input, the
-- plan is its first line
abbrev pub plan_told : (Text → Option Telling) → Text × Text → Option Telling
plan_told told names =
    if is_dash names.0 && is_dash names.1 then option_map line_of (told names.0) else told names.0

-- what the source states about the text that comes with the plan, the second of two names
abbrev pub text_told : (Text → Option Telling) → Text × Text → Option Telling
text_told told names =
    if is_dash names.0 && is_dash names.1 then option_map rest_of (told names.0) else told names.1

-- the bytes of a name were fetched, as the source states them; or the name can't be read, or memory
-- ran out
abbrev pub Fetches : Named → Telling → Result (Vec ℕ Global) Stop → Type 0
Fetches named (Some bytes) (Ok v) = v.items ≡ bytes
Fetches named None (Ok v) = ⊥
Fetches named (Some bytes) (Err fault) = fault ≡ stop.Memory
Fetches named None (Err fault) = (fault ≡ stop.Fault (CannotRead named)) ⊎ (fault ≡ stop.Memory)

-- what the bytes of a plan give by the rules of plans with these needs: a plan, with the properties
-- of every plan, or a fault
pub record IsReadFor (needs : Needs) (bytes : List ℕ) (planned : Result Fields PlanFault)
    : Type 0 where
  pub outcome : IsOutcome (draft_at needs bytes) planned
  pub valid : IfOk planned IsPlan

-- why nothing is read: a fault, or that memory ran out
abbrev pub IsUnread : Stop → Type 0
IsUnread (stop.Fault fault) = ⊤
IsUnread (stop.Line line) = ⊥
IsUnread stop.Writer = ⊥
IsUnread stop.Memory = ⊤

-- a plan was read from what the source holds, or this is why it was not
abbrev pub ReadsFor : Needs → Telling → Result Fields Stop → Type 0
ReadsFor needs None (Ok p) = ⊥
ReadsFor needs None (Err end) = (end ≡ stop.Fault (CannotRead Plan)) ⊎ (end ≡ stop.Memory)
ReadsFor needs (Some bytes) (Ok p) = IsReadFor needs bytes (Ok p)
ReadsFor needs (Some bytes) (Err end) =
    (end ≡ stop.Memory) ⊎ ((fault : PlanFault) × IsReadFor needs bytes (Err fault)
    × (end ≡ stop_at fault))

-- the plan was read, if the source states what it holds
abbrev pub IsPlanFor : Needs → Option Telling → Fields → Type 0
IsPlanFor needs told p = IfSome told (λ telling. ReadsFor needs telling (Ok p))

-- a plan was read, and the text that comes with it was fetched; or the plan was not read; or the
-- plan was, and the text was not fetched
abbrev pub ReadsBoth : Needs → Option Telling → Option Telling → Result PlanAndText Stop → Type 0
ReadsBoth needs plan text (Ok both) =
    IsPlanFor needs plan both.plan × IfSome text (λ telling. telling ≡ Some both.text.items)
ReadsBoth needs plan text (Err end) =
    IfSome plan (λ telling. ReadsFor needs telling (Err end))
    ⊎ ((p : Fields) × IsPlanFor needs plan p
    × IfSome text (λ telling. Fetches Events telling (Err end)))

-- ---- the same for plans that need all keys

abbrev pub IsRead : List ℕ → Result Fields PlanFault → Type 0
IsRead = IsReadFor All

abbrev pub Reads : Telling → Result Fields Stop → Type 0
Reads = ReadsFor All

abbrev pub IsPlanTold : Option Telling → Fields → Type 0
IsPlanTold = IsPlanFor All
