-- The only reasons for status 1 of `play`.
use Rattle.std.specs.Prelude.{ℕ, ◌≡◌, ◌≤◌, Bool, true, false, List, Option, Some, Err, IsSomeAnd, length}
use Rattle.mx_plan.specs.Text.{Text}
use Rattle.mx_cli.specs.Reading.{Reads, is_dash}
use Rattle.mx_cli.specs.declared.stop.Stop.{Stop}
use Rattle.mx_cli.specs.declared.stop.Stop.TheVariants as stop
use Rattle.mx_io.specs.Told.{Telling}
use Rattle.mx_play.specs.Lines.{first_of}
use Rattle.mx_play.specs.Played.{told_of_script}
use Rattle.mx_play.specs.Stops.{AreReadableLines}
use Rattle.mx_play.specs.declared.line_sources.TheConstants.{MAX_LINE}

-- it is a plan, and one without a fault: only memory can run out while it is read
abbrev pub HasNoFault : Telling → Type 0
HasNoFault telling = (end : Stop) → Reads telling (Err end) → end ≡ stop.Memory

-- the lines are known, and the first is such a plan
abbrev pub IsLineStated : Option (List Text) → Type 0
IsLineStated lines =
    IsSomeAnd lines
    (λ known. (length (first_of known) ≤ MAX_LINE) × HasNoFault (Some (first_of known)))

-- such a plan is stated: as the first of the lines, or by a source
abbrev pub IsPlanStated : Bool → Option Telling → Option (List Text) → Type 0
IsPlanStated true told lines = IsLineStated lines
IsPlanStated false told lines = IsSomeAnd told HasNoFault

-- it is stated that something can be read
abbrev pub IsStated : Option Telling → Type 0
IsStated told = IsSomeAnd told (λ telling. (text : Text) × (telling ≡ Some text))

-- the plan and the script of these names are stated, and each line can be read
pub record CanBeRead (told : Text → Option Telling) (lines : Option (List Text))
    (left : Option ℕ) (plan : Text) (first : Option Text) : Type 0 where
  pub plan_stated : IsPlanStated (is_dash plan) (told plan) lines
  pub script_stated : IsStated (told_of_script told first)
  pub readable : AreReadableLines left
