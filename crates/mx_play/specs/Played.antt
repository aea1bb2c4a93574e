-- What `play` does.
use Rattle.std.specs.Prelude.{◌≡◌, ℕ, Bool, true, false, List, [], Option, Some, None, Ok, IfSome, if◌then◌else◌}
use Rattle.mx_ricart.specs.Step.{ricart_core}
use Rattle.mx_ricart.specs.Knows.{known_of as ricart_known}
use Rattle.mx_maekawa.specs.Step.{maekawa_core}
use Rattle.mx_maekawa.specs.Knows.{known_of as maekawa_known}
use Rattle.mx_raymond.specs.Step.{raymond_core}
use Rattle.mx_raymond.specs.Knows.{known_of as raymond_known}
use Rattle.mx_plan.specs.Text.{Text}
use Rattle.mx_plan.specs.Fields.{Fields}
use Rattle.mx_plan.specs.declared.shape.Shape.{Shape}
use Rattle.mx_plan.specs.declared.shape.Shape.TheVariants.{Ricart, Maekawa, Raymond}
use Rattle.mx_format.specs.LetterTexts.{ricart_text, maekawa_text, raymond_text}
use Rattle.mx_cli.specs.Frames.{IsRunStatus}
use Rattle.mx_cli.specs.Reading.{IsPlanTold, IsRead, is_dash}
use Rattle.mx_cli.specs.Reports.{Seen}
use Rattle.mx_io.specs.Stored.{Stored}
use Rattle.mx_io.specs.Told.{Telling}
use Rattle.mx_play.specs.Lines.{first_of, session_lines}
use Rattle.mx_play.specs.Plays.{IsPlayed}

-- a session was played in the cluster of the plan, by its algorithm: the lines of a script, and then
-- those that come
abbrev pub IsPlayedBy : Fields → Text → Option (List Text) → Seen → Seen → Stored → Stored → Shape
    → Type 0
IsPlayedBy p script lines old new store store' (Ricart count) =
    IsPlayed ricart_core ricart_text ricart_known p count script lines old new store store'
IsPlayedBy p script lines old new store store' (Maekawa family) =
    IsPlayed maekawa_core maekawa_text maekawa_known p family script lines old new store store'
IsPlayedBy p script lines old new store store' (Raymond tree) =
    IsPlayed raymond_core raymond_text raymond_known p tree script lines old new store store'

-- the plan is that of the first of these lines, by the rules of plans; if the lines are not known,
-- that of some line
abbrev pub IsLinePlan : Option (List Text) → Fields → Type 0
IsLinePlan None p = (line : List ℕ) × IsRead line (Ok p)
IsLinePlan (Some lines) p = IsRead (first_of lines) (Ok p)

-- the plan was read: from the first of the lines that come, or from a source
abbrev pub IsPlanBy : Bool → Option Telling → Option (List Text) → Fields → Type 0
IsPlanBy true told lines p = IsLinePlan lines p
IsPlanBy false told lines p = IsPlanTold told p

-- the plan of this name was read; if that is the name of standard input, from the first of the
-- lines that come
abbrev pub IsPlanNamed : (Text → Option Telling) → Text → Option (List Text) → Fields → Type 0
IsPlanNamed told name lines p = IsPlanBy (is_dash name) (told name) lines p

-- what the source states about the script. The script has no lines if none is named, or if its name
-- is that of standard input
abbrev pub told_of_name : (Text → Option Telling) → Text → Option Telling
told_of_name told name = if is_dash name then Some (Some []) else told name

abbrev pub told_of_script : (Text → Option Telling) → Option Text → Option Telling
told_of_script told None = Some (Some [])
told_of_script told (Some name) = told_of_name told name

-- the script was read, if the source states what it holds
abbrev pub IsScriptOf : Option Telling → Text → Type 0
IsScriptOf told text = IfSome told (λ telling. telling ≡ Some text)

-- the plan and the script of these names were read, and a session was played: the lines of the
-- script, and then those that come, without the plan if it is the first of them
abbrev pub HasPlayed : (Text → Option Telling) → Option (List Text) → Text → Option Text → Seen
    → Seen → Stored → Stored → Type 0
HasPlayed told lines plan first old new store store' =
    (p : Fields) × (script : Text) × IsPlanNamed told plan lines p
    × IsScriptOf (told_of_script told first) script
    × IsPlayedBy p script (session_lines (is_dash plan) lines) old new store store' p.shape

-- with status 0, a session was played, and all that it printed was passed on
pub record Plays (told : Text → Option Telling) (lines : Option (List Text)) (plan : Text)
    (first : Option Text) (old new : Seen) (store store' : Stored) (status : ℕ) : Type 0 where
  pub played : status ≡ 0 → HasPlayed told lines plan first old new store store'
  pub passed : status ≡ 0 → new.kept_back ≡ false
  pub status_is : IsRunStatus status
