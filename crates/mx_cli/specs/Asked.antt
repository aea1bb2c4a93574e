-- Which names are read from a source, if a plan is read with the text that comes with it (events, a
-- script or a trace).
use Rattle.std.specs.Prelude.{◌⊎◌, ◌&&◌, Bool, true, false, List, [], ◌∷◌, Option, Result, Ok, Err}
use Rattle.mx_plan.specs.Text.{Text}
use Rattle.mx_io.specs.Told.{Asks}
use Rattle.mx_cli.specs.Reading.{is_dash}
use Rattle.mx_cli.specs.declared.planning.PlanAndText.{PlanAndText}
use Rattle.mx_cli.specs.declared.stop.Stop.{Stop}

-- both names were read once, the plan's first; on an error, perhaps only the plan's was
abbrev pub AsksInTurn : Text × Text → Option (List Text) → Option (List Text)
    → Result PlanAndText Stop → Type 0
AsksInTurn names old new (Ok both) = Asks old new (names.0 ∷ names.1 ∷ [])
AsksInTurn names old new (Err end) =
    Asks old new (names.0 ∷ []) ⊎ Asks old new (names.0 ∷ names.1 ∷ [])

-- one name was read, once for both; or both names were read, one after the other
abbrev pub AsksBy : Bool → Text × Text → Option (List Text) → Option (List Text)
    → Result PlanAndText Stop → Type 0
AsksBy true names old new result = Asks old new (names.0 ∷ [])
AsksBy false names old new result = AsksInTurn names old new result

-- standard input was read once, if both are its name; else both names were read, one after the
-- other
abbrev pub AsksBoth : Text × Text → Option (List Text) → Option (List Text)
    → Result PlanAndText Stop → Type 0
AsksBoth names old new result = AsksBy (is_dash names.0 && is_dash names.1) names old new result
