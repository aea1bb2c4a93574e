-- Which files a session reads.
use Rattle.std.specs.Prelude.{◌⊎◌, ◌++◌, List, [], ◌∷◌, Option, None, Some, if◌then◌else◌}
use Rattle.mx_plan.specs.Text.{Text}
use Rattle.mx_io.specs.Told.{Asks}
use Rattle.mx_cli.specs.Reading.{is_dash}

-- the file of this name. Standard input is none: its lines are read as they come
abbrev pub file_of : Text → List Text
file_of name = if is_dash name then [] else name ∷ []

-- the file of a script, if one is named
abbrev pub files_in : Option Text → List Text
files_in None = []
files_in (Some name) = file_of name

-- each file was read at most once, the plan's first
abbrev pub AsksStart : Text → Option Text → Option (List Text) → Option (List Text) → Type 0
AsksStart plan script old new =
    Asks old new (file_of plan) ⊎ Asks old new (file_of plan ++ files_in script)
