use Rattle.std.specs.Prelude.{◌≡◌, ◌≤◌, ℕ, Bool, false, List, [], ◌∷◌, ◌++◌, codes, decimal, map}
use Rattle.std.specs.Io.KnownBytes.{Appends}
use Rattle.std.specs.List.{concat}
use Rattle.mx_plan.specs.Text.{Text, line_feed}
use Rattle.mx_io.specs.Outputs.{Held}

-- the line of progress, with the number of sections completed so far
abbrev pub progress_line : ℕ → Text
progress_line count = codes "mx: " ++ decimal count ++ codes " sections stand" ++ line_feed

abbrev pub progress_lines : List ℕ → Text
progress_lines counts = concat (map progress_line counts)

-- each of the counts, from `low` on, is at least the one before it, and `high` at least the last
abbrev pub RiseTo : ℕ → List ℕ → ℕ → Type 0
RiseTo low [] high = low ≤ high
RiseTo low (count ∷ counts) high = (low ≤ count) × RiseTo count counts high

-- the output got lines of progress, perhaps none, and nothing else; their counts rise to `shown`
abbrev pub Progresses : ℕ → Held → Held → Type 0
Progresses shown old new =
    (counts : List ℕ) × RiseTo 0 counts shown × Appends old new (progress_lines counts)

-- the output got lines of progress whose counts rise, and none if progress was not requested
abbrev pub TellsProgress : Bool → Held → Held → Type 0
TellsProgress asked old new =
    (shown : ℕ) × ((told : Progresses shown old new) × (asked ≡ false → told.0 ≡ []))
