-- The lines of a session.
use Rattle.std.specs.Prelude.{ℕ, ◌≡◌, ◌≤◌, ◌<◌, ◌==◌, ⊤, Bool, true, false, List, [], ◌∷◌, Option, Some, None, IfSome, length, option_map, if◌then◌else◌}
use Rattle.mx_plan.specs.Text.{Text}
use Rattle.mx_play.specs.declared.line_sources.LineRead.{LineRead}
use Rattle.mx_play.specs.declared.line_sources.LineRead.TheVariants.{Line, TooLong, End, Unreadable}
use Rattle.mx_play.specs.declared.line_sources.TheConstants.{MAX_LINE}

-- these lines, with a byte put before the first; if there are none, a line of that byte alone
abbrev pub before_lines : ℕ → List Text → List Text
before_lines b [] = (b ∷ []) ∷ []
before_lines b (line ∷ lines) = (b ∷ line) ∷ lines

-- the lines of a text, without the line feeds that end them; the last line may have none
abbrev pub lines_of : Text → List Text
lines_of [] = []
lines_of (b ∷ bs) = if b == 10 then [] ∷ lines_of bs else before_lines b (lines_of bs)

-- the first of these lines; nothing if there is none
abbrev pub first_of : List Text → Text
first_of [] = []
first_of (line ∷ lines) = line

abbrev pub after_line : List Text → List Text
after_line [] = []
after_line (line ∷ lines) = lines

-- if the lines are known, this line is the first of them, and the others are still to come
abbrev pub IsFirstLine : Text → Option (List Text) → Option (List Text) → Type 0
IsFirstLine line None rest = ⊤
IsFirstLine line (Some lines) rest =
    (others : List Text) × (lines ≡ line ∷ others) × (rest ≡ Some others)

-- the first of these lines was read into the buffer, or is too long; or the end was read, since
-- there are no lines; or they could not be read
abbrev pub ReadsNext : Option (List Text) → LineRead → Text → Option (List Text) → Type 0
ReadsNext lines Line buffer rest = (length buffer ≤ MAX_LINE) × IsFirstLine buffer lines rest
ReadsNext lines TooLong buffer rest =
    (line : Text) × (MAX_LINE < length line) × IsFirstLine line lines rest
ReadsNext lines End buffer rest =
    (buffer ≡ []) × IfSome lines (λ known. (known ≡ []) × (rest ≡ Some []))
ReadsNext lines Unreadable buffer rest = ⊤

-- the lines of a session, of those that come: all, or all but the first, if that is the plan
abbrev pub session_lines : Bool → Option (List Text) → Option (List Text)
session_lines true lines = option_map after_line lines
session_lines false lines = lines

-- these lines, if they are known, are those that are still to come
abbrev pub AreLeft : Option (List Text) → Option (List Text) → Type 0
AreLeft lines rest = IfSome lines (λ known. rest ≡ Some known)
