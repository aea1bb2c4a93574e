-- The lines of a report, and its text.
use Rattle.std.specs.Prelude.{◌≡◌, ◌==◌, ◌||◌, ◌++◌, ◌⊎◌, Bool, true, false, List, [], ◌∷◌, codes, if◌then◌else◌}
use Rattle.mx_plan.specs.Text.{Text}
use Rattle.mx_lines.specs.Escapes.{ArePrintable, IsPrintable, shown}

-- ---- lines

-- whether a text has a colon
abbrev pub has_colon : Text → Bool
has_colon [] = false
has_colon (b ∷ bs) = (b == 58) || has_colon bs

-- the text of a line is printable, and has a colon
pub record IsReportLine (text : Text) : Type 0 where
  pub printable : ArePrintable text
  pub colon : has_colon text ≡ true

abbrev pub AreLines : List Text → Type 0
AreLines [] = Unit {0}
AreLines (l ∷ ls) = IsReportLine l × AreLines ls

-- each line, and a line feed after it
abbrev pub lines_text : List Text → Text
lines_text [] = []
lines_text (l ∷ ls) = l ++ 10 ∷ lines_text ls

-- a line of a report: the file, a colon and the message, with control characters escaped
abbrev pub line_text : Text → Text → Text
line_text file message = shown file ++ codes ":" ++ shown message

-- ---- reports

-- the text of a report is lines
pub record IsReportText (text : Text) : Type 0 where
  pub lines : List Text
  pub each : AreLines lines
  pub are : text ≡ lines_text lines

-- a line about this file is added, and the earlier ones stay
abbrev pub AddsLine : Text → Text → Text → Text → Type 0
AddsLine file message old new = new ≡ old ++ (line_text file message ++ 10 ∷ [])

-- ---- texts

abbrev pub nothing_at_fault : Text
nothing_at_fault = codes "nothing is at fault"

-- the lines of a report without faults, and one that says so
abbrev pub report_text : Text → Text
report_text lines = lines ++ (nothing_at_fault ++ 10 ∷ [])

-- the last complete line of a text that goes on after the complete line `last` and the start
-- `begun` of the next one
abbrev pub line_after : Text → Text → Text → Text
line_after last begun [] = last
line_after last begun (b ∷ bs) = if b == 10 then line_after begun [] bs else line_after last (begun ++ b ∷ []) bs

-- the last complete line of a text; nothing if there is none
unfoldable pub last_line : Text → Text
last_line text = line_after [] [] text

-- printable lines: each byte is printable or a line feed
abbrev pub AreShown : Text → Type 0
AreShown [] = Unit {0}
AreShown (b ∷ bs) = ((b ≡ 10) ⊎ IsPrintable b) × AreShown bs
