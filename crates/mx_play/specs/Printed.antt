-- The lines that only a session prints: of faults, on standard error; of losses, links, undos and
-- files.
use Rattle.std.specs.Prelude.{ℕ, ◌≡◌, ◌++◌, List, [], ◌∷◌, Bool, true, false, Option, Some, None, codes, decimal, length, string_bytes}
use Rattle.std.specs.Io.KnownBytes.{Appends}
use Rattle.mx_io.specs.Outputs.{Held}
use Rattle.mx_member.specs.declared.parcel.Parcel.{Parcel}
use Rattle.mx_lines.specs.Escapes.{shown}
use Rattle.mx_lines.specs.Texts.{fault_text}
use Rattle.mx_lines.specs.declared.errors.LineFault.TheVariants as line_fault
use Rattle.mx_plan.specs.Text.{Text, line_feed}
use Rattle.mx_plan.specs.Fields.{Fields}
use Rattle.mx_format.specs.Lines.{each_text}
use Rattle.mx_format.specs.ParcelTexts.{parcel_text, route_text}
use Rattle.mx_scripts.specs.declared.line_failure.LineFailure.{LineFailure}
use Rattle.mx_scripts.specs.declared.line_failure.LineFailure.TheVariants as failure
use Rattle.mx_play.specs.declared.input_fault.InputFault.{InputFault}
use Rattle.mx_play.specs.declared.session.DoneLine.{DoneLine}
use Rattle.mx_play.specs.declared.input_fault.InputFault.TheVariants as input_fault

-- ---- faults

abbrev pub failure_text : LineFailure → Text
failure_text (failure.WrongWord error) = fault_text error.fault
failure_text (failure.Refused fault) = fault_text fault
failure_text failure.Memory = codes "out of memory"

abbrev pub input_fault_text : InputFault → Text
input_fault_text input_fault.NotText = fault_text line_fault.NotText
input_fault_text (input_fault.Line why) = failure_text why
input_fault_text input_fault.TooLong = codes "more than 65536 bytes"
input_fault_text (input_fault.TooFew lines) =
    codes "only " ++ decimal lines ++ codes " to take back"
input_fault_text input_fault.NoUndo = codes "no undo to take back"
input_fault_text input_fault.Unwritten = codes "cannot write"

-- the line of a fault in line k of a session, with the message about that line
abbrev pub session_line : ℕ → InputFault → Text → Text
session_line k fault message =
    codes "mx: play: line " ++ decimal k ++ codes ": " ++ input_fault_text fault ++ message
    ++ line_feed

-- the text is what is reported of line k: the line of its fault, or nothing if it has none
abbrev pub IsReported : ℕ → Option InputFault → Text → Type 0
IsReported k None text = text ≡ []
IsReported k (Some fault) text = (message : Text) × (text ≡ session_line k fault message)

-- the two texts that standard error gets at a terminal: before the first line that is typed, and
-- before each
abbrev pub aside : Bool → Text
aside true = codes "help lists all lines, end ends the session\n"
aside false = codes "> "

abbrev pub asides : List Bool → Text
asides [] = []
asides (b ∷ bs) = aside b ++ asides bs

-- nothing but these texts, some number of each
abbrev pub AreAsides : Text → Type 0
AreAsides text = (which : List Bool) × (text ≡ asides which)

-- an output got nothing but these texts
abbrev pub GetsAsides : Held → Held → Type 0
GetsAsides out out' = (text : Text) × AreAsides text × Appends out out' text

-- an output got what is reported of line k, which has this fault or none
abbrev pub GetsReport : ℕ → Option InputFault → Held → Held → Type 0
GetsReport k fault out out' = (text : Text) × IsReported k fault text × Appends out out' text

-- ---- losses, undos, and files

-- parcel k is lost
abbrev pub lost_line : {M : Type 0} → (Fields → M → Text) → Fields → ℕ → ℕ × ℕ × Parcel M → Text
lost_line letter_text p k parcel =
    codes "lost " ++ route_text p k parcel.0 parcel.1 ++ codes " "
    ++ parcel_text letter_text p parcel.2 ++ line_feed

abbrev pub lost_text : {M : Type 0} → (Fields → M → Text) → Fields → ℕ
    → Option (ℕ × ℕ × Parcel M) → Text
lost_text letter_text p k None = []
lost_text letter_text p k (Some parcel) = lost_line letter_text p k parcel

-- what was undone or redone: how many lines, and how many events of the cluster
abbrev pub steps_line : Text → ℕ → ℕ → Text
steps_line word lines events =
    word ++ codes ": lines " ++ decimal lines ++ codes ", events " ++ decimal events ++ line_feed

-- a line that was done, as it was typed
abbrev pub typed_line : DoneLine → Text
typed_line line = codes "  " ++ shown (string_bytes line.text) ++ line_feed

-- the same of these lines, and then each of them
abbrev pub steps_text : Text → List DoneLine → ℕ → Text
steps_text word lines events = steps_line word (length lines) events ++ each_text typed_line lines

-- the script was saved in the file of this name
abbrev pub saved_line : Text → Text
saved_line word = codes "saved: " ++ shown word ++ line_feed
