-- What a line with `expect` says of the last event.
use Rattle.std.specs.Prelude.{◌≡◌, ◌⊎◌, ◌&&◌, ◌||◌, ◌++◌, Bool, true, false, List, [], ◌∷◌, bytes_eq, codes}
use Rattle.std.specs.Borrow.{Bor}
use Rattle.mx_trace.specs.declared.outcome.Entry.{Entry}
use Rattle.mx_trace.specs.declared.outcome.Outcome.{Outcome}
use Rattle.mx_trace.specs.declared.outcome.Outcome.TheVariants.{Refused}
use Rattle.mx_plan.specs.Text.{Text}
use Rattle.mx_format.specs.EventTexts.{outcome_text}
use Rattle.mx_format.specs.Lines.{joined}
use Rattle.mx_lines.specs.Names.{texts_of}
use Rattle.mx_lines.specs.Words.{AreWords, before_comment}
use Rattle.mx_lines.specs.declared.errors.LineFault.TheVariants.{NoEvent, OtherOutcome}
use Rattle.mx_scripts.specs.declared.line_failure.LineFailure.{LineFailure}
use Rattle.mx_scripts.specs.declared.line_failure.LineFailure.TheVariants as failure

-- the words after the first, with a space between them
abbrev pub text_after_first : List Text → Text
text_after_first [] = []
text_after_first (word ∷ words) = joined (codes " ") (λ text. text) words

-- the line expects an outcome with this text: that is its words after the first
abbrev pub Expects : Text → Text → Type 0
Expects line text =
    (words : List (Bor Text)) × AreWords (before_comment line) words
    × (text ≡ text_after_first (texts_of words))

abbrev pub is_refusal : Outcome → Bool
is_refusal (Refused cause) = true
is_refusal _ = false

-- the text is that of the outcome, as `replay` prints it, or `refused` of any refusal
abbrev pub accepts : Outcome → Text → Bool
accepts outcome text =
    is_refusal outcome && bytes_eq text (codes "refused")
    || bytes_eq (outcome_text outcome) text

-- the newest item of the trace, whose outcome the line accepts or not, as `is_met` says
abbrev pub Compares : Bool → Text → List Entry → Type 0
Compares is_met line trace =
    (before : List Entry) × (newest : Entry) × (trace ≡ before ++ newest ∷ [])
    × (text : Text) × Expects line text × (accepts newest.outcome text ≡ is_met)

-- the line accepts the outcome of the newest item
abbrev pub IsMet : Text → List Entry → Type 0
IsMet = Compares true

-- why it does not: there is no item, or its outcome is another one
abbrev pub IsNotMet : Text → List Entry → LineFailure → Type 0
IsNotMet line trace why =
    ((trace ≡ []) × (why ≡ failure.Refused NoEvent))
    ⊎ (Compares false line trace × (why ≡ failure.Refused OtherOutcome))
