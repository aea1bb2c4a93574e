-- What the letters of each algorithm say, part by part.
use Rattle.std.specs.Prelude.{ℕ, List, [], ◌∷◌, codes}
use Rattle.mx_stamps.specs.declared.stamp.Stamp.{Stamp}
use Rattle.mx_letters.specs.declared.ricart.RicartMsg.{RicartMsg}
use Rattle.mx_letters.specs.declared.ricart.RicartMsg.TheVariants as ricart
use Rattle.mx_letters.specs.declared.maekawa.MaekawaMsg.{MaekawaMsg}
use Rattle.mx_letters.specs.declared.maekawa.MaekawaMsg.TheVariants as maekawa
use Rattle.mx_letters.specs.declared.raymond.RaymondMsg.{RaymondMsg}
use Rattle.mx_letters.specs.declared.raymond.RaymondMsg.TheVariants as raymond
use Rattle.mx_plan.specs.Text.{Text}
use Rattle.mx_format.specs.declared.parts.LetterParts.{LetterParts}
use Rattle.mx_format.specs.declared.parts.Numbers.{Numbers}
use Rattle.mx_format.specs.declared.parts.Numbers.TheVariants.{None, One, Two}
use Rattle.mx_format.specs.declared.parts.Style.{Style}
use Rattle.mx_format.specs.declared.parts.Style.TheVariants as drawn
use Rattle.mx_format.specs.declared.parts.Subject.{Subject}
use Rattle.mx_format.specs.declared.parts.Subject.TheVariants.{Stamp as StampOf, Number}

-- a number with its name
abbrev pub Named : Type 0
Named = Text × ℕ

-- what a letter is about: a request, by its stamp, or a number of its sender
pub data About : Type 0 where
  request : Stamp → About
  number : Named → About

-- the parts of a letter: its word, what it is about, its further numbers, and how pictures draw it
pub record Parts : Type 0 where
  pub word : Text
  pub about : About
  pub numbers : List Named
  pub style : Style

abbrev pub word_by : {M : Type 0} → (M → Parts) → M → Text
word_by parts letter = (parts letter).word

-- ---- the parts of a letter in the code

abbrev pub subject_of : Subject → About
subject_of (StampOf stamp) = request stamp
subject_of (Number name n) = number (name.now, n)

abbrev pub numbers_of : Numbers → List Named
numbers_of None = []
numbers_of (One name n) = (name.now, n) ∷ []
numbers_of (Two name n second m) = (name.now, n) ∷ (second.now, m) ∷ []

abbrev pub parts_of : LetterParts → Parts
parts_of l = record {
  word = l.word.now;
  about = subject_of l.subject;
  numbers = numbers_of l.numbers;
  style = l.style;
}

-- ---- the letters of each algorithm

abbrev pub parts : Text → About → List Named → Style → Parts
parts word about numbers style =
    record { word = word; about = about; numbers = numbers; style = style }

-- the parts of a letter about a request
abbrev pub of_request : Text → Stamp → List Named → Style → Parts
of_request word stamp = parts word (request stamp)

-- the parts of a letter about a number of its sender
abbrev pub of_number : Text → Named → List Named → Style → Parts
of_number word named = parts word (number named)

abbrev pub ricart_parts : RicartMsg → Parts
ricart_parts (ricart.Request stamp) = of_request (codes "request") stamp [] drawn.Request
ricart_parts (ricart.Reply stamp top) =
    of_request (codes "reply") stamp ((codes "top", top) ∷ []) drawn.Grant

abbrev pub maekawa_parts : MaekawaMsg → Parts
maekawa_parts (maekawa.Request stamp) = of_request (codes "request") stamp [] drawn.Request
maekawa_parts (maekawa.Locked stamp grant last) =
    of_request (codes "locked") stamp ((codes "grant", grant) ∷ (codes "last", last) ∷ [])
    drawn.Grant
maekawa_parts (maekawa.Failed stamp) = of_request (codes "failed") stamp [] drawn.Other
maekawa_parts (maekawa.Inquire stamp grant) =
    of_request (codes "inquire") stamp ((codes "grant", grant) ∷ []) drawn.Other
maekawa_parts (maekawa.Relinquish stamp grant) =
    of_request (codes "relinquish") stamp ((codes "grant", grant) ∷ []) drawn.Other
maekawa_parts (maekawa.Release stamp top) =
    of_request (codes "release") stamp ((codes "top", top) ∷ []) drawn.Other

abbrev pub raymond_parts : RaymondMsg → Parts
raymond_parts (raymond.Request r) =
    of_number (codes "request") (codes "number", r) [] drawn.Request
raymond_parts (raymond.Privilege hop last) =
    of_number (codes "privilege") (codes "hop", hop) ((codes "last", last) ∷ []) drawn.Grant
raymond_parts (raymond.Got hop) = of_number (codes "got") (codes "hop", hop) [] drawn.Other

-- ---- the words of each algorithm's letters, in the order in which they are counted

abbrev pub ricart_words : List Text
ricart_words = codes "request" ∷ codes "reply" ∷ []

abbrev pub maekawa_words : List Text
maekawa_words =
    codes "request" ∷ codes "locked" ∷ codes "failed" ∷ codes "inquire" ∷ codes "relinquish"
    ∷ codes "release" ∷ []

abbrev pub raymond_words : List Text
raymond_words = codes "request" ∷ codes "privilege" ∷ codes "got" ∷ []
