-- The texts of letters, also as JSON. Each is a function of the letter's parts.
use Rattle.std.specs.Prelude.{◌++◌, List, codes, decimal}
use Rattle.mx_stamps.specs.declared.stamp.Stamp.{Stamp}
use Rattle.mx_letters.specs.declared.ricart.RicartMsg.{RicartMsg}
use Rattle.mx_letters.specs.declared.maekawa.MaekawaMsg.{MaekawaMsg}
use Rattle.mx_letters.specs.declared.raymond.RaymondMsg.{RaymondMsg}
use Rattle.mx_plan.specs.Text.{Text}
use Rattle.mx_plan.specs.Fields.{Fields}
use Rattle.mx_format.specs.declared.parts.LetterParts.{LetterParts}
use Rattle.mx_format.specs.EventTexts.{name_of}
use Rattle.mx_format.specs.Lines.{each_text}
use Rattle.mx_format.specs.Members.{node_member, number_member, word_member}
use Rattle.mx_format.specs.Parts.{About, Named, Parts, request, number, parts_of, ricart_parts, maekawa_parts, raymond_parts}

abbrev pub stamp_text : Fields → Stamp → Text
stamp_text p stamp = decimal stamp.number ++ codes "." ++ name_of p stamp.node

-- what a letter is about: a stamp, or a number without its name
abbrev pub subject_text : Fields → About → Text
subject_text p (request stamp) = stamp_text p stamp
subject_text p (number named) = decimal named.1

abbrev pub numbers_text : List Named → Text
numbers_text = each_text (λ named. codes " " ++ named.0 ++ codes " " ++ decimal named.1)

abbrev pub parts_text : Fields → Parts → Text
parts_text p said =
    said.word ++ codes " " ++ subject_text p said.about ++ numbers_text said.numbers

-- the text of a letter of these parts
abbrev pub said_text : Fields → LetterParts → Text
said_text p said = parts_text p (parts_of said)

-- the text of a letter, by its parts
abbrev pub letter_text : {M : Type 0} → (M → Parts) → Fields → M → Text
letter_text parts p letter = parts_text p (parts letter)

abbrev pub ricart_text : Fields → RicartMsg → Text
ricart_text = letter_text ricart_parts

abbrev pub maekawa_text : Fields → MaekawaMsg → Text
maekawa_text = letter_text maekawa_parts

abbrev pub raymond_text : Fields → RaymondMsg → Text
raymond_text = letter_text raymond_parts

-- ---- as JSON

-- what a letter is about: the number and the node of a stamp, or a number with its name
abbrev pub about_json : Fields → About → Text
about_json p (request stamp) =
    number_member (codes "stamp") stamp.number ++ node_member p (codes "of") stamp.node
about_json p (number named) = number_member named.0 named.1

abbrev pub numbers_json : List Named → Text
numbers_json = each_text (λ named. number_member named.0 named.1)

abbrev pub letter_json : Fields → Parts → Text
letter_json p said =
    word_member (codes "kind") said.word ++ about_json p said.about ++ numbers_json said.numbers
