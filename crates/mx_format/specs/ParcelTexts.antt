-- The lines of parcels, also as objects of JSON.
use Rattle.std.specs.Prelude.{ℕ, List, ◌++◌, codes, decimal}
use Rattle.mx_journal.specs.declared.ranges.Range.{Range}
use Rattle.mx_journal.specs.declared.records.Record.{Record}
use Rattle.mx_journal.specs.Bases.{BaseState}
use Rattle.mx_member.specs.declared.parcel.Parcel.{Parcel}
use Rattle.mx_member.specs.declared.parcel.Parcel.TheVariants.{Guard, Want, Base, Records}
use Rattle.mx_plan.specs.Text.{Text, line_feed}
use Rattle.mx_plan.specs.Fields.{Fields}
use Rattle.mx_format.specs.EventTexts.{name_of}
use Rattle.mx_format.specs.LetterTexts.{letter_json}
use Rattle.mx_format.specs.Lines.{each_text, texts_from}
use Rattle.mx_format.specs.Members.{array_member, node_member, number_member, number_start, word_member}
use Rattle.mx_format.specs.Parts.{Parts}

abbrev pub range_text : Range → Text
range_text range = decimal range.first ++ codes ".." ++ decimal range.last

abbrev pub range_json : Range → Text
range_json range =
    codes "[" ++ decimal range.first ++ codes "," ++ decimal range.last ++ codes "]"

-- a record, in a line and as JSON: only its number
abbrev pub record_text : Record → Text
record_text entry = decimal entry.number

abbrev pub want_text : List Range → Text
want_text ranges = codes "want" ++ each_text (λ range. codes " " ++ range_text range) ranges

abbrev pub records_text : List Record → Text
records_text records =
    codes "records" ++ each_text (λ entry. codes " " ++ record_text entry) records

-- a base: only the number of its last section
abbrev pub base_text : BaseState → Text
base_text base = codes "base " ++ decimal base.upto

-- the number of the k-th parcel, its sender and its addressee
abbrev pub route_text : Fields → ℕ → ℕ → ℕ → Text
route_text p k from to =
    codes "#" ++ decimal k ++ codes " " ++ name_of p from ++ codes ">" ++ name_of p to

module _ {M : Type 0} (letter_text : Fields → M → Text) (p : Fields) where
  abbrev pub parcel_text : Parcel M → Text
  parcel_text (Guard letter) = letter_text p letter
  parcel_text (Want ranges) = want_text ranges.items
  parcel_text (Base base) = base_text base
  parcel_text (Records records) = records_text records.items

  -- the line of the k-th parcel
  abbrev pub parcel_line : ℕ → ℕ × ℕ × Parcel M → Text
  parcel_line k parcel =
      codes "  " ++ route_text p k parcel.0 parcel.1 ++ codes " " ++ parcel_text parcel.2
      ++ line_feed

  -- the lines of parcels; the first parcel is the k-th
  abbrev pub parcel_lines : ℕ → List (ℕ × ℕ × Parcel M) → Text
  parcel_lines = texts_from parcel_line

-- ---- as JSON

module _ {M : Type 0} (parts : M → Parts) (p : Fields) where
  -- the members of a parcel that follow its nodes
  abbrev pub content_json : Parcel M → Text
  content_json (Guard letter) = letter_json p (parts letter)
  content_json (Want ranges) =
      word_member (codes "kind") (codes "want")
      ++ array_member (codes "ranges") range_json ranges.items
  content_json (Base base) =
      word_member (codes "kind") (codes "base") ++ number_member (codes "upto") base.upto
  content_json (Records records) =
      word_member (codes "kind") (codes "records")
      ++ array_member (codes "numbers") record_text records.items

  -- the line of the k-th parcel: an object
  abbrev pub parcel_json : ℕ → ℕ × ℕ × Parcel M → Text
  parcel_json k parcel =
      number_start (codes "parcel") k ++ node_member p (codes "from") parcel.0
      ++ node_member p (codes "to") parcel.1 ++ content_json parcel.2 ++ codes "}\n"
