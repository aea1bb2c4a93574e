-- The line of what a node knows, also as JSON.
use Rattle.std.specs.Prelude.{List, ◌++◌, codes, decimal}
use Rattle.mx_knowledge.specs.declared.fact.Item.{Item}
use Rattle.mx_knowledge.specs.declared.fact.Item.TheVariants.{Number, Node, Stamp, Numbered}
use Rattle.mx_knowledge.specs.Facts.{Known}
use Rattle.mx_plan.specs.Text.{Text, line_feed}
use Rattle.mx_plan.specs.Fields.{Fields}
use Rattle.mx_format.specs.EventTexts.{name_of}
use Rattle.mx_format.specs.LetterTexts.{stamp_text}
use Rattle.mx_format.specs.Lines.{each_text, joined}
use Rattle.mx_format.specs.Members.{array_member, node_member, node_start, number_member, number_start, word_start}

-- a value: a number, the name of a node, a stamp, or a name with a number
abbrev pub item_text : Fields → Item → Text
item_text p (Number n) = decimal n
item_text p (Node node) = name_of p node
item_text p (Stamp stamp) = stamp_text p stamp
item_text p (Numbered node n) = name_of p node ++ codes "/" ++ decimal n

abbrev pub fact_text : Fields → Known → Text
fact_text p fact = fact.name ++ each_text (λ item. codes " " ++ item_text p item) fact.items

abbrev pub facts_line : Fields → List Known → Text
facts_line p facts = codes "  " ++ joined (codes ", ") (fact_text p) facts ++ line_feed

-- ---- as JSON

abbrev pub item_json : Fields → Item → Text
item_json p (Number n) = number_start (codes "number") n ++ codes "}"
item_json p (Node node) = node_start p node ++ codes "}"
item_json p (Stamp stamp) =
    number_start (codes "stamp") stamp.number ++ node_member p (codes "of") stamp.node ++ codes "}"
item_json p (Numbered node n) =
    node_start p node ++ number_member (codes "number") n ++ codes "}"

-- a fact: its name, and its values in order
abbrev pub fact_json : Fields → Known → Text
fact_json p fact =
    word_start (codes "fact") fact.name
    ++ array_member (codes "values") (item_json p) fact.items ++ codes "}"

abbrev pub knows_json : Fields → List Known → Text
knows_json p = array_member (codes "knows") (fact_json p)
