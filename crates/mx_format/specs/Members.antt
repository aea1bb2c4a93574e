-- Members of objects of JSON. No name of a plan, and no word here, has a character that JSON
-- escapes.
use Rattle.std.specs.Prelude.{ℕ, ◌++◌, List, codes, decimal}
use Rattle.mx_plan.specs.Text.{Text}
use Rattle.mx_plan.specs.Fields.{Fields}
use Rattle.mx_format.specs.EventTexts.{name_of, register_name_of}
use Rattle.mx_format.specs.Lines.{joined}

-- the start of an object, whose first member is a text
abbrev pub word_start : Text → Text → Text
word_start key word = codes "{\"" ++ key ++ codes "\":\"" ++ word ++ codes "\""

-- the start of an object, whose first member is a number
abbrev pub number_start : Text → ℕ → Text
number_start key number = codes "{\"" ++ key ++ codes "\":" ++ decimal number

-- the start of an object, whose first member is the name of a node
abbrev pub node_start : Fields → ℕ → Text
node_start p node = word_start (codes "node") (name_of p node)

-- a member whose value is a text, after a comma
abbrev pub word_member : Text → Text → Text
word_member key word = codes ",\"" ++ key ++ codes "\":\"" ++ word ++ codes "\""

-- a member whose value is a number, after a comma
abbrev pub number_member : Text → ℕ → Text
number_member key number = codes ",\"" ++ key ++ codes "\":" ++ decimal number

-- a member whose value is the name of a node
abbrev pub node_member : Fields → Text → ℕ → Text
node_member p key node = word_member key (name_of p node)

-- a member whose value is the name of a register
abbrev pub register_member : Fields → ℕ → Text
register_member p register = word_member (codes "register") (register_name_of p register)

-- a member whose value is an array, after a comma
abbrev pub array_member : {X : Type 0} → Text → (X → Text) → List X → Text
array_member key f xs = codes ",\"" ++ key ++ codes "\":[" ++ joined (codes ",") f xs ++ codes "]"
