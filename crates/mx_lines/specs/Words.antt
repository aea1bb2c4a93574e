use Rattle.std.specs.Prelude.{◌≡◌, ◌==◌, ⊤, List}
use Rattle.std.specs.Borrow.{Bor}
use Rattle.std.specs.Iterator.{DrainsIf}
use Rattle.std.specs.List.{before_first}
use Rattle.std.specs.Str.Iter.{split_whitespace_rest, split_whitespace_steps}
use Rattle.std.specs.declared.str.SplitWhitespace.{SplitWhitespace}
use Rattle.mx_plan.specs.Text.{Text}

-- the part of a line before its comment, which begins with `#`
abbrev pub before_comment : Text → Text
before_comment line = before_first (λ byte. byte == 35) line

-- the words of a text: the parts that white space separates
abbrev pub AreWords : Text → List (Bor Text) → Type 0
AreWords text words =
    (it : SplitWhitespace) × (split_whitespace_rest it ≡ text)
    × DrainsIf split_whitespace_steps ⊤ it words
