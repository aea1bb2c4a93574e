-- The two sides of a partition, and the words that name their nodes: those of the left side, `|`,
-- and those of the right side.
use Rattle.std.specs.Prelude.{ℕ, ◌==◌, ◌+◌, ◌||◌, Bool, true, false, List, [], ◌∷◌, Option, Some, None, Result, Ok, codes, drop, if◌then◌else◌, length, nat_lt, position, replicate, slice_index_or, slice_set, take}
use Rattle.std.specs.Option.{option_map_or}
use Rattle.std.specs.Str.{bytes_eq}
use Rattle.mx_plan.specs.Text.{Text}
use Rattle.mx_lines.specs.Names.{Known}
use Rattle.mx_lines.specs.Refusals.{and_then, refused}
use Rattle.mx_lines.specs.declared.errors.Expected.TheVariants as expected
use Rattle.mx_lines.specs.declared.errors.LineError.{LineError}
use Rattle.mx_lines.specs.declared.errors.LineFault.TheVariants as fault
use Rattle.mx_lines.specs.declared.sides.Side.{Side}
use Rattle.mx_lines.specs.declared.sides.Side.TheVariants.{Left, Right}
use Rattle.mx_lines.specs.declared.sides.Sides.{Sides}

-- the side that a node is on, if it is on one
abbrev pub side_of : Sides → ℕ → Option Side
side_of sides node = slice_index_or sides.of node None

-- no node is on a side
abbrev pub nobody : Sides
nobody = record { of = replicate 21 None }

abbrev pub put_on : Side → ℕ → Sides → Sides
put_on side node sides = record { of = slice_set sides.of node (Some side) }

abbrev pub are_left_and_right : Option Side → Option Side → Bool
are_left_and_right (Some Left) (Some Right) = true
are_left_and_right _ _ = false

-- the link from one node to another leads from the left side to the right side
abbrev pub crosses : Sides → ℕ → ℕ → Bool
crosses sides one other = are_left_and_right (side_of sides one) (side_of sides other)

-- ---- words

abbrev pub is_opposite : Side → Option Side → Bool
is_opposite Left (Some Right) = true
is_opposite Right (Some Left) = true
is_opposite _ _ = false

-- a node is put on a side, and may be there already; if it is on the opposite side, the word at this
-- place is wrong
abbrev pub put_node : Side → ℕ → Sides → ℕ → Result Sides LineError
put_node side place sides node =
    if is_opposite side (side_of sides node) then refused fault.OnBothSides place expected.OtherNode
    else Ok (put_on side node sides)

abbrev pub is_bar : Text → Bool
is_bar word = bytes_eq word (codes "|")

module _ (names : Known) where
  -- the node that the word at this place names is put on a side
  abbrev pub put_named : Side → ℕ → Text → Sides → Result Sides LineError
  put_named side place word sides =
      option_map_or (put_node side place sides) (position (bytes_eq word) names.nodes)
      (refused fault.NoNode place expected.Node)

  -- all nodes that these words name are put on a side; the first word is at this place
  abbrev pub all_put : Side → ℕ → List Text → Sides → Result Sides LineError
  all_put side place [] sides = Ok sides
  all_put side place (word ∷ words) sides =
      and_then (put_named side place word sides) (all_put side (place + 1) words)

  -- the sides that these words name, which follow the word at this place; `bar` is the index of `|`.
  -- A word has to stand before it, and one after it
  abbrev pub sides_at : ℕ → List Text → ℕ → Result Sides LineError
  sides_at place words bar =
      if (bar == 0) || nat_lt (length words) (bar + 2)
      then refused fault.WordCount place expected.Sides
      else and_then (all_put Left (place + 1) (take bar words) nobody)
      (all_put Right (place + bar + 2) (drop (bar + 1) words))

  -- the same, where `|` is the first of these words that is one
  abbrev pub sides_of : ℕ → List Text → Result Sides LineError
  sides_of place words =
      option_map_or (sides_at place words) (position is_bar words)
      (refused fault.WordCount place expected.Sides)
