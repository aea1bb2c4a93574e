-- The words of a partition, one after another.
use Rattle.std.proofs.Common.{◌≡◌, ◌≢◌, ◌∙◌, ◌+◌, ◌-◌, ◌≤◌, ◌<◌, ◌==◌, ◌||◌, ℕ, false, List, Ok, Err, Result, length, take, drop, get_or, ap, sym, refl, arith}
use Rattle.std.specs.Prelude.{IsErrAnd, Option, nat_lt, position}
use Rattle.std.specs.Option.{option_map_or}
use Rattle.mx_plan.proofs.Lists.{position-map}
use Rattle.mx_lines.specs.declared.errors.Expected.TheVariants as expected
use Rattle.mx_lines.specs.declared.errors.LineFault.TheVariants as fault
use Rattle.std.specs.Borrow.{Bor}
use Rattle.std.proofs.lemmas.Bool.Decides.{nat_tests}
use Rattle.std.proofs.lemmas.List.{at_drop_more, drop-map, length-drop, length-map, take-map, take_all}
use Rattle.mx_plan.specs.Text.{Text}
use Rattle.mx_lines.specs.Names.{Known, texts_of}
use Rattle.mx_lines.specs.Refusals.{and_then, refused}
use Rattle.mx_lines.specs.Sides.{all_put, is_bar, nobody, put_named, sides_at, sides_of}
use Rattle.mx_lines.specs.declared.errors.LineError.{LineError}
use Rattle.mx_lines.specs.declared.sides.Side.{Side}
use Rattle.mx_lines.specs.declared.sides.Side.TheVariants.{Left, Right}
use Rattle.mx_lines.specs.declared.sides.Sides.{Sides}

pub error_is : {T E : Type 0} (r : Result T E) (e : E) → IsErrAnd r (λ f. f ≡ e) → r ≡ Err e
error_is (Ok t) e h = absurd h
error_is (Err f) e h = ap (λ x. Err x) h

module _ (names : Known) (side : Side) (words : List (Bor Text)) where
  -- what is left of a walk over the words, at word i
  abbrev pub rest : ℕ → ℕ → Sides → Result Sides LineError
  rest place i sides = all_put names side (place + i) (texts_of (drop i words)) sides

  one : (place i : ℕ) (d : Bor Text) (sides : Sides) → i < length words
      → rest place i sides ≡ and_then (put_named names side (place + i) (get_or words i d).now sides) (all_put names side (place + i + 1) (texts_of (drop (i + 1) words)))
  one place i d sides lt = at_drop_more (λ (ws : List (Bor Text)). all_put names side (place + i) (texts_of ws) sides) words i d lt

  -- the word is read
  pub rest_more : (place i : ℕ) (d : Bor Text) (sides more : Sides) → i < length words → put_named names side (place + i) (get_or words i d).now sides ≡ Ok more
      → rest place i sides ≡ rest place (i + 1) more
  rest_more place i d sides more lt is =
      let next : place + i + 1 ≡ place + (i + 1) = omega arith in
      one place i d sides lt ∙ ap (λ (r : Result Sides LineError). and_then r (all_put names side (place + i + 1) (texts_of (drop (i + 1) words)))) is
      ∙ ap (λ (n : ℕ). all_put names side n (texts_of (drop (i + 1) words)) more) next

  -- the word is wrong
  pub rest_wrong : (place i : ℕ) (d : Bor Text) (sides : Sides) (e : LineError) → i < length words → put_named names side (place + i) (get_or words i d).now sides ≡ Err e
      → rest place i sides ≡ Err e
  rest_wrong place i d sides e lt is =
      one place i d sides lt ∙ ap (λ (r : Result Sides LineError). and_then r (all_put names side (place + i + 1) (texts_of (drop (i + 1) words)))) is

module _ (names : Known) (place : ℕ) (words : List (Bor Text)) where
  pub sides_by : (o : Option ℕ) → o ≡ position (λ (word : Bor Text). is_bar word.now) words
      → sides_of names place (texts_of words) ≡ option_map_or (sides_at names place (texts_of words)) o (refused fault.WordCount place expected.Sides)
  sides_by o is =
      ap (λ (p : Option ℕ). option_map_or (sides_at names place (texts_of words)) p (refused fault.WordCount place expected.Sides))
      (position-map is_bar (λ (word : Bor Text). word.now) words ∙ sym is)

module _ (names : Known) (place bar : ℕ) (words : List (Bor Text)) where
  abbrev pub both_sides : Result Sides LineError
  both_sides =
      and_then (all_put names Left (place + 1) (texts_of (take bar words)) nobody) (all_put names Right (place + bar + 2) (texts_of (drop (bar + 1) words)))

  is_whole : bar ≢ 0 → bar + 2 ≤ length words → ((bar == 0) || nat_lt (length (texts_of words)) (bar + 2)) ≡ false
  is_whole some room = let same : length (texts_of words) ≡ length words = length-map words (λ (w : Bor Text). w.now) in grind (arith, nat_tests)

  -- the slice from a word on is all that is left of the words
  pub left_over : take (length words - (bar + 1)) (drop (bar + 1) words) ≡ drop (bar + 1) words
  left_over = take_all (length words - (bar + 1)) (drop (bar + 1) words) (let left = length-drop (bar + 1) words in omega (arith, left))

  pub sides_known : bar ≢ 0 → bar + 2 ≤ length words → sides_at names place (texts_of words) bar ≡ both_sides
  sides_known some room = rw (is_whole some room, take-map (λ (w : Bor Text). w.now) bar words, drop-map (λ (w : Bor Text). w.now) (bar + 1) words) refl
