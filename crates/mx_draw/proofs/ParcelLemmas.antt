-- The parcels under way, one after another.
use Rattle.std.proofs.Common.{◌≡◌, ◌∙◌, ◌<◌, ◌≤◌, ◌+◌, ◌-◌, ◌++◌, ℕ, suc, Bool, true, false, List, [], ◌∷◌, Option, Some, None, ap, append_assoc, arith, drop, get_or, length, min, refl, subst, sym}
use Rattle.std.proofs.lemmas.List.{at_drop_all, at_drop_more}
use Rattle.std.proofs.lemmas.Grind.{get_or_default_zero}
use Rattle.std.specs.List.{range_with_len, swap_remove}
use Rattle.std.specs.Option.{option_map_or}
use Rattle.std.specs.Prelude.{if◌then◌else◌, nat_eq, position, slice_index_or}
use Rattle.mx_stamps.proofs.Lists.{append_nil}
use Rattle.mx_draw.specs.Walk.{is_on, oldest_on, without}

-- one more number of a range
pub put_more : (xs ys : List ℕ) (k n : ℕ) → k < n → ys ≡ xs ++ k ∷ [] → ys ++ range_with_len (k + 1) (n - (k + 1)) ≡ xs ++ range_with_len k (n - k)
put_more xs ys k n lt is =
    let left : suc (n - (k + 1)) ≡ n - k = omega (arith, lt) in
    ap (λ (l : List ℕ). l ++ range_with_len (k + 1) (n - (k + 1))) is
    ∙ append_assoc xs (k ∷ []) (range_with_len (k + 1) (n - (k + 1)))
    ∙ ap (λ (m : ℕ). xs ++ range_with_len k m) left

-- all of them
pub put_end : (xs : List ℕ) (k n : ℕ) → n ≤ k → xs ++ range_with_len k (n - k) ≡ xs
put_end xs k n le =
    let over : n - k ≡ 0 = omega (arith, le) in
    ap (λ (m : ℕ). xs ++ range_with_len k m) over ∙ append_nil xs

module _ {P : Type 0} (sent : List (ℕ × ℕ × P)) (from to : ℕ) where
  -- a parcel counts where it is on the link
  either_min : (b : Bool) (j k older other : ℕ) → other ≡ min k older → (if b then min j other else other) ≡ min k (if b then min j older else older)
  either_min true j k older other is = omega (arith, is)
  either_min false j k older other is = is

  -- the least of a smaller number
  oldest_min : (k number : ℕ) (ks : List ℕ) → oldest_on sent from to (min k number) ks ≡ min k (oldest_on sent from to number ks)
  unfolding oldest_on
  oldest_min k number [] = refl
  oldest_min k number (j ∷ ks) =
      either_min (is_on sent from to j) j k (oldest_on sent from to number ks) (oldest_on sent from to (min k number) ks) (oldest_min k number ks)

  oldest_either : (b : Bool) (k number : ℕ) (ks : List ℕ) → oldest_on sent from to (if b then min k number else number) ks ≡ (if b then min k (oldest_on sent from to number ks) else oldest_on sent from to number ks)
  oldest_either true k number ks = oldest_min k number ks
  oldest_either false k number ks = refl

  -- one more parcel
  pub oldest_more : (xs : List ℕ) (i d oldest next total : ℕ) → i < length xs → next ≡ (if is_on sent from to (get_or xs i d) then min (get_or xs i d) oldest else oldest)
      → oldest_on sent from to oldest (drop i xs) ≡ total → oldest_on sent from to next (drop (i + 1) xs) ≡ total
  unfolding oldest_on
  oldest_more xs i d oldest next total lt is before =
      let rest = drop (i + 1) xs in
      ap (λ (n : ℕ). oldest_on sent from to n rest) is
      ∙ oldest_either (is_on sent from to (get_or xs i d)) (get_or xs i d) oldest rest
      ∙ sym (at_drop_more (oldest_on sent from to oldest) xs i d lt)
      ∙ before

  -- all of them
  pub oldest_end : (xs : List ℕ) (i oldest total : ℕ) → length xs ≤ i → oldest_on sent from to oldest (drop i xs) ≡ total → oldest ≡ total
  unfolding oldest_on
  oldest_end xs i oldest total le before = sym (at_drop_all (oldest_on sent from to oldest) xs i le) ∙ before

-- a number is taken out
pub taken : (number : ℕ) (xs slice ys : List ℕ) (i y : ℕ) → Some i ≡ position (nat_eq number) slice → slice ≡ xs → i < length slice → y ≡ get_or xs i y → ys ≡ swap_remove xs i y
    → ys ≡ without number xs
taken number xs slice ys i y at same lt there is =
    let found : Some i ≡ position (nat_eq number) xs = at ∙ ap (position (nat_eq number)) same in
    let few : i < length xs = subst (λ (l : List ℕ). i < length l) same lt in
    is ∙ ap (swap_remove xs i) (there ∙ get_or_default_zero xs i y few)
    ∙ ap (λ (o : Option ℕ). option_map_or (λ j. swap_remove xs j (slice_index_or xs j 0)) o xs) found

-- there is no such number
pub kept : (number : ℕ) (xs slice : List ℕ) → None ≡ position (nat_eq number) slice → slice ≡ xs → xs ≡ without number xs
kept number xs slice at same =
    let found : None ≡ position (nat_eq number) xs = at ∙ ap (position (nat_eq number)) same in
    ap (λ (o : Option ℕ). option_map_or (λ j. swap_remove xs j (slice_index_or xs j 0)) o xs) found
