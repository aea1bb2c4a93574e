-- Lists that grow, one part after another.
use Rattle.std.proofs.Common.{◌≡◌, ◌∙◌, ◌+◌, ◌<◌, ◌++◌, ℕ, List, [], ◌∷◌, Result, Ok, Err, OnOk, ap, append_assoc, get_or, length, map, sym, take}
use Rattle.std.specs.Bool.{⊤}
use Rattle.std.specs.declared.alloc.AllocError.{AllocError}
use Rattle.std.proofs.lemmas.List.{map-append, map_more}

module _ {X : Type 0} where
  pub joined : (r r1 r2 a b : List X) → r1 ≡ r ++ a → r2 ≡ r1 ++ b → r2 ≡ r ++ (a ++ b)
  joined r r1 r2 a b first second = second ∙ ap (λ (l : List X). l ++ b) first ∙ append_assoc r a b

  pub joined_ok : (result : Result ⊤ AllocError) (r r1 r2 a b : List X) → r1 ≡ r ++ a → OnOk result (r2 ≡ r1 ++ b) → OnOk result (r2 ≡ r ++ (a ++ b))
  joined_ok (Ok u) r r1 r2 a b first second = joined r r1 r2 a b first second
  joined_ok (Err e) r r1 r2 a b first second = tt

-- one more of what two functions make of a list
pub mapped_more : {X Y Z : Type 0} (f : Y → Z) (h : X → Y) (r r1 r2 : List Z) (xs : List X) (k : ℕ) (d : X) → k < length xs → r1 ≡ r ++ map f (map h (take k xs))
    → r2 ≡ r1 ++ f (h (get_or xs k d)) ∷ [] → r2 ≡ r ++ map f (map h (take (k + 1) xs))
mapped_more {X} {Y} {Z} f h r r1 r2 xs k d lt is one =
    joined r r1 r2 (map f (map h (take k xs))) (f (h (get_or xs k d)) ∷ []) is one
    ∙ ap (λ (l : List Z). r ++ l) (sym (ap (map f) (map_more h xs k d lt) ∙ map-append f (map h (take k xs)) (h (get_or xs k d) ∷ [])))
