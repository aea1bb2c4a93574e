-- Letters that go out in ascending order of addressee, each to a node for which a test holds.
use Rattle.std.proofs.Common.{ℕ, ◌≡◌, ◌+◌, Bool, true, false, cond, List, ◌++◌, Option, Some, None, refl, sym, ◌∙◌, ap, subst, add-one}
use Rattle.std.proofs.lemmas.Option.{same_Some}
use Rattle.mx_stamps.proofs.Lists.{append_nil, none_is_no_some}
use Rattle.mx_nodelaws.specs.World.{addressed, letter_to}

-- one node more, which gets no letter
pub none_more : {M : Type 0} (f : ℕ → Option M) (i : ℕ) (out : List (ℕ × M)) → out ≡ addressed f i → f i ≡ None → out ≡ addressed f (i + 1)
none_more {M} f i out e none =
    let P : ℕ → Type 0 = λ k. out ≡ addressed f k in
    let Q : Option M → Type 0 = λ o. out ≡ addressed f i ++ letter_to i o in
    rw (add-one i) (subst Q (sym none) (e ∙ sym (append_nil (addressed f i))))

-- where the test for it fails
pub failed_more : {M : Type 0} (f : ℕ → Option M) (i : ℕ) (out : List (ℕ × M)) (b : Bool) (m : M) → out ≡ addressed f i → f i ≡ cond b (Some m) None → b ≡ false → out ≡ addressed f (i + 1)
failed_more f i out b m e is no_letter = none_more f i out e (is ∙ ap (λ c. cond c (Some m) None) no_letter)

-- a letter that is sent where a test holds, and one that is sent where it fails

pub sent_if : {M : Type 0} (c : Bool) (m x : M) → cond c (Some m) None ≡ Some x → (c ≡ true) × (x ≡ m)
sent_if true m x h = (refl, sym (same_Some m x h))
sent_if false m x h = absurd (none_is_no_some x h)

pub sent_unless : {M : Type 0} (c : Bool) (m x : M) → cond c None (Some m) ≡ Some x → (c ≡ false) × (x ≡ m)
sent_unless true m x h = absurd (none_is_no_some x h)
sent_unless false m x h = (refl, sym (same_Some m x h))
