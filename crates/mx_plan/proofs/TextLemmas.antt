-- The value of a text of JSON.
use Rattle.std.proofs.Common.{◌≡◌, ℕ, List, Bool, true, false, refl, Some, None}
use Rattle.std.specs.Str.{IsUtf8, is_utf8}
use Rattle.std.proofs.lemmas.Str.{IsUtf8-from_is_utf8, is_utf8-from_IsUtf8}
use Rattle.serde_json.specs.Data.{Data}
use Rattle.serde_json.specs.Read.{read}
use Rattle.mx_plan.specs.Values.{value_of}

pub value_of-utf8 : (t : List ℕ) (d : Data) → IsUtf8 t → read t ≡ Some d → value_of t ≡ Some d
unfolding value_of
value_of-utf8 t d utf8 is = rw (is_utf8-from_IsUtf8 t utf8) is

pub value_of-none : (t : List ℕ) → (IsUtf8 t → read t ≡ None) → value_of t ≡ None
unfolding value_of
value_of-none t none = go (is_utf8 t) refl
  where
    go : (b : Bool) → is_utf8 t ≡ b → value_of t ≡ None
    go true e = rw e (none (IsUtf8-from_is_utf8 t e))
    go false e = rw e refl
