-- A word that is sought among the kinds.
use Rattle.std.proofs.Common.{◌≡◌, ℕ, zero, suc, ◌+◌, ◌<◌, List, [], ◌∷◌, length, drop, get_or, false, refl, arith}
use Rattle.std.specs.Str.{bytes_eq}
use Rattle.mx_events.specs.declared.kind.EventKind.{EventKind}
use Rattle.mx_events.specs.Words.{first_named, word_of}

-- what does not have the word is passed over
pub passed_over : (word : List ℕ) (kinds : List EventKind) (k : ℕ) (d : EventKind) → k < length kinds
    → bytes_eq word (word_of (get_or kinds k d)) ≡ false
    → first_named word (drop k kinds) ≡ first_named word (drop (k + 1) kinds)
passed_over word [] k d lt other = let bad : ⊥ = omega (arith, lt) in absurd bad
passed_over word (kind ∷ kinds) zero d lt other = rw other refl
passed_over word (kind ∷ kinds) (suc k) d lt other =
    let next : suc k + 1 ≡ suc (k + 1) = omega arith in
    rw next (passed_over word kinds k d (omega (arith, lt)) other)
