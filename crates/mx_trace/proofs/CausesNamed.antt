-- Words that are sought among the causes.
use Rattle.std.proofs.Common.{◌≡◌, ℕ, zero, suc, ◌+◌, ◌<◌, List, [], ◌∷◌, length, drop, get_or, false, refl, arith}
use Rattle.std.specs.Str.{bytes_eq}
use Rattle.mx_trace.specs.declared.cause.Cause.{Cause}
use Rattle.mx_trace.specs.Causes.{cause_words, first_named}

-- a cause in other words is passed over
pub passed_over : (words : List ℕ) (causes : List Cause) (k : ℕ) (d : Cause) → k < length causes
    → bytes_eq words (cause_words (get_or causes k d)) ≡ false
    → first_named words (drop k causes) ≡ first_named words (drop (k + 1) causes)
passed_over words [] k d lt other = let bad : ⊥ = omega (arith, lt) in absurd bad
passed_over words (cause ∷ causes) zero d lt other = rw other refl
passed_over words (cause ∷ causes) (suc k) d lt other =
    let next : suc k + 1 ≡ suc (k + 1) = omega arith in
    rw next (passed_over words causes k d (omega (arith, lt)) other)
