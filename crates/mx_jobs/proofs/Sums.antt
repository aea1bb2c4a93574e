-- Sums of registers, for laws that conserve something.
use Rattle.std.proofs.Common.{◌≡◌, ◌+◌, ◌<◌, ◌≤◌, ◌≢◌, ℕ, List, get_or, length, sum, sym, arith}
use Rattle.std.proofs.Math.ListN.{set}
use Rattle.std.proofs.lemmas.List.{get_or-set_other, length-set}
use Rattle.std.proofs.lemmas.List.Sums.{sum_by-set}

-- one register gets another value
one_set : (xs : List ℕ) (i y : ℕ) → i < length xs → sum (set xs i y) + get_or xs i 0 ≡ sum xs + y
one_set xs i y low = sum_by-set (λ x. x) xs i y 0 low

-- two registers do
pub two_set : (xs : List ℕ) (a b x y : ℕ) → a ≢ b → a < length xs → b < length xs → sum (set (set xs a x) b y) + (get_or xs a 0 + get_or xs b 0) ≡ sum xs + (x + y)
two_set xs a b x y apart low there =
    let first = one_set xs a x low in
    let size = length-set xs a x in
    let second = one_set (set xs a x) b y (omega arith) in
    let same = get_or-set_other xs a b x 0 (λ e. apart (sym e)) in omega arith

-- and they held no more than all registers did
pub transfer : (xs : List ℕ) (a b x y : ℕ) → a ≢ b → a < length xs → b < length xs → (sum (set (set xs a x) b y) + (get_or xs a 0 + get_or xs b 0) ≡ sum xs + (x + y)) × (get_or xs a 0 + get_or xs b 0 ≤ sum xs)
transfer xs a b x y apart low there =
    let both = two_set xs a b x y apart low there in
    let none = two_set xs a b 0 0 apart low there in (both, omega arith)
