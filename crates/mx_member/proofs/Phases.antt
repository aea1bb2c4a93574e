-- Facts on phases, and the number that an accepted entry draws.
use Rattle.std.proofs.Common.{ℕ, suc, ◌+◌, ◌≡◌, ◌⊎◌, inl, inr, Bool, true, false, Ok, Err, if◌then◌else◌, refl, arith}
use Rattle.mx_nodelaws.specs.declared.phase.Phase.{Phase}
use Rattle.mx_nodelaws.specs.declared.phase.Phase.TheVariants.{Idle, Waiting, Inside}
use Rattle.mx_nodelaws.specs.declared.faults.EnterFault.TheVariants as enter

pub idle_apart : (n : ℕ) → ◌≡◌ {A = Phase} Idle (Inside n) → ⊥
idle_apart n e = cc

pub waiting_apart : (n : ℕ) → ◌≡◌ {A = Phase} Waiting (Inside n) → ⊥
waiting_apart n e = cc

pub inside_inj : (m n : ℕ) → ◌≡◌ {A = Phase} (Inside m) (Inside n) → m ≡ n
inside_inj m n e = cc

-- an accepted entry draws the number after m
pub drawn : (b : Bool) (m n : ℕ) → (if b then Ok (m + 1) else Err enter.NumbersSpent) ≡ Ok n → n ≡ suc m
drawn true m n e = let k : m + 1 ≡ n = cc in omega (arith, k)
drawn false m n e = let bad : ⊥ = cc in absurd bad

-- a phase is inside some section, or inside none
pub inside_or_not : (p : Phase) → ((n : ℕ) × (p ≡ Inside n)) ⊎ ((n : ℕ) → p ≡ Inside n → ⊥)
inside_or_not Idle = inr (λ n e. idle_apart n e)
inside_or_not Waiting = inr (λ n e. waiting_apart n e)
inside_or_not (Inside n) = inl (n, refl)
