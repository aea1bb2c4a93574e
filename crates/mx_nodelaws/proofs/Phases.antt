-- The phases differ from one another, and what a test of a phase says of it.
use Rattle.std.proofs.Common.{ℕ, ◌≡◌, Bool, true, false, ◌&&◌, refl, sym, ◌∙◌, ap}
use Rattle.mx_stamps.proofs.Choices.{and_true}
use Rattle.mx_nodelaws.specs.declared.phase.Phase.{Phase}
use Rattle.mx_nodelaws.specs.declared.phase.Phase.TheVariants.{Idle, Waiting, Inside}
use Rattle.mx_nodelaws.specs.Phases.{is_busy, is_waiting, is_inside}

pub idle_apart : (n : ℕ) → ◌≡◌ {A = Phase} Idle (Inside n) → ⊥
idle_apart n e = cc

pub waiting_apart : (n : ℕ) → ◌≡◌ {A = Phase} Waiting (Inside n) → ⊥
waiting_apart n e = cc

pub idle_not_inside : (p : Phase) (n : ℕ) → p ≡ Idle → p ≡ Inside n → ⊥
idle_not_inside p n e h = idle_apart n (sym e ∙ h)

pub waiting_not_inside : (p : Phase) (n : ℕ) → p ≡ Waiting → p ≡ Inside n → ⊥
waiting_not_inside p n e h = waiting_apart n (sym e ∙ h)

pub idle_not_busy : (p : Phase) → p ≡ Idle → is_busy p ≡ true → ⊥
idle_not_busy p e h = let k : false ≡ true = sym (ap is_busy e) ∙ h in cc

pub not_inside : (p : Phase) (n : ℕ) → is_inside p ≡ false → p ≡ Inside n → ⊥
not_inside p n h e = let k : false ≡ true = sym h ∙ ap is_inside e in cc

pub waiting_is : (p : Phase) → is_waiting p ≡ true → p ≡ Waiting
waiting_is Idle h = let bad : ⊥ = cc in absurd bad
waiting_is Waiting h = refl
waiting_is (Inside n) h = let bad : ⊥ = cc in absurd bad

-- where a phase passes the test of waiting, and another test too, it is Waiting
pub waits_alone : (p : Phase) (b : Bool) → (is_waiting p && b) ≡ true → p ≡ Waiting
waits_alone p b h = waiting_is p (and_true (is_waiting p) b h).0
