-- The shapes of the runs are valid.
use Rattle.std.proofs.Common.{ℕ, zero, suc, ◌<◌, ◌≡◌, ◌≢◌, ◌⊎◌, inl, inr, true, [], refl, sym, ◌∙◌, arith}
use Rattle.mx_quorums.specs.Family.{IsMeeting, has_of}
use Rattle.mx_trees.specs.Tree.{IsNear, IsRooted, IsToward, toward_of}
use Rattle.mx_trees.proofs.Paths.{ByNext, second_is_next}
use Rattle.mx_model_runs.specs.Runs.{two_nodes, two_sets}

-- node 0 is in both sets
zero_in : (i : ℕ) → i < 2 → has_of two_sets i 0 ≡ true
zero_in zero l = refl
zero_in (suc zero) l = refl
zero_in (suc (suc i)) l = absurd (omega (arith, l))

own_in : (i : ℕ) → i < 2 → has_of two_sets i i ≡ true
own_in zero l = refl
own_in (suc zero) l = refl
own_in (suc (suc i)) l = absurd (omega (arith, l))

within : (i j : ℕ) → i < 2 → has_of two_sets i j ≡ true → j < 2
within zero zero l h = omega arith
within zero (suc zero) l h = omega arith
within zero (suc (suc j)) l h = let bad : ⊥ = cc in absurd bad
within (suc zero) zero l h = omega arith
within (suc zero) (suc zero) l h = omega arith
within (suc zero) (suc (suc j)) l h = let bad : ⊥ = cc in absurd bad
within (suc (suc i)) j l h = absurd (omega (arith, l))

pub sets_meet : IsMeeting two_sets
sets_meet = record {
  some = omega arith;
  few = omega arith;
  own = own_in;
  nodes = within;
  meet = λ i j l k. (0, zero_in i l, zero_in j k);
}

-- neighbours are 0 and 1, or 1 and 0
near : (P : ℕ → ℕ → Type 0) → P 0 1 → P 1 0 → (i j : ℕ) → IsNear two_nodes i j → P i j
near P a b zero zero h = let bad : ⊥ = cc in absurd bad
near P a b zero (suc zero) h = a
near P a b zero (suc (suc j)) h = let bad : ⊥ = cc in absurd bad
near P a b (suc zero) zero h = b
near P a b (suc zero) (suc zero) h = let bad : ⊥ = cc in absurd bad
near P a b (suc zero) (suc (suc j)) h = let bad : ⊥ = cc in absurd bad
near P a b (suc (suc i)) j h = let bad : ⊥ = cc in absurd bad

one_other : ◌≢◌ {A = ℕ} 1 0
one_other e = omega (arith, e)

by_next : ByNext (IsNear two_nodes) (toward_of two_nodes) 0
by_next i j h = near (λ a b. ((a ≢ 0) × (toward_of two_nodes a ≡ b)) ⊎ ((b ≢ 0) × (toward_of two_nodes b ≡ a))) (inr (one_other, refl)) (inl (one_other, refl)) i j h

-- each node's way to node 0
way : (i : ℕ) → i < 2 → IsToward two_nodes i (toward_of two_nodes i)
way zero l = inl (refl, refl)
way (suc zero) l = inr ([], record { walk = (refl, refl); once = ((λ h. elim h [ inl e ↦ absurd (omega (arith, e)) | inr bad ↦ absurd bad ]), ((λ bad. bad), tt)) })
way (suc (suc i)) l = absurd (omega (arith, l))

only : (i k : ℕ) → i < 2 → IsToward two_nodes i k → k ≡ toward_of two_nodes i
only zero k l (inl e) = e.1
only zero k l (inr w) = second_is_next (IsNear two_nodes) (toward_of two_nodes) 0 by_next 0 k w.0 w.1
only (suc zero) k l (inl e) = absurd (omega (arith, e.0))
only (suc zero) k l (inr w) = second_is_next (IsNear two_nodes) (toward_of two_nodes) 0 by_next 1 k w.0 w.1
only (suc (suc i)) k l t = absurd (omega (arith, l))

toward_zero : (i : ℕ) → i < 2 → toward_of two_nodes i ≡ 0
toward_zero zero l = refl
toward_zero (suc zero) l = refl
toward_zero (suc (suc i)) l = absurd (omega (arith, l))

pub nodes_rooted : IsRooted two_nodes
nodes_rooted = record {
  some = omega arith;
  few = omega arith;
  holder = omega arith;
  nodes = near (λ i j. (i < 2) × (j < 2) × (i ≢ j)) (omega arith, omega arith, λ e. omega (arith, e)) (omega arith, omega arith, one_other);
  both = near (λ i j. IsNear two_nodes j i) refl refl;
  toward_node = λ i l. let e = toward_zero i l in omega (arith, e);
  toward_holder = refl;
  toward_other = λ i l ne e. ne (sym e ∙ toward_zero i l);
  toward_path = way;
  toward_only = only;
  edge = near (λ i j. (toward_of two_nodes i ≡ j) ⊎ (toward_of two_nodes j ≡ i)) (inr refl) (inl refl);
}
