-- The rules for the sets of n nodes. `In i j` says that node j is in the set of node i.
use Rattle.std.specs.Prelude.{ℕ, ◌<◌}

-- i is the least number below n for which P holds
abbrev pub IsLeast : (ℕ → Type 0) → ℕ → ℕ → Type 0
IsLeast P n i = (i < n) × P i × ((k : ℕ) → k < i → P k → ⊥)

-- some node is in the set of node i and in that of node j
abbrev pub Meet : (ℕ → ℕ → Type 0) → ℕ → ℕ → Type 0
Meet In i j = (a : ℕ) × In i a × In j a

abbrev pub AllOwn : (ℕ → ℕ → Type 0) → ℕ → Type 0
AllOwn In n = (i : ℕ) → i < n → In i i

-- any two sets meet
abbrev pub AllMeet : (ℕ → ℕ → Type 0) → ℕ → Type 0
AllMeet In n = (i j : ℕ) → i < n → j < n → Meet In i j

-- the set of node i meets that of each node
abbrev pub MeetsAll : (ℕ → ℕ → Type 0) → ℕ → ℕ → Type 0
MeetsAll In n i = (j : ℕ) → j < n → Meet In i j

-- node i is the first that is not in its own set
abbrev pub IsFirstNotOwn : (ℕ → ℕ → Type 0) → ℕ → ℕ → Type 0
IsFirstNotOwn In n i = IsLeast (λ k. In k k → ⊥) n i

-- node j is the first whose set does not meet that of node i
abbrev pub IsFirstApartOf : (ℕ → ℕ → Type 0) → ℕ → ℕ → ℕ → Type 0
IsFirstApartOf In n i j = IsLeast (λ k. Meet In i k → ⊥) n j

-- the sets of i and j are the first two that do not meet, by i and then by j
abbrev pub IsFirstApart : (ℕ → ℕ → Type 0) → ℕ → ℕ → ℕ → Type 0
IsFirstApart In n i j =
    IsLeast (λ k. (m : ℕ) × (m < n) × (Meet In k m → ⊥)) n i × IsFirstApartOf In n i j
