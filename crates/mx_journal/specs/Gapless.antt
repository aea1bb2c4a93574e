use Rattle.std.specs.Prelude.{ℕ, suc, ◌≤◌, List, [], ◌∷◌, nat_eq, if◌then◌else◌}
use Rattle.mx_journal.specs.declared.records.Record.{Record}
use Rattle.mx_journal.specs.Records.{IsThere}

-- each number from 1 to k has a record
abbrev pub IsGapless : ℕ → List Record → Type 0
IsGapless k xs = (n : ℕ) → 1 ≤ n → n ≤ k → IsThere n xs

-- the first number from k on that is missing, if the records ascend from k or above
abbrev pub first_missing : ℕ → List Record → ℕ
first_missing k [] = k
first_missing k (x ∷ xs) = if nat_eq x.number k then first_missing (suc k) xs else k
