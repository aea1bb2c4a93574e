-- How the writes of one section change the contents of a register, one after the other.
-- `after (Some value)` changes the contents by a write of this value.
use Rattle.std.specs.Prelude.{ℕ, List, [], ◌∷◌, Option, Some, nat_eq, if◌then◌else◌}
use Rattle.mx_journal.specs.declared.records.Write.{Write}

-- the contents of a register after one write of the section
abbrev pub after_one : {C : Type 0} → (Option ℕ → C → C) → ℕ → Write → C → C
after_one after register write cell =
    if nat_eq write.register register then after (Some write.value) cell else cell

abbrev pub after_each : {C : Type 0} → (Option ℕ → C → C) → ℕ → List Write → C → C
after_each after register [] cell = cell
after_each after register (w ∷ ws) cell =
    after_each after register ws (after_one after register w cell)
