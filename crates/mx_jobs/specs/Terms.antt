use Rattle.std.specs.Prelude.{ℕ, List}
use Rattle.mx_journal.specs.declared.records.Write.{Write}

-- what a job promises
pub record Terms (J : Type 0) : Type 1 where
  -- the next section of this job reads these registers
  pub asks_for : J → List ℕ → Type 0
  -- in the section of this number, with these values read, the first job makes these writes and
  -- becomes the second
  pub makes : J → ℕ → List ℕ → List Write → J → Type 0
  -- the law: after this number of sections of all nodes, the registers may hold these values
  pub holds : ℕ → List ℕ → Type 0
  -- the job has no more sections
  pub finished : J → Type 0

-- no promise
abbrev pub no_terms : {J : Type 0} → Terms J
no_terms =
    record {
      asks_for = λ job registers. Unit {0};
      makes = λ job number values writes after. Unit {0};
      holds = λ sections contents. Unit {0};
      finished = λ job. Unit {0};
    }
