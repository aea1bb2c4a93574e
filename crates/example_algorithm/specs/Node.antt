use Rattle.std.specs.Prelude.{ℕ}
use Rattle.mx_nodelaws.specs.declared.phase.Phase.{Phase}

pub record Node : Type 0 where
  pub me : ℕ
  -- the greatest number that a section may have
  pub limit : ℕ
  pub phase : Phase
  -- the number of the last section that it entered, or 0 before the first
  pub mine : ℕ
