use Rattle.std.specs.Prelude.{ℕ, List}

-- the state of a job that is a closure: how many sections it has left, the registers that each of
-- them reads, and the closure
pub record CallsState (F : Type 0) : Type 0 where
  pub left : ℕ
  pub registers : List ℕ
  pub make : F
