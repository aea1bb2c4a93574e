use Rattle.std.specs.Prelude.{ℕ, Bool, List, Option}
use Rattle.mx_stamps.specs.declared.stamp.Stamp.{Stamp}
use Rattle.mx_nodelaws.specs.declared.phase.Phase.{Phase}

pub record Node : Type 0 where
  pub me : ℕ
  pub count : ℕ
  -- the greatest number that a section may have
  pub limit : ℕ
  pub phase : Phase
  -- the highest stamp number that it has seen or drawn
  pub highest : ℕ
  -- the stamp of its latest request, current while the node waits or is inside
  pub ours : Stamp
  -- for each node, whether its reply to the current request has counted
  pub got : List Bool
  -- for each node, the stamp of its request, if the reply to it is deferred
  pub deferred : List (Option Stamp)
  -- the highest section number that it knows
  pub top : ℕ
  -- the number of the last section that it entered, or 0 before the first
  pub mine : ℕ
