use Rattle.std.specs.Prelude.{◌≡◌, ℕ, List, [], length}
use mathlib.Core.Option.{some}
use lib.ListN.{get_elem?}
use Rattle.atomic_table.specs.Seated.{TableId}
use Rattle.mx_nodelaws.specs.Core.{Core}
use Rattle.mx_member.specs.Steps.{start_of}
use Rattle.mx_plan.specs.Fields.{Fields}
use Rattle.mx_stations.specs.Running.{fresh}
use Rattle.mx_stations.specs.Turns.{Station}

module _ {H S M : Type 0} (core : Core H S M) (shape : H) (p : Fields) where
  -- The new station of node i at this table: its node has done nothing yet, no parcel waits in it,
  -- and its member was started with the plan's origin, last section number and registers.
  pub record IsAtRest (table : TableId) (i : ℕ) (s : Station core) : Type 0 where
    pub here : s.table ≡ table
    pub nodes : s.nodes ≡ length p.nodes
    pub me : s.me ≡ fresh i (start_of core shape i p.origin p.sections (length p.registers))
    pub empty : s.waiting ≡ []

  -- the stations of a new table: one for each node of the plan, in order
  pub record AreAtRest (stations : List (Station core)) : Type 0 where
    pub table : TableId
    pub many : length stations ≡ length p.nodes
    pub each : (i : ℕ) (s : Station core) → get_elem? stations i ≡ some s → IsAtRest table i s
