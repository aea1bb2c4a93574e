-- The step table: a waiting node enters at any time. Refusals by the phase are in mx_nodelaws,
-- specs/Calls.antt.
use Rattle.std.specs.Prelude.{ℕ, ◌+◌, true, []}
use Rattle.mx_stamps.specs.declared.stamp.Stamp.{Stamp}
use Rattle.mx_nodelaws.specs.World.{Done, becoming}
use Rattle.mx_nodelaws.specs.Core.{Core}
use Rattle.mx_nodelaws.specs.declared.phase.Phase.TheVariants.{Idle, Waiting, Inside}
use Rattle.mx_nodelaws.specs.Rows.{Rows, core_of}
use Rattle.example_algorithm.specs.declared.solo.One.{One}
use Rattle.example_algorithm.specs.Node.{Node}

abbrev pub start_of : One → ℕ → ℕ → ℕ → Node
start_of shape me origin limit = record { me = me; limit = limit; phase = Idle; mine = 0 }

-- ask: there is no clock, and the stamp has the number of the last section
abbrev pub asked : Node → Done Node Stamp ℕ
asked s = record {
  state = record s { phase = Waiting };
  answer = record { number = s.mine; node = s.me };
  letters = [];
}

abbrev pub entering : Node → Node
entering s = record s { phase = Inside (s.mine + 1); mine = s.mine + 1 }

-- leave and cancel: the node becomes idle
abbrev pub rested : Node → Done Node (Unit {0}) ℕ
rested s = becoming (record s { phase = Idle })

-- the table of a cluster of `count` nodes that enter at any time
abbrev pub solo_rows : ℕ → Rows One Node ℕ
solo_rows count = record {
  count = λ shape. count;
  start = start_of;
  phase = λ s. s.phase;
  mine = λ s. s.mine;
  top = λ s. s.mine;
  limit = λ s. s.limit;
  -- stamps are drawn from no counter
  counter = λ s. 0;
  is_granted = λ s. true;
  ask = asked;
  deliver = λ from letter s. becoming s;
  enter = entering;
  leave = rested;
  cancel = rested;
  tick = λ s. becoming s;
}

abbrev pub solo_core : ℕ → Core One Node ℕ
solo_core count = core_of (solo_rows count)
