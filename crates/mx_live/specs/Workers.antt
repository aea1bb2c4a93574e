use Rattle.std.specs.Prelude.{◌≡◌, ℕ, ◌+◌, ◌%◌, ◌^◌, ◌≤◌, List, length, map}
use Rattle.std.specs.List.{All, AllZip}
use Rattle.mx_explorer.specs.Weather.{Climate, generator_of}
use Rattle.mx_nodelaws.specs.Core.{Core}
use Rattle.mx_member.specs.declared.parcel.Parcel.{Parcel}
use Rattle.mx_member.specs.Member.{MemberState}
use Rattle.mx_member.specs.Steps.{start_of}
use Rattle.mx_stations.specs.Posts.{Post}
use Rattle.mx_plan.specs.Fields.{Fields}
use Rattle.mx_cli.specs.declared.request.LiveOptions.{LiveOptions}
use Rattle.mx_stations.specs.declared.worker.Worked.{Worked}
use Rattle.mx_stations.specs.declared.worker.Worked.TheVariants.{Done, NotYet, GateShut}
use Rattle.mx_stations.specs.Turns.{Station}
use Rattle.mx_stations.specs.Running.{fresh}
use Rattle.mx_stations.specs.Works.{WorksAtMost, WorksFor}
use Rattle.mx_live.specs.declared.threads.NodeWorker.{NodeWorker}
use Rattle.mx_live.specs.Stations.{AreAtRest}

-- the weather (the source of fates) of the links to node i, whose seed is `seed` plus i, modulo
-- 2^64. Of the 256 values of a random byte, 16 lose a parcel and 16 repeat it
abbrev pub weather_of : ℕ → ℕ → Climate
weather_of seed i = record { words = generator_of ((seed + i) % 2 ^ 64); lost = 16; doubled = 16 }

-- the worker of a station, with these orders and with the weather of its own links
abbrev pub worker_of : {S M : Type 0} → LiveOptions → Post (MemberState S) (Parcel M)
    → NodeWorker (Post (MemberState S) (Parcel M)) Climate
worker_of orders station =
    record {
      station = station;
      orders = orders;
      fates = weather_of orders.seed station.me.node;
    }

module _ {H S M : Type 0} (core : Core H S M) where
  -- What a worker that started with the station `from` returned: its station, and how it ended. The
  -- worker used register 0 alone, made at most the ordered number of turns, and settled as ordered.
  pub record IsLeft (orders : LiveOptions) (from : Station core) (ended : Station core × Worked)
      : Type 0 where
    pub works : WorksAtMost core 0 orders.settle orders.turns from ended.0
    -- if `from` was a new station, no more sections were left than ordered
    pub most : (shape : H) (i origin limit registers : ℕ)
        → from.me ≡ fresh i (start_of core shape i origin limit registers)
        → length ended.0.me.receipts ≤ orders.sections
    -- if the worker is done, at least the ordered number of sections was left
    pub done : ended.1 ≡ Done → orders.sections ≤ length ended.0.me.receipts
    -- if its turns were spent, it made exactly the ordered number of turns
    pub spent : (n : ℕ) → ended.1 ≡ NotYet n
        → (n ≡ orders.turns) × WorksFor core 0 orders.settle orders.turns from ended.0
    -- if the gate was shut, it did nothing
    pub shut : ended.1 ≡ GateShut → ended.0 ≡ from

  -- what workers with these orders, one for each of these stations, returned, in order
  abbrev pub AreLeft : LiveOptions → List (Station core) → List (Station core × Worked) → Type 0
  AreLeft orders stations left = AllZip (IsLeft orders) stations left

  -- what the workers of a run of this plan returned, in order of the nodes: each started with the
  -- new station of its node
  pub record HaveRun (shape : H) (p : Fields) (orders : LiveOptions)
      (left : List (Station core × Worked)) : Type 0 where
    pub stations : List (Station core)
    pub rested : AreAtRest core shape p stations
    pub worked : AreLeft orders stations left

abbrev pub stations_of : {X : Type 0} → List (X × Worked) → List X
stations_of = map (λ ended. ended.0)

abbrev pub AreDone : {X : Type 0} → List (X × Worked) → Type 0
AreDone {X} = All (λ (ended : X × Worked). ended.1 ≡ Done)
