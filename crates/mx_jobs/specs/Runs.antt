use Rattle.std.specs.Prelude.{◌≡◌, ◌<◌, ◌≤◌, ◌==◌, ℕ, Bool, List, [], ◌∷◌, filter, length, slice_get, Some}
use Rattle.atomic_table.specs.Seated.{TableId}
use Rattle.mx_stamps.specs.Lists.{IsIn}
use Rattle.mx_stamps.specs.declared.limits.TheConstants.{MAX_REGISTERS}
use Rattle.mx_journal.specs.declared.receipts.Receipt.{Receipt}
use Rattle.mx_journal.specs.Settled.{JournalState}
use Rattle.mx_nodelaws.specs.Core.{Core, IsInside}
use Rattle.mx_member.specs.declared.parcel.Parcel.{Parcel}
use Rattle.mx_member.specs.Member.{MemberState}
use Rattle.mx_member.specs.Steps.{start_of}
use Rattle.mx_stations.specs.Opened.{AreFresh}
use Rattle.mx_stations.specs.Posts.{Post}
use Rattle.mx_stations.specs.Running.{fresh}
use Rattle.mx_stations.specs.Turns.{Station}
use Rattle.mx_jobs.specs.declared.worker.Ended.{Ended}
use Rattle.mx_jobs.specs.declared.worker.Ended.TheVariants.{Broken, Done, GateShut, NotYet}
use Rattle.mx_jobs.specs.declared.worker.RunOptions.{RunOptions}
use Rattle.mx_jobs.specs.declared.faults.RunFault.{RunFault}
use Rattle.mx_jobs.specs.declared.tries.JobFault.{JobFault}
use Rattle.mx_jobs.specs.Faults.{Tells}
use Rattle.mx_jobs.specs.Rounds.{BusyRounds, Works, WorksAtMost}
use Rattle.mx_jobs.specs.Sections.{Advances, Fails, Reaches, Runs}
use Rattle.mx_jobs.specs.Serial.{AreSerial}
use Rattle.mx_jobs.specs.Terms.{Terms}

-- how the stations of a run were created: the cluster's shape, the number from which the numbers of
-- requests count on, the greatest section number, the number of registers, and the table
pub record Opening (H : Type 0) : Type 0 where
  pub shape : H
  pub origin : ℕ
  pub limit : ℕ
  pub registers : ℕ
  pub table : TableId

-- the number of registers of the first station, or 0 if there is no station
abbrev pub registers_at : {S M : Type 0} → List (Post (MemberState S) (Parcel M)) → ℕ
registers_at [] = 0
registers_at (s ∷ ss) = s.me.member.setting.registers

-- these are the stations of a new cluster, one for each node in order; their nodes have done
-- nothing yet
pub record AreNew {H S M : Type 0} (core : Core H S M) (stations : List (Station core))
    : Type 0 where
  pub shape : H
  pub origin : ℕ
  pub limit : ℕ
  pub registers : ℕ
  pub few : registers ≤ MAX_REGISTERS
  pub have : registers ≡ registers_at stations
  pub fresh_ones : AreFresh (core.count shape)
      (λ i. start_of core shape i origin limit registers) stations

module _ {H S M : Type 0} (core : Core H S M) (o : Opening H) where
  -- this is the station of node k, at the table of this opening, and the node has done nothing yet
  pub record IsAtRest (k : ℕ) (s : Station core) : Type 0 where
    pub here : s.table ≡ o.table
    pub nodes : s.nodes ≡ core.count o.shape
    pub me : s.me ≡ fresh k (start_of core o.shape k o.origin o.limit o.registers)

-- the receipts of this node, in order
abbrev pub own_of : ℕ → List Receipt → List Receipt
own_of node receipts = filter (λ (r : Receipt). r.node == node) receipts

module _ {J : Type 0} (terms : Terms J) where
  -- The result of a run with this number of registers: the receipts and the journal of all sections
  -- that were left, and the jobs after the run.
  pub record HaveRun (registers : ℕ) (jobs : List J) (receipts : List Receipt)
      (journal : JournalState) (afters : List J) : Type 0 where
    pub count : length afters ≡ length jobs
    -- the receipts of node k are those of the sections of the k-th job, one after another. These
    -- led to the k-th job after the run, which has no more sections
    pub runs : (k : ℕ) (job after : J) → slice_get jobs k ≡ Some job
        → slice_get afters k ≡ Some after
        → Runs terms registers job (own_of k receipts) after × terms.finished after
    -- each receipt is of a node that has a job
    pub own : (r : Receipt) → IsIn r receipts → r.node < length jobs
    pub serial : AreSerial receipts journal

  module _ {H S M : Type 0} (core : Core H S M) (options : RunOptions) where
    -- A worker that started with the station `from` and the job `job`, and is done. Sections of its
    -- job, one after another, led from `job` to `after`, which has no more sections. Its rounds led
    -- from the station `from` to the station `left`, whose node is not inside.
    pub record IsDone (from : Station core) (job : J) (left : Station core) (after : J)
        : Type 0 where
      pub advanced : Advances terms core job from after left
      pub finished : terms.finished after
      pub outside : IsInside core left.me.member.core → ⊥
      pub works : WorksAtMost core options from left

    -- What a worker that started with this station and this job returned: its station, its job, and
    -- how it ended.
    pub record IsLeft (from : Station core) (job : J) (left : Station core × J × Ended)
        : Type 0 where
      pub works : Works core options left.2 from left.0
      pub done : left.2 ≡ Done → IsDone from job left.0 left.1
      -- if its turns were spent, it has made and left some sections of its job, and perhaps made
      -- one more that it has not left yet. It was idle in its last round only if the job has no
      -- more sections
      pub reached : left.2 ≡ NotYet
          → (pending : Bool) × Reaches terms core pending job from left.1 left.0
      pub idles : left.2 ≡ NotYet
          → BusyRounds core (terms.finished left.1) options.settle_every options.turns from left.0
      -- if its job cannot go on, that is for this reason
      pub broken : (why : JobFault) → left.2 ≡ Broken why
          → Fails terms core why job from left.1 left.0
      pub shut : left.2 ≡ GateShut → left.1 ≡ job

    module _ (stations : List (Station core)) (jobs : List J) where
      -- All workers are done. For each k, rounds led from the k-th given station to the k-th
      -- returned station, and sections of the k-th given job to the k-th returned job.
      pub record AreDone (lefts : List (Station core)) (afters : List J) : Type 0 where
        pub many : length lefts ≡ length stations
        pub jobs_many : length jobs ≡ length stations
        pub afters_many : length afters ≡ length stations
        pub each : (k : ℕ) (from left : Station core) (job after : J)
            → slice_get stations k ≡ Some from → slice_get jobs k ≡ Some job
            → slice_get lefts k ≡ Some left → slice_get afters k ≡ Some after
            → IsDone from job left after

      -- What any run returns. For each k, a worker that started with the k-th given station and job
      -- ended in the k-th of these ways, and returned the k-th of these stations and jobs. If
      -- that way is `GateShut`, the station and the job are unchanged.
      pub record AreBack (ends : List Ended) (lefts : List (Station core)) (afters : List J)
          : Type 0 where
        pub many : length lefts ≡ length stations
        pub jobs_many : length jobs ≡ length stations
        pub afters_many : length afters ≡ length stations
        pub ends_many : length ends ≡ length stations
        pub each : (k : ℕ) (from left : Station core) (job after : J) (end : Ended)
            → slice_get stations k ≡ Some from → slice_get jobs k ≡ Some job
            → slice_get lefts k ≡ Some left → slice_get afters k ≡ Some after
            → slice_get ends k ≡ Some end → IsLeft from job (left, after, end)

      -- what a run returns if some worker is not done, and this fault is reported
      pub record AreNotDone (fault : RunFault) (lefts : List (Station core)) (afters : List J)
          : Type 0 where
        pub ends : List Ended
        pub told : Tells (Some fault) ends
        pub back : AreBack ends lefts afters
