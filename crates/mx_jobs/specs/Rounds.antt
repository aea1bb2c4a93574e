use Rattle.std.specs.Prelude.{◌≡◌, ◌<◌, ◌≤◌, ℕ, zero, suc, Bool, true, false, length}
use Rattle.mx_nodelaws.specs.Core.{Core}
use Rattle.mx_member.specs.declared.acts.Act.{Act}
use Rattle.mx_member.specs.declared.acts.Act.TheVariants as act
use Rattle.mx_stations.specs.Turns.{Station}
use Rattle.mx_stations.specs.Works.{Acts, HasTurned, MayLeave, SettlesIfDue}
use Rattle.mx_jobs.specs.declared.worker.Ended.{Ended}
use Rattle.mx_jobs.specs.declared.worker.Ended.TheVariants.{Broken, Done, GateShut, NotYet, Stopped}
use Rattle.mx_jobs.specs.declared.worker.RunOptions.{RunOptions}
use Rattle.mx_jobs.specs.Sections.{IsSpent}

-- an act of one of n nodes for its job, by which no section is left: the node asks, enters, reads,
-- writes, empties its draft, or asks one of the nodes for records
abbrev pub IsForJob : {M : Type 0} → ℕ → Act M → Type 0
IsForJob n act.Ask = Unit {0}
IsForJob n act.Enter = Unit {0}
IsForJob n (act.Read register) = Unit {0}
IsForJob n (act.Write register value) = Unit {0}
IsForJob n (act.Want to) = to < n
IsForJob n act.Restart = Unit {0}
IsForJob n _ = ⊥

module _ {H S M : Type 0} (core : Core H S M) where
  -- some acts for a job, one after another, lead from s to t
  abbrev pub ActsForJob : Station core → Station core → Type 0
  ActsForJob s t = Acts core (λ n a. IsForJob n a) s t

  -- the acts of a round: some acts for the job, and then the node may leave its section
  pub record Serves (s t : Station core) : Type 0 where
    pub acted : Station core
    pub acts : ActsForJob s acted
    pub leaves : MayLeave core acted t

  -- One round: acts for the job, one turn of the station, and then the station settles if that is
  -- due. Unless the worker was idle, since the job wanted no section, its node was not refused for
  -- want of a section number.
  pub record Round (every : ℕ) (s t : Station core) : Type 0 where
    pub served : Station core
    pub turned : Station core
    pub serves : Serves s served
    pub idle : Bool
    pub able : idle ≡ false → IsSpent core served → ⊥
    pub turns : HasTurned core served turned
    pub settles : SettlesIfDue core every (length s.me.receipts) turned t

  -- exactly `made` rounds, one after another, lead from s to t
  abbrev pub Rounds : ℕ → ℕ → Station core → Station core → Type 0
  Rounds every zero s t = t ≡ s
  Rounds every (suc made) s t = (m : Station core) × Rounds every made s m × Round every m t

  -- the same, and the worker was idle in the last of these rounds only if its job is over
  abbrev pub BusyRounds : Type 0 → ℕ → ℕ → Station core → Station core → Type 0
  BusyRounds Over every zero s t = t ≡ s
  BusyRounds Over every (suc made) s t =
      (m : Station core) × Rounds every made s m
      × ((round : Round every m t) × (round.idle ≡ true → Over))

  -- at most `options.turns` rounds, one after another, lead from s to t
  pub record WorksAtMost (options : RunOptions) (s t : Station core) : Type 0 where
    pub made : ℕ
    pub most : made ≤ options.turns
    pub rounds : Rounds options.settle_every made s t

  -- fewer than `options.turns` rounds lead from s to t, and then acts for a job that cannot go on
  pub record BreaksOff (options : RunOptions) (s t : Station core) : Type 0 where
    pub made : ℕ
    pub fewer : made < options.turns
    pub last : Station core
    pub rounds : Rounds options.settle_every made s last
    pub acts : ActsForJob last t

  -- A worker that ended in this way led its station from s to t. If its turns were spent, it made
  -- exactly `options.turns` rounds; if the gate was shut, it did nothing.
  abbrev pub Works : RunOptions → Ended → Station core → Station core → Type 0
  Works options Done s t = WorksAtMost options s t
  Works options NotYet s t = Rounds options.settle_every options.turns s t
  Works options GateShut s t = t ≡ s
  Works options (Broken why) s t = BreaksOff options s t
  Works options (Stopped why) s t = WorksAtMost options s t
