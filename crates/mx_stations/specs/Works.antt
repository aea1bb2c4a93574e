use Rattle.std.specs.Prelude.{◌≡◌, ◌≢◌, ◌⊎◌, ℕ, ◌-◌, ◌%◌, ◌<◌, ◌≤◌, List, length}
use Rattle.mx_nodelaws.specs.Core.{Core}
use Rattle.mx_nodelaws.specs.declared.phase.Phase.TheVariants.{Idle}
use Rattle.mx_member.specs.Member.{first_gap}
use Rattle.mx_member.specs.declared.acts.Act.{Act}
use Rattle.mx_member.specs.declared.acts.Act.TheVariants as act
use Rattle.mx_stations.specs.declared.answers.TurnReport.{TurnReport}
use Rattle.mx_stations.specs.Posts.{does}
use Rattle.mx_stations.specs.Turns.{Goes, HoldsUnknown, Leads, Moves, Path, Station, Turns}

-- an act of a worker of n nodes: it asks, enters, leaves, reads or writes its register, or asks a
-- node for records
abbrev pub IsWorkers : {M : Type 0} → ℕ → ℕ → Act M → Type 0
IsWorkers register n act.Ask = Unit {0}
IsWorkers register n act.Enter = Unit {0}
IsWorkers register n (act.Read of) = of ≡ register
IsWorkers register n (act.Write of value) = of ≡ register
IsWorkers register n act.Leave = Unit {0}
IsWorkers register n (act.Want to) = to < n
IsWorkers register n _ = ⊥

module _ {H S M : Type 0} (core : Core H S M) (register : ℕ) where
  -- one act of a worker, or one act or move of a turn
  abbrev pub Toils : Station core → Station core → Type 0
  Toils s t = Moves core s t ⊎ ((a : Act M) × IsWorkers register s.nodes a × (t ≡ does core a s))

  -- some of these acts and moves, one after another, lead from s to t
  abbrev pub Works : Station core → Station core → Type 0
  Works s t = Leads Toils s t

module _ {H S M : Type 0} (core : Core H S M) (IsKind : ℕ → Act M → Type 0) where
  -- one act of this kind, which depends on the number of nodes
  abbrev pub ActsOnce : Station core → Station core → Type 0
  ActsOnce s t = (a : Act M) × IsKind s.nodes a × (t ≡ does core a s)

  -- some acts of this kind, one after another, lead from s to t
  abbrev pub Acts : Station core → Station core → Type 0
  Acts s t = Leads ActsOnce s t

module _ {H S M : Type 0} (core : Core H S M) (register : ℕ) where
  -- some acts of a worker, one after another, lead from s to t, without a move of the station and
  -- without leaving a section
  abbrev pub LeavesNone : Station core → Station core → Type 0
  LeavesNone s t =
      Acts core (λ n a. IsWorkers register n a) s t
      × (length t.me.receipts ≡ length s.me.receipts)

module _ {H S M : Type 0} (core : Core H S M) where
  -- the node leaves its section, or nothing happens
  abbrev pub MayLeave : Station core → Station core → Type 0
  MayLeave s t = (t ≡ s) ⊎ (t ≡ does core act.Leave s)

  -- the station has taken a turn, with some report; or memory ran out in the turn, after some of
  -- its acts and moves, for a record of the parcel in hand
  abbrev pub HasTurned : Station core → Station core → Type 0
  HasTurned s t =
      Goes core s t × (((report : TurnReport) × Turns core s report t) ⊎ HoldsUnknown core t)

module _ {H S M : Type 0} (core : Core H S M) (register : ℕ) where
  -- a worker's turn: acts by which it leaves no section, then it may leave one, and then its
  -- station takes one turn
  abbrev pub TakesTurn : Station core → Station core → Type 0
  TakesTurn s t =
      (m : Station core) × (n : Station core) × LeavesNone core register s m × MayLeave core m n
      × HasTurned core n t

-- settling is due: more sections were left by `now` than by `before`, and `every` is not 0 and
-- divides the number `now`
abbrev pub IsDue : ℕ → ℕ → ℕ → Type 0
IsDue every before now = (every ≢ 0) × (before < now) × (now % every ≡ 0)

module _ {H S M : Type 0} (core : Core H S M) (every : ℕ) where
  -- if settling is due, the registers after all sections before the journal's first gap replace the
  -- records of these sections; otherwise nothing happens
  abbrev pub SettlesIfDue : ℕ → Station core → Station core → Type 0
  SettlesIfDue before s t =
      (IsDue every before (length s.me.receipts)
      × (t ≡ does core (act.Settle (first_gap s.me.member.journal - 1)) s))
      ⊎ ((IsDue every before (length s.me.receipts) → ⊥) × (t ≡ s))

module _ {H S M : Type 0} (core : Core H S M) (register every : ℕ) where
  -- a worker's turn, and at its end the station settles if that is due
  abbrev pub Round : Station core → Station core → Type 0
  Round s t =
      (n : Station core) × TakesTurn core register s n
      × SettlesIfDue core every (length s.me.receipts) n t

  -- some rounds, one after another, lead from s to t. So the station settles in each round in which
  -- the number of sections that it has left reaches a multiple of `every`, and at no other time; if
  -- `every` is 0, never
  abbrev pub WorksSettling : Station core → Station core → Type 0
  WorksSettling s t = Leads Round s t

  -- exactly this number of rounds, one after another, lead from s to t
  abbrev pub WorksFor : ℕ → Station core → Station core → Type 0
  WorksFor turns s t = (ms : List (Station core)) × (length ms ≡ turns) × Path Round ms s t

  abbrev pub WorksAtMost : ℕ → Station core → Station core → Type 0
  WorksAtMost turns s t = (made : ℕ) × (made ≤ turns) × WorksFor made s t

module _ {H S M : Type 0} (core : Core H S M) (most : ℕ) where
  -- the station has left fewer than `most` sections; or it has left exactly `most`, and its node is
  -- idle
  abbrev pub IsWithin : Station core → Type 0
  IsWithin s =
      (length s.me.receipts < most)
      ⊎ ((length s.me.receipts ≡ most) × (core.phase s.me.member.core ≡ Idle))

module _ {H S M : Type 0} (core : Core H S M) (register most : ℕ) where
  -- acts of a worker by which no section is left, and after which the station is within `most` if it
  -- was before
  abbrev pub Serves : Station core → Station core → Type 0
  Serves s t = LeavesNone core register s t × (IsWithin core most s → IsWithin core most t)
