use Rattle.std.specs.Prelude.{◌≡◌, ◌⊎◌, ℕ, suc, ◌+◌, ◌<◌, ◌==◌, ◌&&◌, Bool, true, false, MatchBool, List, [], ◌∷◌, length, Option, Some, None}
use Rattle.mx_letters.specs.declared.fates.Fate.{Fate}
use Rattle.mx_letters.specs.declared.fates.Fate.TheVariants.{Pass, Drop, Twice}
use Rattle.mx_nodelaws.specs.Core.{Core}
use Rattle.mx_member.specs.declared.acts.Act.TheVariants.{Deliver, Tick}
use Rattle.mx_member.specs.declared.parcel.Parcel.{Parcel}
use Rattle.mx_member.specs.Member.{BringsUnknown, MemberState}
use Rattle.mx_stations.specs.declared.answers.PutOut.{PutOut}
use Rattle.mx_stations.specs.declared.answers.PutOut.TheVariants.{Sent, Full, Nothing}
use Rattle.mx_stations.specs.declared.answers.TurnReport.{TurnReport}
use Rattle.mx_stations.specs.declared.slots.TheConstants.{SLOTS}
use Rattle.mx_stations.specs.Posts.{Delivers, Fetches, FindsNone, Post, PutsOut, does, post, slot_from}
use Rattle.mx_stations.specs.Slides.{releasing, taking}

-- steps of this kind, one after another, lead from s to t; the list has what each of them leads to
abbrev pub Path : {X : Type 0} → (X → X → Type 0) → List X → X → X → Type 0
Path Step [] s t = t ≡ s
Path Step (m ∷ ms) s t = Step s m × Path Step ms m t

-- some steps of this kind, one after another, lead from s to t
abbrev pub Leads : {X : Type 0} → (X → X → Type 0) → X → X → Type 0
Leads {X} Step s t = (ms : List X) × Path Step ms s t

-- the contents of the hand after a parcel with this fate was taken
abbrev pub fated_hand : {P : Type 0} → Fate → ℕ × P → Option (ℕ × P)
fated_hand Drop x = None
fated_hand _ x = Some x

module _ {T P : Type 0} where
  -- while the hand is empty, a parcel is taken from a slot of the link and thrown away
  abbrev pub Throws : ℕ → Post T P → Post T P → Type 0
  Throws from s t =
      (s.me.hand ≡ None) × ((p : P) × (index : ℕ) × (index < SLOTS) × (t ≡ post s.table s.nodes
      (releasing None (taking (slot_from s from index) from p s.me)) s.waiting))

  -- a parcel with this fate is taken from the link: it goes into the hand, or is thrown away
  abbrev pub IsFated : ℕ → Fate → Post T P → Post T P → Type 0
  IsFated from Drop s t = Throws from s t
  IsFated from _ s t = Fetches from s t

module _ {H S M : Type 0} (core : Core H S M) where
  abbrev pub Station : Type 0
  Station = Post (MemberState S) (Parcel M)

  -- the parcel in hand brings a record that the journal lacks; only then can its delivery run out
  -- of memory
  abbrev pub HoldsUnknown : Station → Type 0
  HoldsUnknown s =
      (from : ℕ) × (p : Parcel M) × (s.me.hand ≡ Some (from, p))
      × BringsUnknown p s.me.member.journal

  -- the parcel in hand is delivered by one act, and remains there to be delivered again
  abbrev pub DeliversFirst : Station → Station → Type 0
  DeliversFirst s t =
      (from : ℕ) × (p : Parcel M) × (s.me.hand ≡ Some (from, p))
      × (t ≡ does core (Deliver from p) s)

  -- one act or move of a turn: a delivery, a parcel taken, a parcel thrown away, a try to put one
  -- out, a tick
  abbrev pub Moves : Station → Station → Type 0
  Moves s t =
      DeliversFirst s t ⊎ (Delivers core s t ⊎ (((from : ℕ) × Fetches from s t)
      ⊎ (((from : ℕ) × Throws from s t)
      ⊎ (((r : PutOut) × PutsOut s r t) ⊎ (t ≡ does core Tick s)))))

  -- some acts and moves, one after another, lead from s to t
  abbrev pub Goes : Station → Station → Type 0
  Goes s t = Leads Moves s t

abbrev pub noted_fate : Fate → TurnReport → TurnReport
noted_fate Pass r = record r { taken = r.taken + 1 }
noted_fate Drop r = record r { taken = r.taken + 1; dropped = r.dropped + 1 }
noted_fate Twice r = record r { taken = r.taken + 1; twice = r.twice + 1 }

-- the report after a try to take a parcel: a parcel taken, with this fate, is counted
abbrev pub noted : Option Fate → TurnReport → TurnReport
noted None r = r
noted (Some fate) r = noted_fate fate r

abbrev pub noted_all : List (Option Fate) → TurnReport → TurnReport
noted_all [] r = r
noted_all (x ∷ xs) r = noted_all xs (noted x r)

-- the report after a try to put a parcel out: `Sent` and `Full` are counted
abbrev pub noted_put : PutOut → TurnReport → TurnReport
noted_put Sent r = record r { put = r.put + 1 }
noted_put Full r = record r { full = r.full + 1 }
noted_put Nothing r = r

abbrev pub noted_puts : List PutOut → TurnReport → TurnReport
noted_puts [] r = r
noted_puts (x ∷ xs) r = noted_puts xs (noted_put x r)

-- the report at the start of a turn: it counts the parcel that was in hand, if there was one
abbrev pub begun : Bool → TurnReport
begun true = record { taken = 1; dropped = 0; twice = 0; put = 0; full = 0; ticked = false }
begun false = record { taken = 0; dropped = 0; twice = 0; put = 0; full = 0; ticked = false }

abbrev pub ending : Bool → TurnReport → TurnReport
ending ticked r = record r { ticked = ticked }

module _ {H S M : Type 0} (core : Core H S M) where
  -- a parcel is taken from the link, and delivered as often as its fate says
  abbrev pub Deals : ℕ → Fate → Station core → Station core → Type 0
  Deals from Pass s t = (m : Station core) × Fetches from s m × Delivers core m t
  Deals from Drop s t = Throws from s t
  Deals from Twice s t =
      (m : Station core) × (n : Station core) × Fetches from s m × DeliversFirst core m n
      × Delivers core n t

  -- one try to take a parcel from the link: it finds none, or takes one with this fate
  abbrev pub TakesFated : ℕ → Option Fate → Station core → Station core → Type 0
  TakesFated from None s t = FindsNone from s t
  TakesFated from (Some fate) s t = Deals from fate s t

  -- tries to take a parcel from this node, the next one and so on, with these results
  abbrev pub TakesEach : ℕ → List (Option Fate) → Station core → Station core → Type 0
  TakesEach from [] s t = t ≡ s
  TakesEach from (x ∷ xs) s t =
      (m : Station core) × TakesFated from x s m × TakesEach (suc from) xs m t

  -- tries to put a parcel out, one after another, with these results
  abbrev pub PutsEach : List PutOut → Station core → Station core → Type 0
  PutsEach [] s t = t ≡ s
  PutsEach (x ∷ xs) s t = (m : Station core) × PutsOut s x m × PutsEach xs m t

  -- A turn of the station. A parcel in hand is delivered. One try is made to take a parcel from
  -- each node, and a taken parcel is delivered as often as its fate says. Then `put_out` is tried
  -- once for each waiting parcel. If no parcel was in hand, none was taken, and none waits now, the
  -- node ticks. The report counts exactly these parcels and tries.
  pub record Turns (s : Station core) (report : TurnReport) (t : Station core) : Type 0 where
    pub had : Bool
    pub after_hand : Station core
    pub begins : MatchBool had (Delivers core s after_hand) ((s.me.hand ≡ None) × (after_hand ≡ s))
    pub takes : List (Option Fate)
    pub after_takes : Station core
    pub taken : TakesEach 0 takes after_hand after_takes
    pub each_node : length takes ≡ s.nodes
    pub puts : List PutOut
    pub after_puts : Station core
    pub put : PutsEach puts after_takes after_puts
    pub as_often : length puts ≡ length after_takes.waiting
    pub ends : MatchBool report.ticked (t ≡ does core Tick after_puts) (t ≡ after_puts)
    pub ticks : report.ticked ≡ ((report.taken == 0) && (length after_puts.waiting == 0))
    pub tells : report ≡ ending report.ticked (noted_puts puts (noted_all takes (begun had)))
