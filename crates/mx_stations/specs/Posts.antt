use Rattle.std.specs.Prelude.{◌≡◌, ◌≢◌, ◌⊎◌, ℕ, ◌<◌, Bool, true, false, List, [], ◌∷◌, ◌++◌, Option, Some, None, OnErr, OnOk, drop, take}
use Rattle.atomic_table.specs.Seated.{TableId}
use Rattle.mx_stamps.specs.Lists.{IsIn}
use Rattle.mx_journal.specs.declared.receipts.Receipt.{Receipt}
use Rattle.mx_nodelaws.specs.Core.{Core}
use Rattle.mx_member.specs.declared.acts.Act.{Act}
use Rattle.mx_member.specs.declared.acts.Act.TheVariants.{Deliver}
use Rattle.mx_member.specs.declared.acts.Answer.{Answer}
use Rattle.mx_member.specs.declared.acts.Answer.TheVariants as answer
use Rattle.mx_member.specs.declared.parcel.Parcel.{Parcel}
use Rattle.mx_member.specs.Acts.{act_of}
use Rattle.mx_member.specs.Member.{MemberState}
use Rattle.mx_member.specs.Receipts.{closed_by}
use Rattle.mx_stations.specs.declared.answers.PutOut.{PutOut}
use Rattle.mx_stations.specs.declared.answers.PutOut.TheVariants.{Sent, Full, Nothing}
use Rattle.mx_stations.specs.declared.answers.Taken.{Taken}
use Rattle.mx_stations.specs.declared.answers.Taken.TheVariants.{Got, Empty}
use Rattle.mx_stations.specs.declared.slots.TheConstants.{SLOTS}
use Rattle.mx_stations.specs.declared.queue.TheConstants.{WAITING_ROOM}
use Rattle.mx_stations.specs.Entries.{Entry, Idle}
use Rattle.mx_stations.specs.Links.{of, slot_at}
use Rattle.mx_stations.specs.Running.{acted}
use Rattle.mx_stations.specs.Slides.{placing, taking, releasing}

-- a station: its table, the number of nodes of the table, its own node, and the parcels that wait
-- to be put out, each with its addressee
pub record Post (T P : Type 0) : Type 0 where
  pub table : TableId
  pub nodes : ℕ
  pub me : Entry T P
  pub waiting : List (ℕ × P)

module _ {T P : Type 0} where
  abbrev pub sent_in : List (Entry T P) → List (ℕ × P)
  sent_in [] = []
  sent_in (e ∷ v) = e.sent

  abbrev pub placed_in : List (Entry T P) → List (ℕ × P)
  placed_in [] = []
  placed_in (e ∷ v) = e.placed

  abbrev pub taken_in : List (Entry T P) → List (ℕ × P)
  taken_in [] = []
  taken_in (e ∷ v) = e.taken

  -- the entry of node i with this member, hand and receipts, while it is not moving a parcel; the
  -- parcels that it sent, placed and took are those in the seat's view
  abbrev pub shown : ℕ → T → Option (ℕ × P) → List Receipt → List (Entry T P) → Entry T P
  shown i x hand receipts v =
      record {
        node = i;
        member = x;
        receipts = receipts;
        sent = sent_in v;
        hand = hand;
        stage = Idle;
        placed = placed_in v;
        taken = taken_in v;
      }

  abbrev pub post : TableId → ℕ → Entry T P → List (ℕ × P) → Post T P
  post table nodes me waiting = record { table = table; nodes = nodes; me = me; waiting = waiting }

  -- the slot of this index of the link to this node
  abbrev pub slot_to : Post T P → ℕ → ℕ → ℕ
  slot_to s to index = slot_at s.nodes s.me.node to index

  abbrev pub slot_from : Post T P → ℕ → ℕ → ℕ
  slot_from s from index = slot_at s.nodes from s.me.node index

-- each waiting parcel is one of those sent, and its addressee is one of n nodes
abbrev pub Waits : {P : Type 0} → ℕ → List (ℕ × P) → List (ℕ × P) → Type 0
Waits {P} n sent waiting = (x : ℕ × P) → IsIn x waiting → IsIn x sent × (x.0 < n)

-- the waiting parcels after an act that sent `out`: these join the end, and those for which there
-- is no room are lost
abbrev pub waiting_after : {P : Type 0} → List (ℕ × P) → List (ℕ × P) → List (ℕ × P)
waiting_after waiting out = take WAITING_ROOM (waiting ++ out)

-- the contents of the hand after a delivery: the same parcel if it is to be delivered again,
-- otherwise nothing
abbrev pub left_in : {P : Type 0} → Bool → Option (ℕ × P) → Option (ℕ × P)
left_in true hand = hand
left_in false hand = None

abbrev pub OnDone : Answer → Type 0 → Type 0
OnDone (answer.Asked r) P = OnOk r P
OnDone (answer.Entered r) P = OnOk r P
OnDone (answer.Read r) P = OnOk r P
OnDone (answer.Written r) P = OnOk r P
OnDone (answer.Left r) P = OnOk r P
OnDone (answer.Cancelled r) P = OnOk r P
OnDone (answer.Settled r) P = OnOk r P
OnDone _ P = P

abbrev pub OnRefusal : Answer → Type 0 → Type 0
OnRefusal (answer.Asked r) P = OnErr r P
OnRefusal (answer.Entered r) P = OnErr r P
OnRefusal (answer.Read r) P = OnErr r P
OnRefusal (answer.Written r) P = OnErr r P
OnRefusal (answer.Left r) P = OnErr r P
OnRefusal (answer.Cancelled r) P = OnErr r P
OnRefusal (answer.Settled r) P = OnErr r P
OnRefusal _ P = Unit {0}

module _ {H S M : Type 0} (core : Core H S M) where
  -- the node after this act, with this in hand; the act's receipt, if it returns one, joins the
  -- node's receipts
  abbrev pub act_on : Act M → Option (ℕ × Parcel M) → Entry (MemberState S) (Parcel M)
      → Entry (MemberState S) (Parcel M)
  act_on a hand e =
      acted e (act_of core a e.member).state (act_of core a e.member).letters hand
      (e.receipts ++ closed_by (act_of core a e.member).answer)

  abbrev pub after_act : Act M → Option (ℕ × Parcel M) → Post (MemberState S) (Parcel M)
      → Post (MemberState S) (Parcel M)
  after_act a hand s =
      post s.table s.nodes (act_on a hand s.me)
      (waiting_after s.waiting (act_of core a s.me.member).letters)

  -- the station after one act of its node
  abbrev pub does : Act M → Post (MemberState S) (Parcel M) → Post (MemberState S) (Parcel M)
  does a s = after_act a s.me.hand s

  -- the parcel in hand is delivered by one act, after which the hand is empty
  abbrev pub Delivers : Post (MemberState S) (Parcel M) → Post (MemberState S) (Parcel M) → Type 0
  Delivers s t =
      (from : ℕ) × (p : Parcel M) × (s.me.hand ≡ Some (from, p))
      × (t ≡ after_act (Deliver from p) None s)

  -- the parcel in hand is delivered by one act; it remains in hand if it is to be delivered `again`
  abbrev pub DeliversAs : Bool → Post (MemberState S) (Parcel M) → Post (MemberState S) (Parcel M)
      → Type 0
  DeliversAs again s t =
      (from : ℕ) × (p : Parcel M) × (s.me.hand ≡ Some (from, p))
      × (t ≡ after_act (Deliver from p) (left_in again s.me.hand) s)

module _ {T P : Type 0} where
  -- one parcel crosses from a slot of the link into the empty hand
  abbrev pub Fetches : ℕ → Post T P → Post T P → Type 0
  Fetches from s t =
      (s.me.hand ≡ None) × ((p : P) × (index : ℕ) × (index < SLOTS) × (t ≡ post s.table s.nodes
      (releasing (Some (from, p)) (taking (slot_from s from index) from p s.me)) s.waiting))

  -- the hand is empty, no parcel is found in the link from node `from`, and nothing changes. If
  -- this is the node's link to itself, all that it placed in each of the slots was taken
  abbrev pub FindsNone : ℕ → Post T P → Post T P → Type 0
  FindsNone from s t =
      (s.me.hand ≡ None) × (t ≡ s)
      × (from ≡ s.me.node → (index : ℕ) → index < SLOTS
      → of (slot_from s from index) s.me.placed ≡ of (slot_from s from index) s.me.taken)

  -- `Sent`: the first waiting parcel was placed in a slot of its link. `Full`: it moved to the end
  -- of the waiting ones, and this station has placed a parcel in every slot of that link before.
  -- `Nothing`: no parcel waits
  abbrev pub PutsOut : Post T P → PutOut → Post T P → Type 0
  PutsOut s Sent t =
      (to : ℕ) × (p : P) × (rest : List (ℕ × P)) × (s.waiting ≡ (to, p) ∷ rest)
      × (index : ℕ) × (index < SLOTS)
      × (t ≡ post s.table s.nodes (placing (slot_to s to index) p s.me) rest)
  PutsOut s Full t =
      (to : ℕ) × (p : P) × (rest : List (ℕ × P)) × (s.waiting ≡ (to, p) ∷ rest)
      × (t ≡ post s.table s.nodes s.me (rest ++ (to, p) ∷ []))
      × ((index : ℕ) → index < SLOTS → of (slot_to s to index) s.me.placed ≢ [])
  PutsOut s Nothing t = (s.waiting ≡ []) × (t ≡ s)

-- the station once its first `index` waiting parcels were tried: the first `kept` found no empty
-- slot, and wait again at the end
abbrev pub turned : {T P : Type 0} → ℕ → ℕ → Post T P → Post T P
turned index kept s = post s.table s.nodes s.me (drop index s.waiting ++ take kept s.waiting)

module _ {H S M : Type 0} (core : Core H S M) where
  -- `Got`: the parcel in hand was delivered, or one was taken from the link and delivered. `Empty`:
  -- no parcel was in hand, and none was found in the link
  abbrev pub TakesIn : ℕ → Post (MemberState S) (Parcel M) → Taken → Post (MemberState S) (Parcel M)
      → Type 0
  TakesIn from s Got t =
      Delivers core s t
      ⊎ ((mid : Post (MemberState S) (Parcel M)) × Fetches from s mid × Delivers core mid t)
  TakesIn from s Empty t = FindsNone from s t

module _ {T P : Type 0} where
  -- memory ran out, and a parcel remains in hand: the one that was there, and nothing changed, or
  -- one that was taken
  abbrev pub KeepsInHand : ℕ → Post T P → Post T P → Type 0
  KeepsInHand from s t = ((s.me.hand ≢ None) × (t ≡ s)) ⊎ Fetches from s t
