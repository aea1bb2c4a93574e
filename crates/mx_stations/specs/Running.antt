use Rattle.std.specs.Prelude.{◌≡◌, ◌≢◌, ◌⊎◌, ℕ, zero, suc, ◌+◌, ◌*◌, ◌<◌, List, [], ◌∷◌, ◌++◌, map, length, Option, Some, None}
use mathlib.Core.Option.{some}
use lib.ListN.{get_elem?}
use Rattle.atomic_table.specs.Table.{State, Me}
use Rattle.mx_stamps.specs.Lists.{IsIn}
use Rattle.mx_journal.specs.declared.receipts.Receipt.{Receipt}
use Rattle.mx_nodelaws.specs.World.{World, sent_by}
use Rattle.mx_nodelaws.specs.Core.{Core}
use Rattle.mx_nodelaws.specs.declared.phase.Phase.{Phase}
use Rattle.mx_nodelaws.specs.declared.phase.Phase.TheVariants as phase
use Rattle.mx_member.specs.declared.acts.Act.{Act}
use Rattle.mx_member.specs.declared.acts.Act.TheVariants as act
use Rattle.mx_member.specs.declared.parcel.Parcel.{Parcel}
use Rattle.mx_member.specs.Acts.{act_of}
use Rattle.mx_member.specs.Member.{MemberState}
use Rattle.mx_member.specs.Receipts.{closed_by}
use Rattle.mx_member.specs.Running.{IsRunning}
use Rattle.mx_stations.specs.Entries.{Entry, Idle, Node, owned_of}
use Rattle.mx_stations.specs.Links.{Links}

-- the n values f k, f (k + 1), ..
abbrev pub all_from : {A : Type 0} → ℕ → ℕ → (ℕ → A) → List A
all_from k zero f = []
all_from k (suc n) f = f k ∷ all_from (suc k) n f

abbrev pub all_of : {A : Type 0} → ℕ → (ℕ → A) → List A
all_of n f = all_from 0 n f

module _ {T P : Type 0} where
  -- a node with this member, which has done nothing yet
  abbrev pub fresh : ℕ → T → Entry T P
  fresh i x =
      record {
        node = i;
        member = x;
        receipts = [];
        sent = [];
        hand = None;
        stage = Idle;
        placed = [];
        taken = [];
      }

  -- no node is twice in a view
  abbrev pub Once : List (Entry T P) → Type 0
  Once [] = Unit {0}
  Once (e ∷ v) = ((f : Entry T P) → IsIn f v → f.node ≢ e.node) × Once v

  -- all parcels that the nodes sent, each with its sender and its addressee
  abbrev pub sent_of : List (Entry T P) → List (ℕ × ℕ × P)
  sent_of [] = []
  sent_of (e ∷ es) = sent_by e.node e.sent ++ sent_of es

-- the world lists nodes 0 to n - 1. Each of them is in exactly one view, once, with the same entry
-- as in the world
pub record Stands {T P : Type 0} (n : ℕ) (views : List (List (Entry T P)))
    (world : List (Entry T P)) : Type 0 where
  pub owner : ℕ → ℕ
  pub long : length world ≡ n
  pub numbered : (i : ℕ) (e : Entry T P) → get_elem? world i ≡ some e → e.node ≡ i
  pub known : (j : ℕ) (v : List (Entry T P)) (e : Entry T P) → get_elem? views j ≡ some v → IsIn e v
      → (get_elem? world e.node ≡ some e) × (owner e.node ≡ j)
  pub there : (i : ℕ) (e : Entry T P) → get_elem? world i ≡ some e
      → (v : List (Entry T P)) × (get_elem? views (owner i) ≡ some v) × IsIn e v
  pub once : (j : ℕ) (v : List (Entry T P)) → get_elem? views j ≡ some v → Once v

-- the status word of a node: twice the number of its last section, and one more while it is inside
abbrev pub status : Phase → ℕ → ℕ
status phase.Idle mine = 2 * mine
status phase.Waiting mine = 2 * mine
status (phase.Inside n) mine = 2 * mine + 1

module _ {H S M : Type 0} (core : Core H S M) where
  abbrev pub word_of : MemberState S → ℕ
  word_of m = status (core.phase m.core) (core.mine m.core)

  -- word i is the status word of node i, the nodes are a running cluster (`IsRunning`), and each
  -- parcel in a hand was sent to the node that has it
  pub record Shown (Good : World S M → Type 0) (words : List ℕ)
      (world : List (Node S M)) : Type 0 where
    pub shows : (i : ℕ) (e : Node S M) → get_elem? world i ≡ some e
        → get_elem? words i ≡ some (word_of e.member)
    pub runs : IsRunning core Good (map owned_of world) (sent_of world)
    pub held : (i : ℕ) (e : Node S M) (x : ℕ × Parcel M) → get_elem? world i ≡ some e
        → e.hand ≡ Some x → IsIn (x.0, i, x.1) (sent_of world)

  -- the rule that a table of n nodes keeps: its views, status words and slots are those of one
  -- running cluster
  pub record Holds (Good : World S M → Type 0) (n : ℕ)
      (s : State (Option (Parcel M)) (List (Node S M))) : Type 0 where
    pub world : List (Node S M)
    pub stands : Stands n s.views world
    pub shown : Shown Good s.words world
    pub links : Links n s.words s.homes world

-- a node with this in its hand may do this act: a delivered parcel is the one in hand, and a want
-- goes to one of n nodes
abbrev pub MayDo : {M : Type 0} → ℕ → Option (ℕ × Parcel M) → Act M → Type 0
MayDo n hand (act.Want to) = to < n
MayDo n hand (act.Deliver from p) = hand ≡ Some (from, p)
MayDo n hand _ = Unit {0}

-- the act takes no memory, delivers no parcel and leaves no section; a want goes to one of n nodes
abbrev pub IsPlain : {M : Type 0} → ℕ → Act M → Type 0
IsPlain n act.Leave = ⊥
IsPlain n (act.Deliver from p) = ⊥
IsPlain n (act.Want to) = to < n
IsPlain n _ = Unit {0}

-- the hand is unchanged, or empty
abbrev pub Keeps : {P : Type 0} → Option (ℕ × P) → Option (ℕ × P) → Type 0
Keeps before after = (after ≡ before) ⊎ (after ≡ None)

module _ {T P : Type 0} where
  -- the node after an act that led to this member, sent these parcels, and led to this hand and
  -- these receipts
  abbrev pub acted : Entry T P → T → List (ℕ × P) → Option (ℕ × P) → List Receipt → Entry T P
  acted e y out hand receipts =
      record e { member = y; receipts = receipts; sent = e.sent ++ out; hand = hand }

  abbrev pub acted_view : List (Entry T P) → T → List (ℕ × P) → Option (ℕ × P) → List Receipt
      → List (Entry T P)
  acted_view [] y out hand receipts = []
  acted_view (e ∷ v) y out hand receipts = acted e y out hand receipts ∷ []

  -- a seat hands its first node on to a new seat: it keeps all but the first, and the new seat has
  -- only the first
  abbrev pub all_but_first : List (Entry T P) → List (Entry T P)
  all_but_first [] = []
  all_but_first (e ∷ v) = v

  abbrev pub only_first : List (Entry T P) → List (Entry T P)
  only_first [] = []
  only_first (e ∷ v) = e ∷ []

-- the one node in view did one act, which led to this member, these parcels, this hand and these
-- receipts
pub record DidAct {H S M : Type 0} (core : Core H S M) (n : ℕ) (v : List (Node S M))
    (y : MemberState S) (out : List (ℕ × Parcel M)) (hand : Option (ℕ × Parcel M))
    (receipts : List Receipt) : Type 0 where
  pub node : Node S M
  pub act : Act M
  pub alone : v ≡ node ∷ []
  pub may : MayDo n node.hand act
  pub state : y ≡ (act_of core act node.member).state
  pub letters : out ≡ (act_of core act node.member).letters
  pub closes : receipts ≡ node.receipts ++ closed_by (act_of core act node.member).answer
  pub kept : Keeps node.hand hand

-- each parcel that a node in view sent is for one of n nodes
abbrev pub GoToNodes : {T P : Type 0} → ℕ → List (Entry T P) → Type 0
GoToNodes {T} {P} n v = (e : Entry T P) → IsIn e v → (x : ℕ × P) → IsIn x e.sent → x.0 < n

-- the seat has this node alone and no slot, and the node is not moving a parcel
abbrev pub IsIdle : {T P : Type 0} → Me (Option P) (List (Entry T P)) → ℕ → Type 0
IsIdle {T} {P} m node = (e : Entry T P) × (m ≡ (e ∷ [], [])) × (e.node ≡ node) × (e.stage ≡ Idle)
