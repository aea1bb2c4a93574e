-- What holds in every world that is reached from the start.
use Rattle.std.specs.Prelude.{ℕ, ◌<◌, ◌≤◌, ◌≡◌, ◌⊎◌, true, false, Some, length, Bool, List, slice_index_or}
use Rattle.mx_stamps.specs.declared.limits.TheConstants.{MAX_NODES}
use Rattle.mx_stamps.specs.declared.stamp.Stamp.{Stamp}
use Rattle.mx_letters.specs.declared.maekawa.MaekawaMsg.{MaekawaMsg}
use Rattle.mx_letters.specs.declared.maekawa.MaekawaMsg.TheVariants.{Request, Locked, Failed, Inquire, Relinquish, Release}
use Rattle.mx_nodelaws.specs.World.{World, IsNode, WasSent, IsEachOk}
use Rattle.mx_nodelaws.specs.declared.phase.Phase.TheVariants.{Inside}
use Rattle.mx_nodelaws.specs.Phases.{is_busy}
use Rattle.mx_nodelaws.specs.Bounds.{IsU64, BoundedStamp, BoundedPhase}
use Rattle.mx_nodelaws.specs.Rows.{IsGoodWorld}
use Rattle.mx_nodelaws.specs.Raised.{IsReachedBy}
use Rattle.mx_maekawa.specs.declared.lock.Lock.{Lock}
use Rattle.mx_maekawa.specs.Node.{RequesterState, ArbiterState, Node}
use Rattle.mx_maekawa.specs.RequesterStep.{is_own, held_at, remembered_at, back_at, has_failed}
use Rattle.mx_maekawa.specs.ArbiterStep.{waiting_at, ended_at}

abbrev pub NodeWorld : Type 0
NodeWorld = World Node MaekawaMsg

-- the requester has a current stamp
abbrev pub IsBusy : RequesterState → Type 0
IsBusy r = is_busy r.phase ≡ true

-- the requester's stamp of this number has ended: it is not current, and will not be again
abbrev pub IsEnded : RequesterState → ℕ → Type 0
IsEnded r number = (number ≤ r.issued) × (IsBusy r → number < r.issued)

-- no grant of arbiter a up to g will be held for this stamp again: the stamp has ended, grant g or
-- a later one was given back, or a later one is held
abbrev pub IsGiven : RequesterState → ℕ → Stamp → ℕ → Type 0
IsGiven r a stamp g =
    IsEnded r stamp.number ⊎ ((g ≤ back_at r a) ⊎ ((h : ℕ) × (held_at r a ≡ Some h) × (g < h)))

-- some node has entered section n or a later one, or n is 0
abbrev pub IsReached : NodeWorld → ℕ → Type 0
IsReached w n = IsReachedBy (λ (s : Node). s.requester.mine) w n

-- node i has sent a letter to arbiter a that gives grant g back, or that ends the request with this
-- stamp
abbrev pub IsOver : NodeWorld → ℕ → ℕ → Stamp → ℕ → Type 0
IsOver w a i stamp g =
    WasSent w i a (Relinquish stamp g)
    ⊎ ((later : Stamp) × (t : ℕ) × WasSent w i a (Release later t) × (stamp.number ≤ later.number))

-- node s, as an arbiter, is locked for this stamp, with this grant and this section number
abbrev pub IsLockedFor : Node → Stamp → ℕ → ℕ → Type 0
IsLockedFor s stamp g c = s.arbiter.lock ≡ Some (record { stamp = stamp; grant = g; last = c })

-- the entry of node i into its last section, whose number is `mine`; nothing is said of the sections
-- that it entered before
pub record IsEntered (w : NodeWorld) (i : ℕ) (s : Node) : Type 0 where
  -- the stamp of this entry, and the number of the grant of each arbiter for it
  pub stamp : Stamp
  pub grant_of : ℕ → ℕ
  pub node : stamp.node ≡ i
  -- while the node is inside, the stamp is the current one, and these grants are held; after that,
  -- the stamp has ended
  pub inside : (n : ℕ) → s.requester.phase ≡ Inside n → (stamp ≡ s.requester.ours)
      × ((a : ℕ) → is_own s.requester a ≡ true → held_at s.requester a ≡ Some (grant_of a))
  pub ended : ((n : ℕ) → s.requester.phase ≡ Inside n → ⊥) → IsEnded s.requester stamp.number
  -- each grant was sent, and was not given back
  pub sent : (a : ℕ) → is_own s.requester a ≡ true →
      (c : ℕ) × WasSent w a i (Locked stamp (grant_of a) c)
  pub kept : (a : ℕ) → is_own s.requester a ≡ true → WasSent w i a (Relinquish stamp (grant_of a)) →
      ⊥
  -- each release of the stamp or a later one carries the section's number or a higher one
  pub released : (a : ℕ) (later : Stamp) (t : ℕ) → WasSent w i a (Release later t) →
      stamp.number ≤ later.number → s.requester.mine ≤ t
  -- each of its arbiters is still locked for this grant, or has received the section's number or a
  -- higher one
  pub locked : (a : ℕ) (arbiter : Node) → is_own s.requester a ≡ true → IsNode w a arbiter →
      ((c : ℕ) × IsLockedFor arbiter stamp (grant_of a) c)
      ⊎ (s.requester.mine ≤ arbiter.arbiter.last)
  -- each later grant of its arbiters carries the section's number or a higher one
  pub after : (a b : ℕ) (other : Stamp) (g c : ℕ) → is_own s.requester a ≡ true →
      WasSent w a b (Locked other g c) → grant_of a < g → s.requester.mine ≤ c

-- what holds for a grant that is held: its arbiter is locked for it
pub record IsHeldOk (w : NodeWorld) (s : Node) (a g : ℕ) : Type 0 where
  pub own : is_own s.requester a ≡ true
  pub back : back_at s.requester a < g
  pub c : ℕ
  pub top : c ≤ s.requester.top
  pub lock : (arbiter : Node) → IsNode w a arbiter → IsLockedFor arbiter s.requester.ours g c

-- what holds for the name, the count and the set of node i: the name is i, the count is at most 21,
-- the members of the set are nodes, and the set meets that of every node
pub record IsPlaced (w : NodeWorld) (i name count : ℕ) (row : List Bool) : Type 0 where
  pub me : name ≡ i
  pub few : count ≤ MAX_NODES
  pub own_few : (a : ℕ) → slice_index_or row a false ≡ true → a < count
  pub own_node : (a : ℕ) → slice_index_or row a false ≡ true → (arbiter : Node) × IsNode w a arbiter
  pub meet : (j : ℕ) (t : Node) → IsNode w j t →
      (a : ℕ) × (slice_index_or row a false ≡ true) × (is_own t.requester a ≡ true)

-- what holds for each node
pub record IsNodeOk (w : NodeWorld) (i : ℕ) (s : Node) : Type 0 where
  pub placed : IsPlaced w i s.requester.me s.requester.count s.requester.own
  pub back_places : length s.requester.back ≡ MAX_NODES
  pub held_places : length s.requester.held ≡ MAX_NODES
  -- a current stamp is the node's latest one, and the clock has seen it
  pub issued : s.requester.issued ≤ s.requester.highest
  pub ours_node : IsBusy s.requester → s.requester.ours.node ≡ i
  pub ours_number : IsBusy s.requester → s.requester.ours.number ≡ s.requester.issued
  -- `top` is at least `mine`; `top` and `last` are at most the greatest `mine` of all nodes
  pub mine_top : s.requester.mine ≤ s.requester.top
  pub top_reached : IsReached w s.requester.top
  pub last_reached : IsReached w s.arbiter.last
  -- the lock is for the last grant, and its LOCKED was sent
  pub lock_last : (lock : Lock) → s.arbiter.lock ≡ Some lock → (lock.grant ≡ s.arbiter.granted)
      × WasSent w i lock.stamp.node (Locked lock.stamp lock.grant lock.last)
  pub held : IsBusy s.requester → (a g : ℕ) → held_at s.requester a ≡ Some g → IsHeldOk w s a g
  -- a node that is inside holds a grant of each arbiter of its set
  pub inside_holds : (n : ℕ) → s.requester.phase ≡ Inside n → (a : ℕ) →
      is_own s.requester a ≡ true → (g : ℕ) × (held_at s.requester a ≡ Some g)
  -- a remembered inquiry is for the grant that is held
  pub remembered_held : (a g : ℕ) → remembered_at s.requester a ≡ Some g →
      held_at s.requester a ≡ Some g
  pub entered : 0 < s.requester.mine → IsEntered w i s

-- what holds for each LOCKED that was sent
pub record IsLockedOk (w : NodeWorld) (a b : ℕ) (stamp : Stamp) (g c : ℕ) : Type 0 where
  pub node : stamp.node ≡ b
  pub granted : (s : Node) → IsNode w a s → g ≤ s.arbiter.granted
  -- it carries a section number that some node has reached
  pub reached : IsReached w c
  -- each LOCKED of this arbiter with the same grant has the same stamp and section number
  pub same : (other_b : ℕ) (other : Stamp) (other_c : ℕ) →
      WasSent w a other_b (Locked other g other_c) → (other ≡ stamp) × (other_c ≡ c)
  -- the arbiter is locked for this grant, or was sent a letter that ends the lock
  pub ends : (s : Node) → IsNode w a s → IsLockedFor s stamp g c ⊎ IsOver w a b stamp g

-- what holds for each RELINQUISH that was sent: the grant will not be held again
pub record IsRelinquishOk (w : NodeWorld) (i a : ℕ) (stamp : Stamp) (g : ℕ) : Type 0 where
  pub node : stamp.node ≡ i
  pub issued : (s : Node) → IsNode w i s → stamp.number ≤ s.requester.issued
  pub given : (s : Node) → IsNode w i s → IsGiven s.requester a stamp g

-- what holds for each RELEASE that was sent: its stamp has ended, and it carries a section number
-- that some node has reached
pub record IsReleaseOk (w : NodeWorld) (i : ℕ) (stamp : Stamp) (t : ℕ) : Type 0 where
  pub node : stamp.node ≡ i
  pub ended : (s : Node) → IsNode w i s → IsEnded s.requester stamp.number
  pub reached : IsReached w t

abbrev pub IsLetterOk : NodeWorld → ℕ → ℕ → MaekawaMsg → Type 0
IsLetterOk w a b (Request stamp) = Unit {0}
IsLetterOk w a b (Locked stamp g c) = IsLockedOk w a b stamp g c
IsLetterOk w a b (Failed stamp) = Unit {0}
IsLetterOk w a b (Inquire stamp g) = (c : ℕ) × WasSent w a b (Locked stamp g c)
IsLetterOk w a b (Relinquish stamp g) = IsRelinquishOk w a b stamp g
IsLetterOk w a b (Release stamp t) = IsReleaseOk w a stamp t

-- each node and each letter is as above. Each part of a step keeps this
abbrev pub IsSound : NodeWorld → Type 0
IsSound w = IsEachOk IsNodeOk IsLetterOk w

-- no inquiry is remembered while an arbiter has failed. A whole step keeps this, but its parts may
-- not
abbrev pub HasNoOverdueInquiry : RequesterState → Type 0
HasNoOverdueInquiry r =
    (a g b : ℕ) → b < r.count → remembered_at r a ≡ Some g → has_failed r b ≡ false

pub record IsSafe (w : NodeWorld) : Type 0 where
  pub sound : IsSound w
  pub none_overdue : (i : ℕ) (s : Node) → IsNode w i s → HasNoOverdueInquiry s.requester

-- each number in a letter is a u64 value, and each name a node
abbrev pub BoundedLetter : ℕ → MaekawaMsg → Type 0
BoundedLetter n (Request stamp) = BoundedStamp n stamp
BoundedLetter n (Locked stamp g c) = BoundedStamp n stamp × IsU64 g × IsU64 c
BoundedLetter n (Failed stamp) = BoundedStamp n stamp
BoundedLetter n (Inquire stamp g) = BoundedStamp n stamp × IsU64 g
BoundedLetter n (Relinquish stamp g) = BoundedStamp n stamp × IsU64 g
BoundedLetter n (Release stamp t) = BoundedStamp n stamp × IsU64 t

-- the same for the parts of a node's state
pub record BoundedRequester (n : ℕ) (r : RequesterState) : Type 0 where
  pub me : r.me < n
  pub own : (a : ℕ) → is_own r a ≡ true → a < n
  pub count : r.count ≤ n
  pub limit : IsU64 r.limit
  pub phase : BoundedPhase r.phase
  pub highest : IsU64 r.highest
  pub issued : IsU64 r.issued
  pub ours : BoundedStamp n r.ours
  pub held : (a g : ℕ) → held_at r a ≡ Some g → IsU64 g
  pub back : (a x : ℕ) → back_at r a ≡ x → IsU64 x
  pub remembered : (a g : ℕ) → remembered_at r a ≡ Some g → IsU64 g
  pub top : IsU64 r.top
  pub mine : IsU64 r.mine

pub record BoundedLock (n : ℕ) (lock : Lock) : Type 0 where
  pub stamp : BoundedStamp n lock.stamp
  pub grant : IsU64 lock.grant
  pub last : IsU64 lock.last

pub record BoundedArbiter (n : ℕ) (a : ArbiterState) : Type 0 where
  pub count : a.count ≤ n
  pub lock : (lock : Lock) → a.lock ≡ Some lock → BoundedLock n lock
  pub granted : IsU64 a.granted
  pub waiting : (j : ℕ) (u : Stamp) → waiting_at a j ≡ Some u → BoundedStamp n u
  pub ended : (j x : ℕ) → ended_at a j ≡ x → IsU64 x
  pub last : IsU64 a.last

pub record BoundedNode (n : ℕ) (s : Node) : Type 0 where
  pub requester : BoundedRequester n s.requester
  pub arbiter : BoundedArbiter n s.arbiter

abbrev pub IsGood : NodeWorld → Type 0
IsGood w = IsGoodWorld IsSafe BoundedNode BoundedLetter w
