-- How a step of one node may change it, and what it may send.
use Rattle.std.proofs.Common.{ℕ, ◌<◌, ◌≤◌, ◌≡◌, ◌⊎◌, None}
use Rattle.mx_stamps.specs.declared.stamp.Stamp.{Stamp}
use Rattle.mx_letters.specs.declared.maekawa.MaekawaMsg.{MaekawaMsg}
use Rattle.mx_letters.specs.declared.maekawa.MaekawaMsg.TheVariants.{Request, Locked, Failed, Inquire, Relinquish, Release}
use Rattle.mx_nodelaws.specs.World.{WasSent}
use Rattle.mx_nodelaws.specs.declared.phase.Phase.TheVariants.{Waiting}
use Rattle.mx_maekawa.specs.Node.{Node}
use Rattle.mx_maekawa.specs.Good.{NodeWorld, IsEnded, IsGiven, IsReached, IsLockedFor}

-- a letter that ends the lock for this stamp and grant was sent to node i; if it is a release,
-- `last` is at least its section number
abbrev pub IsToEnd : NodeWorld → ℕ → Stamp → ℕ → ℕ → Type 0
IsToEnd w i stamp g last = WasSent w stamp.node i (Relinquish stamp g)
    ⊎ ((later : Stamp) × (t : ℕ) × WasSent w stamp.node i (Release later t)
    × (stamp.number ≤ later.number) × (t ≤ last))

-- how a step of a node may change what other nodes and letters rely on
pub record MovesForward (w : NodeWorld) (i : ℕ) (s new : Node) : Type 0 where
  pub own : new.requester.own ≡ s.requester.own
  pub issued : s.requester.issued ≤ new.requester.issued
  pub mine : s.requester.mine ≤ new.requester.mine
  pub ended : (n : ℕ) → IsEnded s.requester n → IsEnded new.requester n
  pub given : (a : ℕ) (stamp : Stamp) (g : ℕ) → stamp.number ≤ s.requester.issued
      → IsGiven s.requester a stamp g → IsGiven new.requester a stamp g
  pub granted : s.arbiter.granted ≤ new.arbiter.granted
  pub last : s.arbiter.last ≤ new.arbiter.last
  pub lock : (stamp : Stamp) (g c : ℕ) → IsLockedFor s stamp g c → IsLockedFor new stamp g c
      ⊎ IsToEnd w i stamp g new.arbiter.last

-- the step gives grant g to node b: the arbiter, which had no lock, is now locked for it
pub record IsGranted (s new : Node) (b : ℕ) (stamp : Stamp) (g c : ℕ) : Type 0 where
  pub node : stamp.node ≡ b
  pub free : s.arbiter.lock ≡ None
  pub lock : IsLockedFor new stamp g c
  pub above : s.arbiter.granted < g
  pub granted : new.arbiter.granted ≡ g
  pub last : c ≡ s.arbiter.last

-- the step of node i gives grant g for its current stamp back to arbiter a
pub record IsGivingBack (i : ℕ) (s new : Node) (a : ℕ) (stamp : Stamp) (g : ℕ) : Type 0 where
  pub node : stamp.node ≡ i
  pub waiting : s.requester.phase ≡ Waiting
  pub number : stamp.number ≡ s.requester.issued
  pub given : IsGiven new.requester a stamp g

-- a release by node i: the stamp has ended; t is at least its `mine` and at most the greatest one
pub record IsReleasing (w : NodeWorld) (i : ℕ) (new : Node) (stamp : Stamp) (t : ℕ) : Type 0 where
  pub node : stamp.node ≡ i
  pub ended : IsEnded new.requester stamp.number
  pub mine : new.requester.mine ≤ t
  pub reached : IsReached w t

-- node i may send this letter to b in a step whose next state is `new`
abbrev pub IsSendable : NodeWorld → ℕ → Node → Node → ℕ → MaekawaMsg → Type 0
IsSendable w i s new b (Request stamp) = Unit {0}
IsSendable w i s new b (Locked stamp g c) =
    WasSent w i b (Locked stamp g c) ⊎ IsGranted s new b stamp g c
IsSendable w i s new b (Failed stamp) = Unit {0}
IsSendable w i s new b (Inquire stamp g) = (c : ℕ) × WasSent w i b (Locked stamp g c)
IsSendable w i s new b (Relinquish stamp g) = IsGivingBack i s new b stamp g
IsSendable w i s new b (Release stamp t) = IsReleasing w i new stamp t
