-- What holds in every world that is reached from the start.
use Rattle.std.specs.Prelude.{ℕ, ◌<◌, ◌≤◌, ◌≡◌, ◌⊎◌, true, Some, length}
use Rattle.mx_letters.specs.declared.raymond.RaymondMsg.{RaymondMsg}
use Rattle.mx_letters.specs.declared.raymond.RaymondMsg.TheVariants.{Request, Privilege, Got}
use Rattle.mx_nodelaws.specs.World.{World, IsNode, WasSent}
use Rattle.mx_nodelaws.specs.declared.phase.Phase.TheVariants.{Inside}
use Rattle.mx_nodelaws.specs.Bounds.{IsU64, BoundedPhase}
use Rattle.mx_nodelaws.specs.Rows.{IsGoodWorld}
use Rattle.mx_nodelaws.specs.Raised.{IsReachedBy, HasComeTo}
use Rattle.mx_raymond.specs.declared.unacked.Unacked.{Unacked}
use Rattle.mx_raymond.specs.Queue.{is_queued}
use Rattle.mx_raymond.specs.Node.{Node}
use Rattle.mx_raymond.specs.Step.{heard_from}

-- some node has entered section n or a later one, or n is 0
abbrev pub IsReached : World Node RaymondMsg → ℕ → Type 0
IsReached w n = IsReachedBy (λ (s : Node). s.mine) w n

-- no node has entered a section with a number above n
abbrev pub IsLast : World Node RaymondMsg → ℕ → Type 0
IsLast w n = (j : ℕ) (t : Node) → IsNode w j t → t.mine ≤ n

-- the `hop` of node j has reached this number
abbrev pub HasSeen : World Node RaymondMsg → ℕ → ℕ → Type 0
HasSeen w j hop = HasComeTo (λ (s : Node). s.hop) w j hop

-- what holds for each node; `highest` is the highest hop
pub record IsNodeOk (w : World Node RaymondMsg) (highest i : ℕ) (s : Node) : Type 0 where
  pub me : s.me ≡ i
  pub hop : s.hop ≤ highest
  -- `top` is at least `mine`, and at most the greatest `mine` of all nodes
  pub mine_top : s.mine ≤ s.top
  pub top_reached : IsReached w s.top
  -- a node that is inside has the privilege
  pub inside_holds : (n : ℕ) → s.phase ≡ Inside n → s.holder ≡ i
  -- the privilege that it may send again is one that it has sent
  pub unacked_sent : (u : Unacked) → s.unacked ≡ Some u → WasSent w i u.to (Privilege u.hop u.last)

-- what holds for each privilege that was sent
pub record IsPrivilegeOk (w : World Node RaymondMsg) (highest to hop last : ℕ) : Type 0 where
  pub low : hop ≤ highest
  -- it carries a section number that some node has reached
  pub reached : IsReached w last
  -- the addressee has seen the hop, unless the hop is the highest
  pub seen : hop < highest → HasSeen w to hop

abbrev pub IsLetterOk : World Node RaymondMsg → ℕ → ℕ → RaymondMsg → Type 0
IsLetterOk w highest to (Request number) = Unit {0}
IsLetterOk w highest to (Privilege hop last) = IsPrivilegeOk w highest to hop last
IsLetterOk w highest to (Got hop) = Unit {0}

-- one node has the privilege, at the highest hop
pub record IsHeld (w : World Node RaymondMsg) (highest : ℕ) : Type 0 where
  pub node : ℕ
  pub here : node < length w.nodes
  pub holder : (t : Node) → IsNode w node t → t.holder ≡ node
  pub hop : (t : Node) → IsNode w node t → t.hop ≡ highest
  -- no section above its `top` has been entered
  pub top : (t : Node) → IsNode w node t → IsLast w t.top
  -- no other node has the privilege
  pub alone : (j : ℕ) (t : Node) → IsNode w j t → t.holder ≡ j → j ≡ node
  -- each addressee of a privilege with the highest hop has seen this hop
  pub seen : (a b last : ℕ) → WasSent w a b (Privilege highest last) → HasSeen w b highest

-- the privilege with the highest hop is on its way: no other privilege was sent with this hop, and
-- the addressee has not seen the hop
pub record IsUnderWay (w : World Node RaymondMsg) (highest : ℕ) : Type 0 where
  pub from : ℕ
  pub to : ℕ
  pub last : ℕ
  pub sent : WasSent w from to (Privilege highest last)
  pub only : (a b c : ℕ) → WasSent w a b (Privilege highest c) → (a ≡ from) × (b ≡ to) × (c ≡ last)
  pub unseen : (t : Node) → IsNode w to t → t.hop < highest
  -- no section above the number that it carries has been entered
  pub top : IsLast w last
  -- no node has the privilege
  pub nobody : (j : ℕ) (t : Node) → IsNode w j t → t.holder ≡ j → ⊥

-- each node and each letter is as above, and the privilege is with one node or on its way
pub record IsSafeAt (w : World Node RaymondMsg) (highest : ℕ) : Type 0 where
  pub nodes : (i : ℕ) (s : Node) → IsNode w i s → IsNodeOk w highest i s
  pub letters : (a b : ℕ) (m : RaymondMsg) → WasSent w a b m → IsLetterOk w highest b m
  pub privilege : IsHeld w highest ⊎ IsUnderWay w highest

pub record IsSafe (w : World Node RaymondMsg) : Type 0 where
  pub highest : ℕ
  pub at : IsSafeAt w highest

-- each number in a letter is a u64 value
abbrev pub BoundedLetter : ℕ → RaymondMsg → Type 0
BoundedLetter n (Request number) = IsU64 number
BoundedLetter n (Privilege hop last) = IsU64 hop × IsU64 last
BoundedLetter n (Got hop) = IsU64 hop

-- the same for the unacknowledged privilege, which was sent to one of n nodes
abbrev pub BoundedUnacked : ℕ → Unacked → Type 0
BoundedUnacked n u = (u.to < n) × IsU64 u.hop × IsU64 u.last

-- the same for the state of a node; and each name is a node
pub record BoundedNode (n : ℕ) (s : Node) : Type 0 where
  pub me : s.me < n
  pub limit : IsU64 s.limit
  pub phase : BoundedPhase s.phase
  pub holder : s.holder < n
  pub queue : (j : ℕ) → is_queued s.queue j ≡ true → j < n
  pub hop : IsU64 s.hop
  pub unacked : (u : Unacked) → s.unacked ≡ Some u → BoundedUnacked n u
  pub asks : IsU64 s.asks
  pub sent : IsU64 s.sent
  pub heard : (j : ℕ) → IsU64 (heard_from s j)
  pub top : IsU64 s.top
  pub mine : IsU64 s.mine

abbrev pub IsGood : World Node RaymondMsg → Type 0
IsGood w = IsGoodWorld IsSafe BoundedNode BoundedLetter w
