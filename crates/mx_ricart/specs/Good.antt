-- What holds in every world that is reached from the start.
use Rattle.std.specs.Prelude.{ℕ, ◌<◌, ◌≤◌, ◌≡◌, ◌≢◌, true, Some, length}
use Rattle.mx_stamps.specs.declared.stamp.Stamp.{Stamp}
use Rattle.mx_stamps.specs.Stamp.{Before}
use Rattle.mx_letters.specs.declared.ricart.RicartMsg.{RicartMsg}
use Rattle.mx_letters.specs.declared.ricart.RicartMsg.TheVariants.{Request, Reply}
use Rattle.mx_nodelaws.specs.World.{World, IsNode, WasSent, IsEachOk}
use Rattle.mx_nodelaws.specs.declared.phase.Phase.TheVariants.{Inside}
use Rattle.mx_nodelaws.specs.Phases.{is_busy}
use Rattle.mx_nodelaws.specs.Bounds.{IsU64, BoundedStamp, BoundedPhase}
use Rattle.mx_nodelaws.specs.Rows.{IsGoodWorld}
use Rattle.mx_nodelaws.specs.Raised.{IsReachedBy, HasComeTo}
use Rattle.mx_ricart.specs.Node.{Node}
use Rattle.mx_ricart.specs.Step.{has_reply, deferred_at}

-- node s has a current stamp
abbrev pub IsBusy : Node → Type 0
IsBusy s = is_busy s.phase ≡ true

-- the clock of node i (its `highest`) has reached this number
abbrev pub HasSeen : World Node RicartMsg → ℕ → ℕ → Type 0
HasSeen w i number = HasComeTo (λ (s : Node). s.highest) w i number

-- some node has entered section n or a later one, or n is 0
abbrev pub IsReached : World Node RicartMsg → ℕ → Type 0
IsReached w n = IsReachedBy (λ (s : Node). s.mine) w n

-- what holds for each node
pub record IsNodeOk (w : World Node RicartMsg) (i : ℕ) (s : Node) : Type 0 where
  pub me : s.me ≡ i
  pub count : s.count ≡ length w.nodes
  -- a current stamp is the node's own, and its clock has seen it
  pub ours_node : IsBusy s → s.ours.node ≡ i
  pub ours_seen : IsBusy s → s.ours.number ≤ s.highest
  -- `top` is at least `mine`, and at most the greatest `mine` of all nodes
  pub mine_top : s.mine ≤ s.top
  pub top_reached : IsReached w s.top
  -- a node that is inside has every reply
  pub inside_has : (n : ℕ) → s.phase ≡ Inside n → (j : ℕ) → j < length w.nodes → j ≢ i →
      has_reply s j ≡ true
  -- each reply that has counted was sent for the current stamp, with a section number up to `top`
  pub replies : IsBusy s → (j : ℕ) → has_reply s j ≡ true →
      (top : ℕ) × (WasSent w j i (Reply s.ours top)) × (top ≤ s.top)
  -- a deferred request is that of another node, at the place of that node, and the clocks of both
  -- nodes have seen it
  pub waits : (j : ℕ) (d : Stamp) → deferred_at s j ≡ Some d →
      (j ≢ i) × (d.node ≡ j) × (d.number ≤ s.highest) × HasSeen w j d.number

-- what holds for each request that was sent: the stamp is the sender's, and the sender's clock has
-- seen it
pub record IsRequestOk (w : World Node RicartMsg) (a : ℕ) (stamp : Stamp) : Type 0 where
  pub node : stamp.node ≡ a
  pub issued : HasSeen w a stamp.number

-- what holds for each reply that was sent
pub record IsReplyOk (w : World Node RicartMsg) (a b : ℕ) (stamp : Stamp) (top : ℕ) : Type 0 where
  pub other : a ≢ b
  -- the clocks of both nodes have seen the stamp
  pub issued : HasSeen w b stamp.number
  pub seen : HasSeen w a stamp.number
  -- it carries a section number that some node has reached
  pub reached : IsReached w top
  -- while the stamp is the current one of the addressee, the sender of the reply has entered no
  -- section above `top`, and a current stamp of the sender comes after this one
  pub stands : (s t : Node) → IsNode w a s → IsNode w b t → IsBusy t → t.ours ≡ stamp →
      (s.mine ≤ top) × (IsBusy s → Before stamp s.ours)

abbrev pub IsLetterOk : World Node RicartMsg → ℕ → ℕ → RicartMsg → Type 0
IsLetterOk w a b (Request stamp) = IsRequestOk w a stamp
IsLetterOk w a b (Reply stamp top) = IsReplyOk w a b stamp top

-- each node and each letter is as above
abbrev pub IsSafe : World Node RicartMsg → Type 0
IsSafe w = IsEachOk IsNodeOk IsLetterOk w

-- each number in a letter is a u64 value, and each name a node
abbrev pub BoundedLetter : ℕ → RicartMsg → Type 0
BoundedLetter n (Request stamp) = BoundedStamp n stamp
BoundedLetter n (Reply stamp top) = BoundedStamp n stamp × IsU64 top

-- the same for the state of a node
pub record BoundedNode (n : ℕ) (s : Node) : Type 0 where
  pub me : s.me < n
  pub count : s.count ≤ n
  pub limit : IsU64 s.limit
  pub phase : BoundedPhase s.phase
  pub highest : IsU64 s.highest
  pub ours : BoundedStamp n s.ours
  pub waits : (j : ℕ) (d : Stamp) → deferred_at s j ≡ Some d → BoundedStamp n d
  pub top : IsU64 s.top
  pub mine : IsU64 s.mine

abbrev pub IsGood : World Node RicartMsg → Type 0
IsGood w = IsGoodWorld IsSafe BoundedNode BoundedLetter w
