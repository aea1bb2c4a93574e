use Rattle.std.specs.Prelude.{ℕ, ◌≤◌, ◌≡◌, Bool, true, List, Option, Some}
use Rattle.mx_stamps.specs.declared.limits.TheConstants.{MAX_SECTIONS}
use Rattle.mx_nodelaws.specs.declared.phase.Phase.{Phase}
use Rattle.mx_nodelaws.specs.declared.phase.Phase.TheVariants.{Waiting}
use Rattle.mx_nodelaws.specs.Core.{BearsNumber}
use Rattle.mx_trees.specs.Tree.{Rooted}
use Rattle.mx_raymond.specs.declared.unacked.Unacked.{Unacked}
use Rattle.mx_raymond.specs.Queue.{is_queued}

pub record Node : Type 0 where
  pub me : ℕ
  pub tree : Rooted
  -- the greatest number that a section may have
  pub limit : ℕ
  pub phase : Phase
  -- the node itself if it has the privilege, and otherwise the neighbour in whose direction the
  -- privilege is
  pub holder : ℕ
  -- the neighbours that want the privilege from this node, and the node itself while it waits; the
  -- oldest request is first
  pub queue : List ℕ
  -- whether it has sent its holder a request, and has not had the privilege since
  pub has_asked : Bool
  -- the highest hop of a privilege that it has sent or taken, or the origin before the first
  pub hop : ℕ
  -- the privilege that it sent last, until the arrival of this privilege is known
  pub unacked : Option Unacked
  -- how many of its calls of `ask` were accepted; how many requests it has sent, without repeats
  pub asks : ℕ
  pub sent : ℕ
  -- for each neighbour, the highest number of a request that was taken from it
  pub heard : List ℕ
  -- the highest section number that it knows
  pub top : ℕ
  -- the number of the last section that it entered, or 0 before the first
  pub mine : ℕ

-- what holds for the state of every node, whatever the other nodes do
pub record IsState (s : Node) : Type 0 where
  pub mine : s.mine ≤ MAX_SECTIONS
  pub limit : s.limit ≤ MAX_SECTIONS
  pub phase : BearsNumber s.phase
  -- its own name is in its queue only while it waits
  pub queued : is_queued s.queue s.me ≡ true → s.phase ≡ Waiting
  -- the privilege that may be sent again was sent to the node that is now `holder`
  pub unacked : (u : Unacked) → s.unacked ≡ Some u → u.to ≡ s.holder
