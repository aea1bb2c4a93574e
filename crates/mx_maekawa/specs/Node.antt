-- The state of a node: it asks for the section as a requester, and grants it as an arbiter.
use Rattle.std.specs.Prelude.{ℕ, Bool, List, Option}
use Rattle.mx_stamps.specs.declared.stamp.Stamp.{Stamp}
use Rattle.mx_nodelaws.specs.declared.phase.Phase.{Phase}
use Rattle.mx_quorums.specs.Family.{Family}
use Rattle.mx_maekawa.specs.declared.lock.Lock.{Lock}

pub record RequesterState : Type 0 where
  pub me : ℕ
  -- for each node, whether it is one of this node's arbiters
  pub own : List Bool
  pub count : ℕ
  -- the greatest number that a section may have
  pub limit : ℕ
  pub phase : Phase
  -- the highest stamp number that it has seen or drawn
  pub highest : ℕ
  -- the number of its latest stamp
  pub issued : ℕ
  -- the stamp of its latest request, current while the node waits or is inside
  pub ours : Stamp
  -- for each arbiter, the number of its grant, if one is held for the current request
  pub held : List (Option ℕ)
  -- for each arbiter, the number of the highest grant that was given back to it
  pub back : List ℕ
  -- for each arbiter, whether it has failed the current request or got its grant back, and has not
  -- granted the request since
  pub failed : List Bool
  -- for each arbiter, the number of the grant that it has asked back, while this inquiry is
  -- remembered
  pub remembered : List (Option ℕ)
  -- the highest section number that it knows
  pub top : ℕ
  -- the number of the last section that it entered, or 0 before the first
  pub mine : ℕ

pub record ArbiterState : Type 0 where
  pub count : ℕ
  -- the request that the arbiter is locked for, with the grant
  pub lock : Option Lock
  -- the number of its last grant
  pub granted : ℕ
  -- for each node, the stamp of its request, if it waits for a grant
  pub waiting : List (Option Stamp)
  -- for each node, the greatest number of a stamp of that node that is known to have ended
  pub ended : List ℕ
  -- the highest section number received in a release
  pub last : ℕ

pub record Node : Type 0 where
  pub quorums : Family
  pub requester : RequesterState
  pub arbiter : ArbiterState
