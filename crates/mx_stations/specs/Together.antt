use Rattle.std.specs.Prelude.{◌≡◌, ℕ, ◌%◌, ◌<◌, List, length, Some}
use mathlib.Core.Option.{some}
use lib.ListN.{get_elem?}
use Rattle.mx_stamps.specs.Lists.{IsIn}
use Rattle.mx_nodelaws.specs.World.{World}
use Rattle.mx_nodelaws.specs.Core.{Core}
use Rattle.mx_member.specs.declared.parcel.Parcel.{Parcel}
use Rattle.mx_stations.specs.Entries.{Node}
use Rattle.mx_stations.specs.Running.{Once, Shown, word_of}

abbrev pub IsOddAt : List ℕ → ℕ → Type 0
IsOddAt words i = (w : ℕ) × (get_elem? words i ≡ some w) × (w % 2 ≡ 1)

abbrev pub AtMostOneOdd : ℕ → List ℕ → Type 0
AtMostOneOdd n words =
    (i j : ℕ) → i < n → j < n → IsOddAt words i → IsOddAt words j → i ≡ j

-- These are different nodes of one running cluster of n nodes (`world`), with their entries there.
-- The first n words of its table are the nodes' status words, and at most one of these is odd. Each
-- parcel in a hand was sent by one of the nodes to the node that has it.
pub record RunTogether {H S M : Type 0} (core : Core H S M) (Good : World S M → Type 0) (n : ℕ)
    (these : List (Node S M)) : Type 0 where
  pub world : List (Node S M)
  pub long : length world ≡ n
  pub numbered : (i : ℕ) (e : Node S M) → get_elem? world i ≡ some e → e.node ≡ i
  pub stands : (e : Node S M) → IsIn e these → get_elem? world e.node ≡ some e
  pub once : Once these
  pub words : List ℕ
  pub shown : Shown core Good words world
  pub one_odd : AtMostOneOdd n words

-- these are different nodes of one running cluster, in which node i has this status word
pub record ShowsNode {H S M : Type 0} (core : Core H S M) (Good : World S M → Type 0)
    (n i word : ℕ) (these : List (Node S M)) : Type 0 where
  pub together : RunTogether core Good n these
  pub found : get_elem? together.words i ≡ some word
  pub other : Node S M
  pub there : get_elem? together.world i ≡ some other
  pub shows : word ≡ word_of core other.member

-- if e has a parcel from f in hand, then f sent it to e
abbrev pub HoldsSent : {S M : Type 0} → Node S M → Node S M → Type 0
HoldsSent {S} {M} e f = (p : Parcel M) → e.hand ≡ Some (f.node, p) → IsIn (e.node, p) f.sent
