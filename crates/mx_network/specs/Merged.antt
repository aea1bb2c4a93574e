use Rattle.std.specs.Prelude.{ℕ, ◌<◌, List, [], length}
use Rattle.mx_stamps.specs.Lists.{IsIn}
use Rattle.mx_journal.specs.Settled.{IsWithin, JournalState, unsettled}
use Rattle.mx_member.specs.Member.{MemberState}
use Rattle.mx_member.specs.World.{IsMember}

-- the journal is above the journal of each of these nodes
abbrev pub IsAboveAll : {S : Type 0} → List (MemberState S) → List ℕ → JournalState → Type 0
IsAboveAll {S} members nodes journal =
    (i : ℕ) (m : MemberState S) → IsIn i nodes → IsMember members i m → IsWithin m.journal journal

-- the list has every node of the cluster
abbrev pub IsOfAll : {S : Type 0} → List (MemberState S) → List ℕ → Type 0
IsOfAll members nodes = (i : ℕ) → i < length members → IsIn i nodes

-- the journal is below every journal that is above an empty one and above those of these nodes
abbrev pub IsBelowEach : {S : Type 0} → List (MemberState S) → List ℕ → JournalState → Type 0
IsBelowEach members nodes journal =
    (other : JournalState) → IsWithin (unsettled []) other → IsAboveAll members nodes other →
    IsWithin journal other
