-- Sets as rows of marks: the row of a node marks the members of its set.
use Rattle.std.specs.Prelude.{ℕ, ◌<◌, ◌≡◌, ◌↔◌, Bool, true, false, List, [], slice_index_or, Result, MatchResult}
use Rattle.mx_stamps.specs.Lists.{IsIn}
use Rattle.mx_quorums.specs.Family.{Family, IsMeeting}
use Rattle.mx_quorums.specs.Rules.{AllOwn, IsFirstNotOwn, IsFirstApart}
use Rattle.mx_quorums.specs.declared.fault.QuorumFault.{QuorumFault}
use Rattle.mx_quorums.specs.declared.fault.QuorumFault.TheVariants.{NotOwnMember, Apart}

abbrev pub IsMarked : List Bool → ℕ → Type 0
IsMarked row j = slice_index_or row j false ≡ true

-- node j is marked in the row of node i
abbrev pub IsMember : List (List Bool) → ℕ → ℕ → Type 0
IsMember rows i j = IsMarked (slice_index_or rows i []) j

abbrev pub BothMark : List Bool → List Bool → ℕ → Type 0
BothMark a b k = IsMarked a k × IsMarked b k

-- the row marks the members of the list, and nothing else
abbrev pub Marks : List Bool → List ℕ → Type 0
Marks row list = (j : ℕ) → IsMarked row j ↔ IsIn j list

-- each row marks the members of the list at the same place, and nothing else
abbrev pub MarksLists : List (List Bool) → List (List ℕ) → Type 0
MarksLists rows lists = (i j : ℕ) → IsMember rows i j ↔ IsIn j (slice_index_or lists i [])

-- only rows of nodes have marks, and only at nodes
abbrev pub MarksNodes : ℕ → List (List Bool) → Type 0
MarksNodes n rows = (i j : ℕ) → IsMember rows i j → (i < n) × (j < n)

-- the fault is that of the first rule that the rows break: a node is not in its own set, or two
-- sets do not meet
abbrev pub IsFirstRowFault : ℕ → List (List Bool) → QuorumFault → Type 0
IsFirstRowFault n rows (NotOwnMember i) = IsFirstNotOwn (IsMember rows) n i
IsFirstRowFault n rows (Apart i j) = AllOwn (IsMember rows) n × IsFirstApart (IsMember rows) n i j
IsFirstRowFault n rows _ = ⊥

-- the check returns the family of these rows, which keeps the rules, or the fault of the first rule
-- that they break
abbrev pub IsChecked : ℕ → List (List Bool) → Result Family QuorumFault → Type 0
IsChecked n rows r =
    MatchResult r
    (λ q. (q ≡ record { count = n; rows = rows }) × IsMeeting q)
    (λ fault. IsFirstRowFault n rows fault)
