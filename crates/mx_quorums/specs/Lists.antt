-- Sets given as lists of members.
use Rattle.std.specs.Prelude.{ℕ, ◌<◌, ◌≤◌, ◌≡◌, ◌≢◌, ◌⊎◌, ◌↔◌, true, List, [], map, length, slice_index_or, nat_le, find, Some, Vec}
use Rattle.std.specs.declared.alloc.Global.{Global}
use Rattle.mx_stamps.specs.declared.limits.TheConstants.{MAX_NODES}
use Rattle.mx_stamps.specs.Lists.{IsIn}
use Rattle.mx_quorums.specs.Family.{Family, has_of}
use Rattle.mx_quorums.specs.Rules.{IsLeast, AllOwn, AllMeet, IsFirstNotOwn, IsFirstApart}
use Rattle.mx_quorums.specs.declared.fault.QuorumFault.{QuorumFault}
use Rattle.mx_quorums.specs.declared.fault.QuorumFault.TheVariants.{NoNodes, TooMany, EmptySet, Stranger, NotOwnMember, Apart, NoPlane}

-- the list of members that each vector holds
abbrev pub lists_of : List (Vec ℕ Global) → List (List ℕ)
lists_of vectors = map (λ v. v.items) vectors

-- the list of node i, empty if there is no such node
abbrev pub list_of : List (List ℕ) → ℕ → List ℕ
list_of lists i = slice_index_or lists i []

-- node j is in the list of node i
abbrev pub IsListed : List (List ℕ) → ℕ → ℕ → Type 0
IsListed lists i j = IsIn j (list_of lists i)

-- there are 1 to 21 lists
abbrev pub IsCounted : List (List ℕ) → Type 0
IsCounted lists = (0 < length lists) × (length lists ≤ MAX_NODES)

abbrev pub NoneEmpty : List (List ℕ) → Type 0
NoneEmpty lists = (i : ℕ) → i < length lists → list_of lists i ≢ []

abbrev pub AllNodes : List (List ℕ) → Type 0
AllNodes lists = (i j : ℕ) → i < length lists → IsListed lists i j → j < length lists

-- there are 1 to 21 lists, none of them empty, of nodes only; each node is in its own list, and any
-- two lists have a node in common
pub record AreMeeting (lists : List (List ℕ)) : Type 0 where
  pub counted : IsCounted lists
  pub filled : NoneEmpty lists
  pub nodes : AllNodes lists
  pub own : AllOwn (IsListed lists) (length lists)
  pub meet : AllMeet (IsListed lists) (length lists)

-- the family has the lists as its sets
pub record IsFamilyOf (lists : List (List ℕ)) (f : Family) : Type 0 where
  pub count : f.count ≡ length lists
  pub sets : (i j : ℕ) → (has_of f i j ≡ true) ↔ IsListed lists i j

abbrev pub IsFirstEmpty : List (List ℕ) → ℕ → Type 0
IsFirstEmpty lists i = IsLeast (λ k. list_of lists k ≡ []) (length lists) i

-- i is the least node whose list has a member that is no node, and j is the first such member
abbrev pub IsFirstStranger : List (List ℕ) → ℕ → ℕ → Type 0
IsFirstStranger lists i j =
    IsLeast (λ k. (m : ℕ) × IsListed lists k m × (length lists ≤ m)) (length lists) i
    × (find (nat_le (length lists)) (list_of lists i) ≡ Some j)

-- the fault is that of the first rule, in the order of `QuorumFault`, that the lists break; its
-- numbers are those of the first breach
abbrev pub IsFirstFault : List (List ℕ) → QuorumFault → Type 0
IsFirstFault lists NoNodes = length lists ≡ 0
IsFirstFault lists TooMany = MAX_NODES < length lists
IsFirstFault lists (EmptySet i) = IsCounted lists × IsFirstEmpty lists i
IsFirstFault lists (Stranger i j) = IsCounted lists × NoneEmpty lists × IsFirstStranger lists i j
IsFirstFault lists (NotOwnMember i) =
    IsCounted lists × NoneEmpty lists × AllNodes lists
    × IsFirstNotOwn (IsListed lists) (length lists) i
IsFirstFault lists (Apart i j) =
    IsCounted lists × NoneEmpty lists × AllNodes lists × AllOwn (IsListed lists) (length lists)
    × IsFirstApart (IsListed lists) (length lists) i j
IsFirstFault lists (NoPlane n) = ⊥

-- the fault of a number of nodes that is 0 or above 21
abbrev pub IsCountFault : ℕ → QuorumFault → Type 0
IsCountFault count fault =
    ((fault ≡ NoNodes) × (count ≡ 0)) ⊎ ((fault ≡ TooMany) × (MAX_NODES < count))

abbrev pub IsEmptyFault : List (List ℕ) → QuorumFault → Type 0
IsEmptyFault lists fault = (i : ℕ) × (fault ≡ EmptySet i) × IsFirstEmpty lists i

abbrev pub IsStrangerFault : List (List ℕ) → QuorumFault → Type 0
IsStrangerFault lists fault =
    (i : ℕ) × (j : ℕ) × (fault ≡ Stranger i j) × IsFirstStranger lists i j
