-- There is one first fault, and none of a tree whose holder is a node.
use Rattle.std.proofs.Common.{ℕ, zero, suc, ◌+◌, ◌<◌, ◌≤◌, ◌≡◌, ◌≢◌, ◌⊎◌, inl, inr, Bool, true, false, List, length, ◌↔◌, Ok, Err, Result, IsOk, IsErrOf, refl, sym, ◌∙◌, ap, subst, arith}
use Rattle.mx_stamps.proofs.Lists.{dec_eq}
use Rattle.mx_trees.specs.declared.fault.TreeFault.{TreeFault}
use Rattle.mx_trees.specs.declared.fault.TreeFault.TheVariants.{NoNodes, TooMany, BadEdge, WrongCount, NotJoined, BadHolder}
use Rattle.mx_trees.specs.Edges.{AreEdges, AreJoined, IsTree, IsFirstBadEdge, IsFirstUnjoined, IsFirstFault}

-- the place of a fault in the order
abbrev rank : TreeFault → ℕ
rank NoNodes = 0
rank TooMany = 1
rank (BadEdge k) = 2
rank WrongCount = 3
rank (NotJoined i) = 4
rank BadHolder = 5

-- what is right once the first s kinds of faults are ruled out
record Passed (n : ℕ) (edges : List (ℕ × ℕ)) (s : ℕ) : Type 0 where
  last : s ≤ 5
  some : 0 < s → 0 < n
  few : 1 < s → n ≤ 21
  linked : 2 < s → AreEdges n (length edges) edges
  count : 3 < s → length edges + 1 ≡ n
  joined : 4 < s → AreJoined n edges

tree_passed : (n : ℕ) (edges : List (ℕ × ℕ)) → IsTree n edges → Passed n edges 5
tree_passed n edges t = record { last = omega arith; some = λ l. t.some; few = λ l. t.few; linked = λ l. t.linked; count = λ l. t.count; joined = λ l. t.joined }

passed : (n : ℕ) (edges : List (ℕ × ℕ)) (holder : ℕ) (g : TreeFault) → IsFirstFault n edges holder g → Passed n edges (rank g)
passed n edges holder NoNodes a = record { last = omega arith; some = λ l. absurd (omega arith); few = λ l. absurd (omega arith); linked = λ l. absurd (omega arith); count = λ l. absurd (omega arith); joined = λ l. absurd (omega arith) }
passed n edges holder TooMany a = record { last = omega arith; some = λ l. omega arith; few = λ l. absurd (omega arith); linked = λ l. absurd (omega arith); count = λ l. absurd (omega arith); joined = λ l. absurd (omega arith) }
passed n edges holder (BadEdge k) a = record { last = omega arith; some = λ l. a.0; few = λ l. a.1; linked = λ l. absurd (omega arith); count = λ l. absurd (omega arith); joined = λ l. absurd (omega arith) }
passed n edges holder WrongCount a = record { last = omega arith; some = λ l. a.0.0; few = λ l. a.0.1; linked = λ l. a.0.2; count = λ l. absurd (omega arith); joined = λ l. absurd (omega arith) }
passed n edges holder (NotJoined i) a = record { last = omega arith; some = λ l. a.0.0; few = λ l. a.0.1; linked = λ l. a.0.2; count = λ l. a.1; joined = λ l. absurd (omega arith) }
passed n edges holder BadHolder a = tree_passed n edges a.0

-- a fault of a kind that is ruled out
clash : (n : ℕ) (edges : List (ℕ × ℕ)) (holder : ℕ) (f : TreeFault) (s : ℕ) → rank f < s → IsFirstFault n edges holder f → Passed n edges s → ⊥
clash n edges holder NoNodes s l a p = let q = p.some l in omega arith
clash n edges holder TooMany s l a p = let q = p.few l in omega arith
clash n edges holder (BadEdge k) s l a p = a.2.2 (p.linked l k a.2.0)
clash n edges holder WrongCount s l a p = a.1 (p.count l)
clash n edges holder (NotJoined i) s l a p = a.2.2 (p.joined l i a.2.0)
clash n edges holder BadHolder s l a p = let q = p.last in omega arith

-- the lesser of two numbers, where they differ
lesser : (k m : ℕ) → k ≢ m → (k < m) ⊎ (m < k)
lesser zero zero ne = absurd (ne refl)
lesser zero (suc m) ne = inl (omega arith)
lesser (suc k) zero ne = inr (omega arith)
lesser (suc k) (suc m) ne = elim (lesser k m (λ e. ne (ap suc e))) [ inl l ↦ inl (omega arith) | inr l ↦ inr (omega arith) ]

-- two first witnesses of one rule are one
one_edge : (n : ℕ) (edges : List (ℕ × ℕ)) (k m : ℕ) → IsFirstBadEdge n edges k → IsFirstBadEdge n edges m → k ≡ m
one_edge n edges k m a b = elim (dec_eq k m) [
  | inl e ↦ e
  | inr ne ↦ elim (lesser k m ne) [ inl l ↦ absurd (a.2 (b.1 k l)) | inr l ↦ absurd (b.2 (a.1 m l)) ]
]

one_node : (n : ℕ) (edges : List (ℕ × ℕ)) (i j : ℕ) → IsFirstUnjoined n edges i → IsFirstUnjoined n edges j → i ≡ j
one_node n edges i j a b = elim (dec_eq i j) [
  | inl e ↦ e
  | inr ne ↦ elim (lesser i j ne) [ inl l ↦ absurd (a.2 (b.1 i l)) | inr l ↦ absurd (b.2 (a.1 j l)) ]
]

differ : (n : ℕ) (edges : List (ℕ × ℕ)) (holder : ℕ) (f g : TreeFault) → IsFirstFault n edges holder f → IsFirstFault n edges holder g → rank f ≢ rank g → ⊥
differ n edges holder f g a b ne = elim (lesser (rank f) (rank g) ne) [
  | inl l ↦ clash n edges holder f (rank g) l a (passed n edges holder g b)
  | inr l ↦ clash n edges holder g (rank f) l b (passed n edges holder f a)
]

pub one_fault : (n : ℕ) (edges : List (ℕ × ℕ)) (holder : ℕ) (f g : TreeFault) → IsFirstFault n edges holder f → IsFirstFault n edges holder g → f ≡ g
one_fault n edges holder NoNodes NoNodes a b = refl
one_fault n edges holder TooMany TooMany a b = refl
one_fault n edges holder (BadEdge k) (BadEdge m) a b = ap BadEdge (one_edge n edges k m a.2 b.2)
one_fault n edges holder WrongCount WrongCount a b = refl
one_fault n edges holder (NotJoined i) (NotJoined j) a b = ap NotJoined (one_node n edges i j a.2 b.2)
one_fault n edges holder BadHolder BadHolder a b = refl
one_fault n edges holder f g a b = absurd (differ n edges holder f g a b (λ e. omega arith))

pub no_fault : (n : ℕ) (edges : List (ℕ × ℕ)) (holder : ℕ) → IsTree n edges → holder < n → (f : TreeFault) → IsFirstFault n edges holder f → ⊥
no_fault n edges holder t l BadHolder a = let q = a.1 in omega arith
no_fault n edges holder t l f a = clash n edges holder f 5 (omega arith) a (tree_passed n edges t)

-- a refusal for the first fault is for that alone
pub refused : {T : Type 0} (n : ℕ) (edges : List (ℕ × ℕ)) (holder : ℕ) (r : Result T TreeFault) (e : TreeFault) → r ≡ Err e → IsFirstFault n edges holder e → (f : TreeFault) → IsErrOf r f ↔ IsFirstFault n edges holder f
refused {T} n edges holder r e is first f =
    let same : Err e ≡ Err f → e ≡ f = λ (q : ◌≡◌ {A = Result T TreeFault} (Err e) (Err f)). cc in
    let P : TreeFault → Type 0 = λ g. IsFirstFault n edges holder g in
    let Q : TreeFault → Type 0 = λ g. IsErrOf r g in
    ((λ q. subst P (same (sym is ∙ q)) first), (λ b. subst Q (one_fault n edges holder e f first b) is))

-- and refuses no tree
pub refuses : {T : Type 0} (n : ℕ) (edges : List (ℕ × ℕ)) (holder : ℕ) (r : Result T TreeFault) (e : TreeFault) → r ≡ Err e → IsFirstFault n edges holder e → IsOk r ↔ (IsTree n edges × (holder < n))
refuses {T} n edges holder r e is first =
    let P : Result T TreeFault → Type 0 = λ x. IsOk x in
    ((λ k. let bad : ◌≡◌ {A = Bool} false true = subst P is k in let no : ⊥ = cc in absurd no), (λ t. absurd (no_fault n edges holder t.0 t.1 e first)))

-- a tree that is accepted has no fault
pub accepted : {T : Type 0} (n : ℕ) (edges : List (ℕ × ℕ)) (holder : ℕ) (r : Result T TreeFault) (x : T) → r ≡ Ok x → IsTree n edges → holder < n → (f : TreeFault) → IsErrOf r f ↔ IsFirstFault n edges holder f
accepted {T} n edges holder r x is t l f =
    ((λ q. let bad : ◌≡◌ {A = Result T TreeFault} (Ok x) (Err f) = sym is ∙ q in let no : ⊥ = cc in absurd no), (λ b. absurd (no_fault n edges holder t l f b)))
