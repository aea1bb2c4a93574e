-- At most one fault is the first, and lists with a first fault are no meeting family.
use Rattle.std.proofs.Common.{ℕ, ◌<◌, ◌≡◌, ◌↔◌, Bool, List, length, refl, sym, ◌∙◌, ap, subst, arith, find, nat_le, Ok, Err, Result, IsOk, IfOk, IsErrOf, IsErrAnd}
use Rattle.std.proofs.lemmas.Option.{same_Some}
use Rattle.mx_quorums.specs.Family.{Family, IsMeeting}
use Rattle.mx_quorums.specs.Rules.{IsLeast, Meet, IsFirstApartOf}
use Rattle.mx_quorums.specs.Rows.{IsMember, MarksLists, IsFirstRowFault, IsChecked}
use Rattle.mx_quorums.specs.Lists.{list_of, IsListed, IsCounted, NoneEmpty, AllNodes, IsFirstStranger, AreMeeting, IsFamilyOf, IsFirstFault}
use Rattle.mx_quorums.specs.declared.fault.QuorumFault.{QuorumFault}
use Rattle.mx_quorums.specs.declared.fault.QuorumFault.TheVariants.{NoNodes, TooMany, EmptySet, Stranger, NotOwnMember, Apart, NoPlane}

-- the least number is unique
pub least_same : (P : ℕ → Type 0) (n i j : ℕ) → IsLeast P n i → IsLeast P n j → i ≡ j
least_same P n i j a b =
    let not_below : j < i → ⊥ = λ h. a.2 j h b.1 in
    let not_above : i < j → ⊥ = λ h. b.2 i h a.1 in
    omega (arith, not_below, not_above)

-- the least number for which two equivalent properties hold is the same
pub least_along : (P Q : ℕ → Type 0) (n i : ℕ) → ((k : ℕ) → P k → Q k) → ((k : ℕ) → Q k → P k)
    → IsLeast P n i → IsLeast Q n i
least_along P Q n i there back a = (a.0, there i a.1, (λ k lt q. a.2 k lt (back k q)))

-- the place of a fault in the order
level : QuorumFault → ℕ
level NoNodes = 0
level TooMany = 1
level (EmptySet i) = 2
level (Stranger i j) = 3
level (NotOwnMember i) = 4
level (Apart i j) = 5
level (NoPlane n) = 6

-- a stranger is no node
stranger_breaks : (lists : List (List ℕ)) (i j : ℕ) → IsFirstStranger lists i j → AllNodes lists → ⊥
stranger_breaks lists i j a all = let w = a.0.1 in let below : w.0 < length lists = all i w.0 a.0.0 w.1 in omega (arith, w.2)

-- a fault is not the first if there is an earlier one
earlier : (lists : List (List ℕ)) (f g : QuorumFault) → level f < level g → IsFirstFault lists f
    → IsFirstFault lists g → ⊥
unfolding level
earlier lists NoNodes TooMany lt a b = omega arith
earlier lists NoNodes (EmptySet i) lt a b = omega (arith, b.0.0)
earlier lists NoNodes (Stranger i j) lt a b = omega (arith, b.0.0)
earlier lists NoNodes (NotOwnMember i) lt a b = omega (arith, b.0.0)
earlier lists NoNodes (Apart i j) lt a b = omega (arith, b.0.0)
earlier lists TooMany (EmptySet i) lt a b = omega (arith, b.0.1)
earlier lists TooMany (Stranger i j) lt a b = omega (arith, b.0.1)
earlier lists TooMany (NotOwnMember i) lt a b = omega (arith, b.0.1)
earlier lists TooMany (Apart i j) lt a b = omega (arith, b.0.1)
earlier lists (EmptySet k) (Stranger i j) lt a b = b.1 k a.1.0 a.1.1
earlier lists (EmptySet k) (NotOwnMember i) lt a b = b.1 k a.1.0 a.1.1
earlier lists (EmptySet k) (Apart i j) lt a b = b.1 k a.1.0 a.1.1
earlier lists (Stranger k m) (NotOwnMember i) lt a b = stranger_breaks lists k m a.2 b.2
earlier lists (Stranger k m) (Apart i j) lt a b = stranger_breaks lists k m a.2 b.2
earlier lists (NotOwnMember k) (Apart i j) lt a b = a.3.1 (b.3 k a.3.0)
earlier lists f (NoPlane n) lt a b = b
earlier lists f g lt a b = omega arith

-- faults at the same place in the order are equal
same_level : (lists : List (List ℕ)) (f g : QuorumFault) → level f ≡ level g → IsFirstFault lists f
    → IsFirstFault lists g → f ≡ g
unfolding level
same_level lists NoNodes NoNodes e a b = refl
same_level lists TooMany TooMany e a b = refl
same_level lists (EmptySet i) (EmptySet j) e a b = ap EmptySet (least_same _ (length lists) i j a.1 b.1)
same_level lists (Stranger i j) (Stranger k m) e a b =
    let first : i ≡ k = least_same _ (length lists) i k a.2.0 b.2.0 in
    let second : j ≡ m = same_Some j m (sym a.2.1 ∙ ap (λ x. find (nat_le (length lists)) (list_of lists x)) first ∙ b.2.1) in
    cc
same_level lists (NotOwnMember i) (NotOwnMember j) e a b = ap NotOwnMember (least_same _ (length lists) i j a.3 b.3)
same_level lists (Apart i j) (Apart k m) e a b =
    let first : i ≡ k = least_same _ (length lists) i k a.4.0 b.4.0 in
    let moved : IsFirstApartOf (IsListed lists) (length lists) k j = subst (λ x. IsFirstApartOf (IsListed lists) (length lists) x j) first a.4.1 in
    let second : j ≡ m = least_same _ (length lists) j m moved b.4.1 in
    cc
same_level lists f (NoPlane n) e a b = absurd b
same_level lists f g e a b = absurd (omega arith)

-- at most one fault is the first
pub first_same : (lists : List (List ℕ)) (f g : QuorumFault) → IsFirstFault lists f → IsFirstFault lists g → f ≡ g
first_same lists f g a b =
    let not_before : level f < level g → ⊥ = λ lt. earlier lists f g lt a b in
    let not_after : level g < level f → ⊥ = λ lt. earlier lists g f lt b a in
    same_level lists f g (omega (arith, not_before, not_after)) a b

-- a meeting family has no fault
pub no_fault : (lists : List (List ℕ)) (f : QuorumFault) → AreMeeting lists → IsFirstFault lists f → ⊥
no_fault lists NoNodes m a = omega (arith, m.counted.0)
no_fault lists TooMany m a = omega (arith, m.counted.1)
no_fault lists (EmptySet i) m a = m.filled i a.1.0 a.1.1
no_fault lists (Stranger i j) m a = stranger_breaks lists i j a.2 m.nodes
no_fault lists (NotOwnMember i) m a = a.3.1 (m.own i a.3.0)
no_fault lists (Apart i j) m a = a.4.1.1 (m.meet i j a.4.0.0 a.4.1.0)
no_fault lists (NoPlane n) m a = a

-- what the result for lists says: the family if the lists meet, and otherwise the first fault
pub record Answers (lists : List (List ℕ)) (r : Result Family QuorumFault) : Type 0 where
  pub ok : IsOk r ↔ AreMeeting lists
  pub sets : IfOk r (IsFamilyOf lists)
  pub fault : (f : QuorumFault) → IsErrOf r f ↔ IsFirstFault lists f

-- two faults of the same error are equal
same_err : (f g : QuorumFault) (r : Result Family QuorumFault) → r ≡ Err f → r ≡ Err g → f ≡ g
same_err f g r a b = cc

-- a fault that is the first refuses the lists
pub refused : (lists : List (List ℕ)) (f : QuorumFault) → IsFirstFault lists f → Answers lists (Err f)
refused lists f a = record {
  ok = ((λ h. let bad : ⊥ = cc in absurd bad), (λ m. absurd (no_fault lists f m a)));
  sets = tt;
  fault = λ g. ((λ e. subst (IsFirstFault lists) (same_err f g (Err f) refl e) a), (λ b. ap Err (first_same lists f g a b)));
}

-- a meeting family is accepted
pub accepted : (lists : List (List ℕ)) (q : Family) → AreMeeting lists → IsFamilyOf lists q → Answers lists (Ok q)
accepted lists q m family = record {
  ok = ((λ h. m), (λ h. refl));
  sets = family;
  fault = λ g. ((λ e. let bad : ⊥ = cc in absurd bad), (λ b. absurd (no_fault lists g m b)));
}

-- the first rule that the rows break is the first that the lists break
row_fault : (lists : List (List ℕ)) (rows : List (List Bool)) → IsCounted lists → NoneEmpty lists
    → AllNodes lists → MarksLists rows lists → (f : QuorumFault) → IsFirstRowFault (length lists) rows f
    → IsFirstFault lists f
row_fault lists rows counted filled nodes same (NotOwnMember i) a =
    (counted, filled, nodes, least_along _ _ (length lists) i (λ k no own. no ((same k k).1 own)) (λ k no own. no ((same k k).0 own)) a)
row_fault lists rows counted filled nodes same (Apart i j) (own, first) =
    let there : (k m : ℕ) → Meet (IsMember rows) k m → Meet (IsListed lists) k m = λ k m w. (w.0, (same k w.0).0 w.1, (same m w.0).0 w.2) in
    let back : (k m : ℕ) → Meet (IsListed lists) k m → Meet (IsMember rows) k m = λ k m w. (w.0, (same k w.0).1 w.1, (same m w.0).1 w.2) in
    let n = length lists in
    let node = least_along _ _ n i (λ k w. (w.0, w.1, (λ met. w.2 (back k w.0 met)))) (λ k w. (w.0, w.1, (λ met. w.2 (there k w.0 met)))) first.0 in
    let other = least_along _ _ n j (λ k no met. no (back i k met)) (λ k no met. no (there i k met)) first.1 in
    (counted, filled, nodes, (λ k lt. (same k k).0 (own k lt)), (node, other))
row_fault lists rows counted filled nodes same _ a = absurd a

-- the result of the check, for rows that mark the lists
checked_whole : (lists : List (List ℕ)) (rows : List (List Bool)) → IsCounted lists → NoneEmpty lists
    → AllNodes lists → MarksLists rows lists → (r : Result Family QuorumFault)
    → IsChecked (length lists) rows r → Answers lists r
checked_whole lists rows counted filled nodes same (Err f) a = refused lists f (row_fault lists rows counted filled nodes same f a)
checked_whole lists rows counted filled nodes same (Ok q) (is, met) =
    let m : IsMeeting (record { count = length lists; rows = rows }) = subst IsMeeting is met in
    let all : AreMeeting lists = record {
      counted = counted;
      filled = filled;
      nodes = nodes;
      own = λ i lt. (same i i).0 (m.own i lt);
      meet = λ i j lt lt2. let w = m.meet i j lt lt2 in (w.0, (same i w.0).0 w.1, (same j w.0).0 w.2);
    } in
    subst (λ x. Answers lists (Ok x)) (sym is) (accepted lists (record { count = length lists; rows = rows }) all (record { count = refl; sets = same }))

-- the same for the number that was counted
pub checked_answers : (lists : List (List ℕ)) (n : ℕ) (rows : List (List Bool)) → n ≡ length lists
    → IsCounted lists → NoneEmpty lists → AllNodes lists → MarksLists rows lists
    → (r : Result Family QuorumFault) → IsChecked n rows r → Answers lists r
checked_answers lists n rows e counted filled nodes same r a =
    checked_whole lists rows counted filled nodes same r (subst (λ (m : ℕ). IsChecked m rows r) e a)

-- what is refused, if the fault is the first
pub refused_by : (lists : List (List ℕ)) (f : QuorumFault) (r : Result Family QuorumFault)
    → IsErrAnd r (λ e. e ≡ f) → IsFirstFault lists f → Answers lists r
refused_by lists f (Err e) is a = subst (λ g. Answers lists (Err g)) (sym is) (refused lists f a)
refused_by lists f (Ok q) is a = absurd is
