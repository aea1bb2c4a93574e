-- Rows of marks: rows without marks, and the effect of one more write.
use Rattle.std.proofs.Common.{ℕ, zero, suc, ◌+◌, ◌<◌, ◌≡◌, ◌⊎◌, inl, inr, ◌↔◌, Bool, true, false, List, [], length, get_or, set, replicate, refl, sym, subst, arith, ◌≤◌, Option, Some, None, MatchOption, IsSome}
use Rattle.std.proofs.lemmas.List.{get_or-set_same, get_or-set_other, length-set}
use Rattle.mx_stamps.proofs.Lists.{dec_eq, get_or_replicate}
use Rattle.mx_quorums.specs.Rows.{IsMarked, IsMember, BothMark, MarksNodes}
use Rattle.mx_quorums.specs.Rules.{IsLeast, AllOwn, AllMeet}
use Rattle.mx_quorums.specs.Family.{IsMeeting}

-- a fresh row marks nothing
pub none_marked : (n j : ℕ) → IsMarked (replicate n false) j → ⊥
none_marked n j h = let e : get_or (replicate n false) j false ≡ false = get_or_replicate n j false in cc

-- fresh rows mark nothing
pub none_in_rows : (n m i j : ℕ) → IsMember (replicate n (replicate m false)) i j → ⊥
none_in_rows zero m i j h = cc
none_in_rows (suc n) m zero j h = none_marked m j h
none_in_rows (suc n) m (suc i) j h = none_in_rows n m i j h

-- what holds for the elements below i only, holds for those below i + 1 only after a write of a
-- fitting element at i
pub one_more : {X : Type 0} (Q : X → Type 0) (d : X) (P : ℕ → Type 0) (xs : List X) (i : ℕ) (x : X)
    → i < length xs → ((k : ℕ) → Q (get_or xs k d) ↔ ((k < i) × P k)) → Q x ↔ P i → (k : ℕ)
    → Q (get_or (set xs i x) k d) ↔ ((k < i + 1) × P k)
one_more Q d P xs i x lt before here k = elim (dec_eq k i) [
  | inl e ↦
      let same : get_or (set xs i x) i d ≡ x = get_or-set_same xs i x d lt in
      let there : Q (get_or (set xs i x) i d) ↔ ((i < i + 1) × P i) = ((λ h. (omega arith, here.0 (subst Q same h))), (λ p. subst Q (sym same) (here.1 p.1))) in
      subst (λ m. Q (get_or (set xs i x) m d) ↔ ((m < i + 1) × P m)) (sym e) there
  | inr ne ↦
      let other : get_or (set xs i x) k d ≡ get_or xs k d = get_or-set_other xs i k x d ne in
      ((λ h. let b = (before k).0 (subst Q other h) in (omega (arith, b.0), b.1)), (λ p. subst Q (sym other) ((before k).1 (omega (arith, p.0, ne), p.1))))
]

-- the rows below i mark what P says about them, and the others mark nothing
pub record AreRowsBelow (P : ℕ → ℕ → Type 0) (i : ℕ) (rows : List (List Bool)) : Type 0 where
  pub long : length rows ≡ 21
  pub marks : (k j : ℕ) → IsMember rows k j ↔ ((k < i) × P k j)

-- no row yet
pub no_row : (P : ℕ → ℕ → Type 0) → AreRowsBelow P 0 (replicate 21 (replicate 21 false))
no_row P = record {
  long = refl;
  marks = λ k j. ((λ h. absurd (none_in_rows 21 21 k j h)), (λ p. absurd (omega (arith, p.0))));
}

-- one more row
pub one_more_row : (P : ℕ → ℕ → Type 0) (rows : List (List Bool)) (i : ℕ) (row : List Bool)
    → i < 21 → AreRowsBelow P i rows
    → ((j : ℕ) → IsMarked row j ↔ P i j) → AreRowsBelow P (i + 1) (set rows i row)
one_more_row P rows i row lt before here =
    let long = before.long in record {
      long = simp length-set long;
      marks = λ k j. one_more (λ r. IsMarked r j) [] (λ m. P m j) rows i row (omega arith) (λ m. before.marks m j) (here j) k;
    }

-- one more mark
pub marked_more : (P : ℕ → Type 0) (row : List Bool) (p : ℕ) → p < length row
    → ((j : ℕ) → IsMarked row j ↔ P j) → (j : ℕ) → IsMarked (set row p true) j ↔ (P j ⊎ (j ≡ p))
marked_more P row p lt before j = elim (dec_eq j p) [
  | inl e ↦
      let same : get_or (set row p true) p false ≡ true = get_or-set_same row p true false lt in
      ((λ h. inr e), (λ q. subst (IsMarked (set row p true)) (sym e) same))
  | inr ne ↦
      let other : get_or (set row p true) j false ≡ get_or row j false = get_or-set_other row p j true false ne in
      ((λ h. inl ((before j).0 (subst (λ v. v ≡ true) other h))), (λ q. elim q [ inl a ↦ subst (λ v. v ≡ true) (sym other) ((before j).1 a) | inr e ↦ absurd (ne e) ]))
]

-- one mark more, or none
pub one_more_mark : (P : ℕ → Type 0) (row : List Bool) (i : ℕ) (v : Bool) → i < length row
    → ((j : ℕ) → IsMarked row j ↔ ((j < i) × P j)) → (v ≡ true) ↔ P i → (j : ℕ)
    → IsMarked (set row i v) j ↔ ((j < i + 1) × P j)
one_more_mark P row i v lt before here j = one_more (λ x. x ≡ true) false P row i v lt before here j

-- rows that are checked are a meeting family
pub rows_meet : (n : ℕ) (rows : List (List Bool)) → 0 < n → n ≤ 21 → MarksNodes n rows
    → AllOwn (IsMember rows) n → AllMeet (IsMember rows) n
    → IsMeeting (record { count = n; rows = rows })
rows_meet n rows some few marks own meet = record { some = some; few = few; own = own; nodes = λ i j lt h. (marks i j h).1; meet = meet }

-- the search for a common node finds one if there is one
pub finds_common : (a b : List Bool) (r : Option ℕ)
    → MatchOption r ((k : ℕ) → BothMark a b k → ⊥) (λ k. IsLeast (BothMark a b) 21 k)
    → (k : ℕ) × IsMarked a k × IsMarked b k → IsSome r
finds_common a b None none w = absurd (none w.0 (w.1, w.2))
finds_common a b (Some k) h w = refl
