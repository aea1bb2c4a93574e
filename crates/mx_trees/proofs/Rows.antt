-- Rows of neighbours, by the list of edges that they are made of.
use Rattle.std.proofs.Common.{ℕ, zero, suc, ◌+◌, ◌≡◌, ◌≢◌, ◌↔◌, ◌<◌, ◌⊎◌, inl, inr, Bool, true, false, List, [], ◌∷◌, ◌++◌, length, get_or, replicate, take, slice_index_or, slice_set, refl, sym, ◌∙◌, ap, subst, add-one, arith}
use Rattle.std.proofs.lemmas.List.{get_or-set_same, get_or-set_other, get_or-replicate, length-set}
use Rattle.std.proofs.Math.Seq.{take-suc}
use Rattle.mx_stamps.specs.Lists.{IsIn}
use Rattle.mx_stamps.proofs.Lists.{dec_eq, get_or_replicate, in_left, in_right, in_append}
use Rattle.mx_stamps.proofs.Choices.{not_both}
use Rattle.mx_trees.specs.Tree.{IsSquare}
use Rattle.mx_trees.specs.Edges.{IsLinked}

-- whether place j of row i is marked
abbrev pub is_marked : List (List Bool) → ℕ → ℕ → Bool
is_marked rows i j = slice_index_or (slice_index_or rows i []) j false

-- 21 rows of 21 places, in which exactly the linked nodes are marked
pub record IsRows (rows : List (List Bool)) (edges : List (ℕ × ℕ)) : Type 0 where
  pub square : IsSquare rows
  pub near : (i j : ℕ) → (is_marked rows i j ≡ true) ↔ IsLinked edges i j

-- place j of row i marked
abbrev marked : List (List Bool) → ℕ → ℕ → List (List Bool)
marked rows i j = slice_set rows i (slice_set (slice_index_or rows i []) j true)

marked_row : (rows : List (List Bool)) (a b : ℕ) → IsSquare rows → a < 21 → get_or (marked rows a b) a [] ≡ slice_set (get_or rows a []) b true
marked_row rows a b s lt = get_or-set_same rows a (slice_set (slice_index_or rows a []) b true) [] (omega (arith, s.tall))

other_row : (rows : List (List Bool)) (a b i : ℕ) → i ≢ a → get_or (marked rows a b) i [] ≡ get_or rows i []
other_row rows a b i ne = get_or-set_other rows a i (slice_set (slice_index_or rows a []) b true) [] ne

square_marked : (rows : List (List Bool)) (a b : ℕ) → IsSquare rows → a < 21 → IsSquare (marked rows a b)
square_marked rows a b s lt = record {
  tall = length-set rows a (slice_set (slice_index_or rows a []) b true) ∙ s.tall;
  wide = λ i h. elim (dec_eq i a) [
    | inl e ↦
        let P : ℕ → Type 0 = λ k. length (get_or (marked rows a b) k []) ≡ 21 in
        subst P (sym e) (ap (λ (r : List Bool). length r) (marked_row rows a b s lt) ∙ length-set (get_or rows a []) b true ∙ s.wide a lt)
    | inr ne ↦ ap (λ (r : List Bool). length r) (other_row rows a b i ne) ∙ s.wide i h
  ];
}

-- the marked place is marked
mark_set : (rows : List (List Bool)) (a b : ℕ) → IsSquare rows → a < 21 → b < 21 → is_marked (marked rows a b) a b ≡ true
mark_set rows a b s la lb =
    ap (λ (r : List Bool). get_or r b false) (marked_row rows a b s la) ∙ get_or-set_same (get_or rows a []) b true false (omega (arith, s.wide a la))

-- any other place is as it was
mark_other : (rows : List (List Bool)) (a b i j : ℕ) → IsSquare rows → a < 21 → ((i ≡ a) × (j ≡ b) → ⊥) → is_marked (marked rows a b) i j ≡ is_marked rows i j
mark_other rows a b i j s la ne = elim (dec_eq i a) [
  | inl e ↦
      let P : ℕ → Type 0 = λ k. is_marked (marked rows a b) k j ≡ is_marked rows k j in
      let other : j ≢ b = λ q. ne (e, q) in
      subst P (sym e) (ap (λ (r : List Bool). get_or r j false) (marked_row rows a b s la) ∙ get_or-set_other (get_or rows a []) b j true false other)
  | inr no_row ↦ ap (λ (r : List Bool). get_or r j false) (other_row rows a b i no_row)
]

same_place : (i j a b : ℕ) → ((i ≡ a) × (j ≡ b)) ⊎ ((i ≡ a) × (j ≡ b) → ⊥)
same_place i j a b = elim (dec_eq i a) [
  | inl e ↦ elim (dec_eq j b) [ inl q ↦ inl (e, q) | inr nq ↦ inr (λ p. nq p.1) ]
  | inr ne ↦ inr (λ p. ne p.0)
]

-- a mark is the new one or an old one
marked_then : (rows : List (List Bool)) (a b i j : ℕ) → IsSquare rows → a < 21 → is_marked (marked rows a b) i j ≡ true → ((i ≡ a) × (j ≡ b)) ⊎ (is_marked rows i j ≡ true)
marked_then rows a b i j s la t = elim (same_place i j a b) [
  | inl same ↦ inl same
  | inr other ↦ inr (sym (mark_other rows a b i j s la other) ∙ t)
]

marked_still : (rows : List (List Bool)) (a b i j : ℕ) → IsSquare rows → a < 21 → b < 21 → is_marked rows i j ≡ true → is_marked (marked rows a b) i j ≡ true
marked_still rows a b i j s la lb t = elim (same_place i j a b) [
  | inl same ↦
      let P : ℕ → Type 0 = λ k. is_marked (marked rows a b) k j ≡ true in
      let Q : ℕ → Type 0 = λ k. is_marked (marked rows a b) a k ≡ true in
      subst P (sym same.0) (subst Q (sym same.1) (mark_set rows a b s la lb))
  | inr other ↦ mark_other rows a b i j s la other ∙ t
]

-- rows with no mark
no_mark : (n i j : ℕ) → is_marked (replicate n (replicate 21 false)) i j ≡ false
no_mark zero i j = refl
no_mark (suc n) zero j = get_or_replicate 21 j false
no_mark (suc n) (suc i) j = no_mark n i j

pub rows_at : IsRows (replicate 21 (replicate 21 false)) []
rows_at = record {
  square = record { tall = refl; wide = λ i lt. ap (λ (r : List Bool). length r) (get_or-replicate 21 i (replicate 21 false) [] lt) };
  near = λ i j. ((λ t. absurd (not_both (is_marked (replicate 21 (replicate 21 false)) i j) t (no_mark 21 i j))), (λ l. elim l [ inl n ↦ absurd n | inr n ↦ absurd n ]));
}

same_pair : (i j a b : ℕ) → i ≡ a → j ≡ b → ◌≡◌ {A = ℕ × ℕ} (i, j) (a, b)
same_pair i j a b e q =
    let P : ℕ → Type 0 = λ k. ◌≡◌ {A = ℕ × ℕ} (i, j) (k, b) in
    let Q : ℕ → Type 0 = λ k. ◌≡◌ {A = ℕ × ℕ} (i, j) (i, k) in
    subst P e (subst Q q refl)

same_parts : (i j a b : ℕ) → ◌≡◌ {A = ℕ × ℕ} (i, j) (a, b) → (i ≡ a) × (j ≡ b)
same_parts i j a b e = (ap (λ (p : ℕ × ℕ). p.0) e, ap (λ (p : ℕ × ℕ). p.1) e)

-- one more edge

module _ (rows : List (List Bool)) (edges : List (ℕ × ℕ)) (a b : ℕ) (h : IsRows rows edges) (la : a < 21) (lb : b < 21) where
  square : IsSquare rows
  square = h.square

  first : IsSquare (marked rows a b)
  first = square_marked rows a b square la

  second : IsSquare (marked (marked rows a b) b a)
  second = square_marked (marked rows a b) b a first lb

  linked_by : (i j : ℕ) → is_marked (marked (marked rows a b) b a) i j ≡ true → IsLinked (edges ++ (a, b) ∷ []) i j
  linked_by i j t = elim (marked_then (marked rows a b) b a i j first lb t) [
    | inl same ↦ inr (in_right (j, i) edges ((a, b) ∷ []) (inl (same_pair j i a b same.1 same.0)))
    | inr u ↦ elim (marked_then rows a b i j square la u) [
      | inl same ↦ inl (in_right (i, j) edges ((a, b) ∷ []) (inl (same_pair i j a b same.0 same.1)))
      | inr v ↦ elim ((h.near i j).0 v) [ inl n ↦ inl (in_left (i, j) edges ((a, b) ∷ []) n) | inr n ↦ inr (in_left (j, i) edges ((a, b) ∷ []) n) ]
    ]
  ]

  -- what was marked before, and the new edge's two places
  old_mark : (i j : ℕ) → IsLinked edges i j → is_marked (marked (marked rows a b) b a) i j ≡ true
  old_mark i j l = marked_still (marked rows a b) b a i j first lb la (marked_still rows a b i j square la lb ((h.near i j).1 l))

  there : is_marked (marked (marked rows a b) b a) a b ≡ true
  there = marked_still (marked rows a b) b a a b first lb la (mark_set rows a b square la lb)

  back : is_marked (marked (marked rows a b) b a) b a ≡ true
  back = mark_set (marked rows a b) b a first lb la

  -- an edge of the longer list is one of the list, or the new one
  old_or_new : (i j : ℕ) → IsIn (i, j) (edges ++ (a, b) ∷ []) → IsIn (i, j) edges ⊎ ((i ≡ a) × (j ≡ b))
  old_or_new i j n = elim (in_append (i, j) edges ((a, b) ∷ []) n) [
    | inl m ↦ inl m
    | inr m ↦ elim m [ inl e ↦ inr (same_parts i j a b e) | inr none ↦ absurd none ]
  ]

  mark_at : (i j k l : ℕ) → (i ≡ k) × (j ≡ l) → is_marked (marked (marked rows a b) b a) k l ≡ true → is_marked (marked (marked rows a b) b a) i j ≡ true
  mark_at i j k l p here =
      subst (λ x. is_marked (marked (marked rows a b) b a) x j ≡ true) (sym p.0) (subst (λ y. is_marked (marked (marked rows a b) b a) k y ≡ true) (sym p.1) here)

  marked_by : (i j : ℕ) → IsLinked (edges ++ (a, b) ∷ []) i j → is_marked (marked (marked rows a b) b a) i j ≡ true
  marked_by i j l = elim l [
    | inl n ↦ elim (old_or_new i j n) [ inl m ↦ old_mark i j (inl m) | inr p ↦ mark_at i j a b p there ]
    | inr n ↦ elim (old_or_new j i n) [ inl m ↦ old_mark i j (inr m) | inr p ↦ mark_at i j b a (p.1, p.0) back ]
  ]

  rows_and : IsRows (marked (marked rows a b) b a) (edges ++ (a, b) ∷ [])
  rows_and = record { square = second; near = λ i j. (linked_by i j, marked_by i j) }

-- the rows of one more edge of the list
pub rows_with : (rows : List (List Bool)) (edges : List (ℕ × ℕ)) (k : ℕ) → IsRows rows (take k edges) → k < length edges → (get_or edges k (0, 0)).0 < 21 → (get_or edges k (0, 0)).1 < 21 → IsRows (marked (marked rows (get_or edges k (0, 0)).0 (get_or edges k (0, 0)).1) (get_or edges k (0, 0)).1 (get_or edges k (0, 0)).0) (take (k + 1) edges)
rows_with rows edges k h lt la lb =
    let a = (get_or edges k (0, 0)).0 in
    let b = (get_or edges k (0, 0)).1 in
    let P : List (ℕ × ℕ) → Type 0 = λ xs. IsRows (marked (marked rows a b) b a) xs in
    let more : take (k + 1) edges ≡ take k edges ++ (a, b) ∷ [] = rw add-one (take-suc edges k (0, 0) lt) in
    subst P (sym more) (rows_and rows (take k edges) a b h la lb)
