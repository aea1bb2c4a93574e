-- A growing tree: what holds of the root alone, and with one more node.
use Rattle.std.proofs.Common.{ℕ, ◌+◌, ◌<◌, ◌≤◌, ◌≡◌, ◌≢◌, inl, inr, true, false, nat_eq, List, [], ◌∷◌, get_or, replicate, slice_set, refl, sym, ◌∙◌, ap, subst, arith}
use Rattle.std.specs.List.{count_by}
use Rattle.std.proofs.lemmas.List.{get_or-set_same, get_or-set_other, get_or-replicate, length-set}
use Rattle.mx_stamps.specs.Lists.{IsIn}
use Rattle.mx_stamps.proofs.Lists.{dec_eq, get_or_replicate}
use Rattle.mx_stamps.proofs.Choices.{eq_true, eq_is, eq_not, not_both, both_true, and_true, left_false, right_false, or_left, or_right, or_cases, neither_true}
use Rattle.mx_trees.specs.declared.growth.Growth.{Growth}
use Rattle.mx_trees.specs.Paths.{IsPath}
use Rattle.mx_trees.specs.Edges.{IsLinked}
use Rattle.mx_trees.specs.Growth.{is_reached, next_of, is_step, is_branch, AreReached, IsGrown, IsCrossing, with_node}
use Rattle.mx_trees.proofs.Counts.{count_rises, count_set, count_none}

-- a path from i to the root, by the next node
Way : List (ℕ × ℕ) → ℕ → Growth → ℕ → ℕ → Type 0
Way edges root g i k = (rest : List ℕ) × IsPath (IsLinked edges) i (k ∷ rest) root × AreReached g (k ∷ rest)

-- a path from each node that has been reached, also from the root
pub way_from : (edges : List (ℕ × ℕ)) (root : ℕ) (g : Growth) → IsGrown edges root g → (i : ℕ) → is_reached g i ≡ true → (rest : List ℕ) × IsPath (IsLinked edges) i rest root × AreReached g rest
way_from edges root g h i r = elim (dec_eq i root) [
  | inl e ↦ ([], record { walk = e; once = ((λ n. n), tt) }, (λ k n. absurd n))
  | inr ne ↦ let w = h.way i r ne in (next_of g i ∷ w.0, w.1, w.2)
]

-- the next node has been reached too
pub next_reached : (edges : List (ℕ × ℕ)) (root : ℕ) (g : Growth) → IsGrown edges root g → (i : ℕ) → is_reached g i ≡ true → is_reached g (next_of g i) ≡ true
next_reached edges root g h i r = elim (dec_eq i root) [
  | inl e ↦
      let same : next_of g i ≡ root = ap (λ (k : ℕ). next_of g k) e ∙ h.home in
      let P : ℕ → Type 0 = λ k. is_reached g k ≡ true in
      subst P (sym same) h.begun
  | inr ne ↦ let w = h.way i r ne in w.2 (next_of g i) (inl refl)
]

pub grown_at : (edges : List (ℕ × ℕ)) (root : ℕ) → root < 21 → IsGrown edges root (record { reached = slice_set (replicate 21 false) root true; next = replicate 21 root })
grown_at edges root lt =
    let counted : count_by (λ r. r) (slice_set (replicate 21 false) root true) ≡ count_by (λ r. r) (replicate 21 false) + 1 = count_set (replicate 21 false) root lt (get_or_replicate 21 root false) in
    let none : count_by (λ r. r) (replicate 21 false) ≡ 0 = count_none 21 in
    record {
      size = length-set (replicate 21 false) root true;
      sizes = refl;
      begun = get_or-set_same (replicate 21 false) root true false lt;
      home = get_or-replicate 21 root root 0 lt;
      way = λ i r ne. absurd (not_both (get_or (slice_set (replicate 21 false) root true) i false) r (get_or-set_other (replicate 21 false) root i true false ne ∙ get_or_replicate 21 i false));
      rest = λ i lt21 r. get_or-replicate 21 i root 0 lt21;
      counted = omega arith;
    }

-- one more node

module _ (edges : List (ℕ × ℕ)) (root : ℕ) (g : Growth) (near far : ℕ) (h : IsGrown edges root g) (c : IsCrossing edges g near far) where
  -- no node that has been reached is the new one
  apart : (i : ℕ) → is_reached g i ≡ true → i ≢ far
  apart i r e = let P : ℕ → Type 0 = λ k. is_reached g k ≡ false in not_both (is_reached g i) r (subst P (sym e) c.outside)

  far_reached : is_reached (with_node g near far) far ≡ true
  far_reached = get_or-set_same g.reached far true false (omega (arith, h.size, c.node))

  far_next : next_of (with_node g near far) far ≡ near
  far_next = get_or-set_same g.next far near 0 (omega (arith, h.sizes, c.node))

  kept : (i : ℕ) → is_reached g i ≡ true → is_reached (with_node g near far) i ≡ true
  kept i r = get_or-set_other g.reached far i true false (apart i r) ∙ r

  next_kept : (i : ℕ) → i ≢ far → next_of (with_node g near far) i ≡ next_of g i
  next_kept i ne = get_or-set_other g.next far i near 0 ne

  before : (i : ℕ) → i ≢ far → is_reached (with_node g near far) i ≡ true → is_reached g i ≡ true
  before i ne r = sym (get_or-set_other g.reached far i true false ne) ∙ r

  -- the new node's way: to near, and on from there
  far_way : Way edges root (with_node g near far) far near
  unfolding Way
  far_way =
      let w = way_from edges root g h near c.inside in
      let fresh : IsIn far (near ∷ w.0) → ⊥ = λ n. elim n [ inl e ↦ apart near c.inside (sym e) | inr m ↦ apart far (w.2 far m) refl ] in
      let P : ℕ → Type 0 = λ k. is_reached (with_node g near far) k ≡ true in
      let reached : AreReached (with_node g near far) (near ∷ w.0) = λ k n. elim n [ inl e ↦ subst P (sym e) (kept near c.inside) | inr m ↦ kept k (w.2 k m) ] in
      (w.0, record { walk = (c.linked, w.1.walk); once = (fresh, w.1.once) }, reached)

  old_way : (i : ℕ) → is_reached g i ≡ true → i ≢ root → Way edges root (with_node g near far) i (next_of g i)
  unfolding Way
  old_way i r ne = let w = h.way i r ne in (w.0, w.1, (λ k n. kept k (w.2 k n)))

  new_way : (i : ℕ) → is_reached (with_node g near far) i ≡ true → i ≢ root → Way edges root (with_node g near far) i (next_of (with_node g near far) i)
  new_way i r ne = elim (dec_eq i far) [
    | inl e ↦
        let P : ℕ → Type 0 = λ k. Way edges root (with_node g near far) k (next_of (with_node g near far) k) in
        let Q : ℕ → Type 0 = λ k. Way edges root (with_node g near far) far k in
        subst P (sym e) (subst Q (sym far_next) far_way)
    | inr other ↦
        let Q : ℕ → Type 0 = λ k. Way edges root (with_node g near far) i k in
        subst Q (sym (next_kept i other)) (old_way i (before i other r) ne)
  ]

  -- a node that is still to be reached was so before
  new_rest : (i : ℕ) → i < 21 → is_reached (with_node g near far) i ≡ false → next_of (with_node g near far) i ≡ root
  new_rest i lt r = elim (dec_eq i far) [
    | inl e ↦ let P : ℕ → Type 0 = λ k. is_reached (with_node g near far) k ≡ true in absurd (not_both (is_reached (with_node g near far) i) (subst P (sym e) far_reached) r)
    | inr ne ↦ next_kept i ne ∙ h.rest i lt (sym (get_or-set_other g.reached far i true false ne) ∙ r)
  ]

  -- it has grown along one more edge
  step_kept : (i j : ℕ) → is_step g i j ≡ true → is_step (with_node g near far) i j ≡ true
  step_kept i j t =
      let parts = and_true (is_reached g i) (nat_eq (next_of g i) j) t in
      let same : next_of (with_node g near far) i ≡ j = next_kept i (apart i parts.0) ∙ eq_true (next_of g i) j parts.1 in
      both_true (is_reached (with_node g near far) i) (nat_eq (next_of (with_node g near far) i) j) (kept i parts.0) (eq_is (next_of (with_node g near far) i) j same)

  branch_kept : (e : ℕ × ℕ) → is_branch g e ≡ true → is_branch (with_node g near far) e ≡ true
  branch_kept e t = elim (or_cases (is_step g e.0 e.1) (is_step g e.1 e.0) t) [
    | inl a ↦ or_left (is_step (with_node g near far) e.0 e.1) (is_step (with_node g near far) e.1 e.0) (step_kept e.0 e.1 a)
    | inr b ↦ or_right (is_step (with_node g near far) e.0 e.1) (is_step (with_node g near far) e.1 e.0) (step_kept e.1 e.0 b)
  ]

  no_step : is_step g far near ≡ false
  no_step = left_false (is_reached g far) (nat_eq (next_of g far) near) c.outside

  no_step_back : is_step g near far ≡ false
  no_step_back = right_false (is_reached g near) (nat_eq (next_of g near) far) (eq_not (next_of g near) far (apart (next_of g near) (next_reached edges root g h near c.inside)))

  new_step : is_step (with_node g near far) far near ≡ true
  new_step = both_true (is_reached (with_node g near far) far) (nat_eq (next_of (with_node g near far) far) near) far_reached (eq_is (next_of (with_node g near far) far) near far_next)

  more_branches : count_by (λ e. is_branch g e) edges + 1 ≤ count_by (λ e. is_branch (with_node g near far) e) edges
  more_branches = elim c.linked [
    | inl n ↦ count_rises (λ e. is_branch g e) (λ e. is_branch (with_node g near far) e) branch_kept (far, near)
        (neither_true (is_step g far near) (is_step g near far) no_step no_step_back)
        (or_left (is_step (with_node g near far) far near) (is_step (with_node g near far) near far) new_step) edges n
    | inr n ↦ count_rises (λ e. is_branch g e) (λ e. is_branch (with_node g near far) e) branch_kept (near, far)
        (neither_true (is_step g near far) (is_step g far near) no_step_back no_step)
        (or_right (is_step (with_node g near far) near far) (is_step (with_node g near far) far near) new_step) edges n
  ]

  pub more_reached : count_by (λ r. r) (with_node g near far).reached ≡ count_by (λ r. r) g.reached + 1
  more_reached = count_set g.reached far (omega (arith, h.size, c.node)) c.outside

  pub grown_with : IsGrown edges root (with_node g near far)
  unfolding Way
  grown_with =
      let more = more_reached in
      let branches = more_branches in
      let old = h.counted in
      let root_apart : root ≢ far = apart root h.begun in
      record {
        size = length-set g.reached far true ∙ h.size;
        sizes = length-set g.next far near ∙ h.sizes;
        begun = kept root h.begun;
        home = next_kept root root_apart ∙ h.home;
        way = new_way;
        rest = new_rest;
        counted = omega arith;
      }
