-- A closed tree over n nodes and n - 1 edges: it has reached all of them, each edge is one that it
-- has grown along, and the way to the root is the only one.
use Rattle.std.proofs.Common.{ℕ, ◌<◌, ◌≤◌, ◌≡◌, ◌≢◌, ◌↔◌, inl, inr, Bool, true, false, nat_eq, List, [], ◌∷◌, length, slice_index_or, sym, ◌∙◌, ap, subst, arith}
use Rattle.std.specs.List.{count_by}
use Rattle.mx_stamps.specs.Lists.{IsIn}
use Rattle.mx_stamps.proofs.Lists.{dec_eq}
use Rattle.mx_stamps.proofs.Choices.{eq_true, and_true, is_false, or_cases}
use Rattle.mx_trees.specs.declared.growth.Growth.{Growth}
use Rattle.mx_trees.specs.Paths.{IsPath, IsJoined}
use Rattle.mx_trees.specs.Tree.{IsNear, IsRooted}
use Rattle.mx_trees.specs.Edges.{IsLinked, IsEdge, IsTree}
use Rattle.mx_trees.specs.Growth.{is_reached, next_of, is_step, is_branch, IsGrown, IsClosed}
use Rattle.mx_trees.proofs.Counts.{count_first, count_whole}
use Rattle.mx_trees.proofs.Listed.{each_in}
use Rattle.mx_trees.proofs.Paths.{along, back_along, path_in, ByNext, second_is_next}
use Rattle.mx_trees.proofs.Grown.{way_from}

-- what a closed tree has reached is what has a path to its root

pub reached_is_joined : (edges : List (ℕ × ℕ)) (root : ℕ) (g : Growth) → IsGrown edges root g → (i : ℕ) → is_reached g i ≡ true → IsJoined (IsLinked edges) i root
reached_is_joined edges root g h i r = let w = way_from edges root g h i r in (w.0, w.1)

reached_back : (edges : List (ℕ × ℕ)) (g : Growth) → IsClosed edges g → (i j : ℕ) → IsJoined (IsLinked edges) i j → is_reached g j ≡ true → is_reached g i ≡ true
reached_back edges g closed i j w r = back_along (IsLinked edges) (λ k. is_reached g k ≡ true) (λ a b l t. closed a b l ∙ t) i w.0 j w.1.walk r

reached_on : (edges : List (ℕ × ℕ)) (g : Growth) → IsClosed edges g → (i j : ℕ) → IsJoined (IsLinked edges) i j → is_reached g i ≡ true → is_reached g j ≡ true
reached_on edges g closed i j w r = along (IsLinked edges) (λ k. is_reached g k ≡ true) (λ a b l t. sym (closed a b l) ∙ t) i w.0 j w.1.walk r

pub joined_is_reached : (edges : List (ℕ × ℕ)) (root : ℕ) (g : Growth) → IsGrown edges root g → IsClosed edges g → (i : ℕ) → IsJoined (IsLinked edges) i root → is_reached g i ≡ true
joined_is_reached edges root g h closed i w = reached_back edges g closed i root w h.begun

-- a tree's edges

module _ (n : ℕ) (edges : List (ℕ × ℕ)) (root : ℕ) (g : Growth) (tree : IsTree n edges) (lt : root < n) (h : IsGrown edges root g) (closed : IsClosed edges g) where
  -- every node has been reached
  all_reached : (i : ℕ) → i < n → is_reached g i ≡ true
  all_reached i l = reached_back edges g closed i 0 (tree.joined i l) (reached_on edges g closed root 0 (tree.joined root lt) h.begun)

  -- it has grown along every edge: there are as many as it needed
  all_branches : (e : ℕ × ℕ) → IsIn e edges → is_branch g e ≡ true
  all_branches e i =
      let nodes : n ≤ count_by (λ r. r) g.reached = count_first g.reached n (omega (arith, h.size, tree.few)) all_reached in
      let enough : length edges ≤ count_by (λ x. is_branch g x) edges = omega (arith, nodes, h.counted, tree.count) in
      count_whole (λ x. is_branch g x) edges enough e i

  -- a linked pair is two different nodes
  two_nodes : (i j : ℕ) → IsLinked edges i j → (i < n) × (j < n) × (i ≢ j)
  two_nodes i j l = elim l [
    | inl m ↦ each_in edges (λ e. IsEdge n e) tree.linked (i, j) m
    | inr m ↦ let e : IsEdge n (j, i) = each_in edges (λ e. IsEdge n e) tree.linked (j, i) m in (e.1, e.0, (λ q. e.2 (sym q)))
  ]

  turned : (i j : ℕ) → IsLinked edges i j → IsLinked edges j i
  turned i j l = elim l [ inl m ↦ inr m | inr m ↦ inl m ]

  -- a node is linked to its next, which is a node
  first_step : (i : ℕ) → i < n → i ≢ root → IsLinked edges i (next_of g i)
  first_step i l ne = let w = h.way i (all_reached i l) ne in w.1.walk.0

  next_node : (i : ℕ) → i < n → next_of g i < n
  next_node i l = elim (dec_eq i root) [
    | inl e ↦ let P : ℕ → Type 0 = λ k. k < n in subst P (sym (ap (λ (k : ℕ). next_of g k) e ∙ h.home)) lt
    | inr ne ↦ let nodes = two_nodes i (next_of g i) (first_step i l ne) in nodes.1
  ]

  -- from what is no node of the tree the root is next
  pub beyond : (i : ℕ) → n ≤ i → i < 21 → next_of g i ≡ root
  beyond i le few = h.rest i few (is_false (is_reached g i) (λ r. elim (dec_eq i root) [
    | inl e ↦ absurd (omega (arith, e, le, lt))
    | inr ne ↦ let w = h.way i r ne in let nodes = (two_nodes i (next_of g i) w.1.walk.0).0 in absurd (omega (arith, nodes, le))
  ]))

  -- a step from i to another node is none from the root
  step_from : (i j : ℕ) → i ≢ j → is_step g i j ≡ true → (i ≢ root) × (next_of g i ≡ j)
  step_from i j ne t =
      let parts = and_true (is_reached g i) (nat_eq (next_of g i) j) t in
      let same : next_of g i ≡ j = eq_true (next_of g i) j parts.1 in
      ((λ e. ne (e ∙ sym h.home ∙ ap (λ (k : ℕ). next_of g k) (sym e) ∙ same)), same)

  by_next : ByNext (IsLinked edges) (next_of g) root
  by_next i j l =
      let nodes = two_nodes i j l in
      elim l [
        | inl m ↦ elim (or_cases (is_step g i j) (is_step g j i) (all_branches (i, j) m)) [
          | inl t ↦ inl (step_from i j nodes.2 t)
          | inr t ↦ inr (step_from j i (λ q. nodes.2 (sym q)) t)
        ]
        | inr m ↦ elim (or_cases (is_step g j i) (is_step g i j) (all_branches (j, i) m)) [
          | inl t ↦ inr (step_from j i (λ q. nodes.2 (sym q)) t)
          | inr t ↦ inl (step_from i j nodes.2 t)
        ]
      ]

  module _ (rows : List (List Bool)) (near : (i j : ℕ) → (slice_index_or (slice_index_or rows i []) j false ≡ true) ↔ IsLinked edges i j) where
    by_next_near : ByNext (IsNear (record { count = n; holder = root; rows = rows; next = g.next })) (next_of g) root
    by_next_near i j t = by_next i j ((near i j).0 t)

    second : (i : ℕ) → i < n → i ≢ root → (rest : List ℕ) × IsPath (IsNear (record { count = n; holder = root; rows = rows; next = g.next })) i (next_of g i ∷ rest) root
    second i l ne =
        let w = h.way i (all_reached i l) ne in
        (w.0, path_in (IsLinked edges) (IsNear (record { count = n; holder = root; rows = rows; next = g.next })) (λ a b k. (near a b).1 k) i (next_of g i ∷ w.0) root w.1)

    pub rooted : IsRooted (record { count = n; holder = root; rows = rows; next = g.next })
    rooted = record {
      some = tree.some;
      few = tree.few;
      holder = lt;
      nodes = λ i j t. two_nodes i j ((near i j).0 t);
      both = λ i j t. (near j i).1 (turned i j ((near i j).0 t));
      toward_node = λ i l. next_node i l;
      toward_holder = h.home;
      toward_other = λ i l ne e. let nodes = two_nodes i (next_of g i) (first_step i l ne) in nodes.2 (sym e);
      toward_path = λ i l. elim (dec_eq i root) [ inl e ↦ inl (e, ap (λ (k : ℕ). next_of g k) e ∙ h.home ∙ sym e) | inr ne ↦ inr (second i l ne) ];
      toward_only = λ i k l w. elim w [
        | inl p ↦ p.1 ∙ p.0 ∙ sym h.home ∙ ap (λ (x : ℕ). next_of g x) (sym p.0)
        | inr q ↦ second_is_next (IsNear (record { count = n; holder = root; rows = rows; next = g.next })) (next_of g) root by_next_near i k q.0 q.1
      ];
      edge = λ i j t. elim (by_next_near i j t) [ inl s ↦ inl s.1 | inr s ↦ inr s.1 ];
    }
