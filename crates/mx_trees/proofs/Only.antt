-- A valid tree is known by its number of nodes, its edges and its holder.
use Rattle.std.proofs.Common.{ℕ, ◌<◌, ◌≡◌, inl, inr, Bool, true, false, List, [], ◌∷◌, length, slice_index_or, sym, ◌∙◌, subst, arith}
use Rattle.std.proofs.lemmas.List.{ext_get_or}
use Rattle.mx_stamps.proofs.Choices.{bool_cases, dec_le, is_false, not_both}
use Rattle.mx_trees.specs.Paths.{IsPath}
use Rattle.mx_trees.specs.Tree.{Rooted, IsNear, IsRooted, IsToward, are_neighbours, toward_of}
use Rattle.mx_trees.specs.Edges.{IsTreeOf}
use Rattle.mx_trees.proofs.Paths.{path_in}

-- tests that are true together are equal
same_test : (a b : Bool) → (a ≡ true → b ≡ true) → (b ≡ true → a ≡ true) → a ≡ b
same_test a b f g = elim (bool_cases a) [
  | inl t ↦ t ∙ sym (f t)
  | inr n ↦ n ∙ sym (is_false b (λ t. not_both a (g t) n))
]

module _ (n : ℕ) (edges : List (ℕ × ℕ)) (holder : ℕ) (t u : Rooted) (valid : IsRooted t) (other : IsRooted u)
    (of : IsTreeOf n edges holder t) (too : IsTreeOf n edges holder u) where
  near_too : (i j : ℕ) → IsNear t i j → IsNear u i j
  near_too i j h = (too.near i j).1 ((of.near i j).0 h)

  same_row : (i : ℕ) → i < length u.rows → slice_index_or u.rows i [] ≡ slice_index_or t.rows i []
  same_row i lt =
      let few : i < 21 = omega (arith, lt, too.square.tall) in
      ext_get_or false (slice_index_or u.rows i []) (slice_index_or t.rows i []) (too.square.wide i few ∙ sym (of.square.wide i few))
      (λ j _. same_test (are_neighbours u i j) (are_neighbours t i j) (λ h. (of.near i j).1 ((too.near i j).0 h)) (λ h. near_too i j h))

  -- the way from a node in one tree is one in the other
  way_too : (i j : ℕ) → IsToward t i j → IsToward u i j
  way_too i j (inl home) = inl (home.0 ∙ of.root ∙ sym too.root, home.1)
  way_too i j (inr path) =
      let P : ℕ → Type 0 = λ k. IsPath (IsNear u) i (j ∷ path.0) k in
      inr (path.0, subst P (of.root ∙ sym too.root) (path_in (IsNear t) (IsNear u) near_too i (j ∷ path.0) t.holder path.1))

  same_next : (i : ℕ) → i < length u.next → toward_of u i ≡ toward_of t i
  same_next i lt = elim (dec_le n i) [
    | inl le ↦ let few : i < 21 = omega (arith, lt, too.long) in too.beyond i le few ∙ sym (of.beyond i le few)
    | inr below ↦
        let there : i < t.count = omega (arith, below, of.count) in
        let node : i < u.count = omega (arith, below, too.count) in
        sym (other.toward_only i (toward_of t i) node (way_too i (toward_of t i) (valid.toward_path i there)))
  ]

  same_parts : (c c' h h' : ℕ) (r r' : List (List Bool)) (x x' : List ℕ) → c ≡ c' → h ≡ h' → r ≡ r' → x ≡ x'
      → ◌≡◌ {A = Rooted} (record { count = c; holder = h; rows = r; next = x }) (record { count = c'; holder = h'; rows = r'; next = x' })
  same_parts c c' h h' r r' x x' a b d e = cc

  pub same_tree : u ≡ t
  same_tree = same_parts u.count t.count u.holder t.holder u.rows t.rows u.next t.next (too.count ∙ sym of.count) (too.root ∙ sym of.root)
      (ext_get_or [] u.rows t.rows (too.square.tall ∙ sym of.square.tall) same_row)
      (ext_get_or 0 u.next t.next (too.long ∙ sym of.long) same_next)
