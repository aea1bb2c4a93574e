-- The nodes that stations show, each once, are those of their world, whatever is counted.
use Rattle.std.proofs.Common.{◌≡◌, ◌≢◌, inl, inr, ⊎_elim, ℕ, zero, suc, ◌+◌, List, [], ◌∷◌, map, length, Bool, cond, eqb, eq-eqb, ne_eqb, refl, sym, ap, ◌∙◌, subst, arith, length-append}
use mathlib.Core.Option.{some, some-injective, some-ne-none}
use lib.ListN.{get_elem?}
use native.Mathlib.Decide.{ℕ_discrete}
use mathlib.Core.Logic.{dite}
use Rattle.mx_stamps.specs.Lists.{IsIn}
use Rattle.mx_member.specs.Running.{receipt_count}
use Rattle.mx_stations.specs.Entries.{Entry, Node, owned_of}
use Rattle.mx_stations.specs.Running.{Once}
use Rattle.mx_stations.specs.Posts.{Post}
use Rattle.mx_stations.specs.Gathered.{me_of, receipts_of}

module _ {T P : Type 0} where
  -- f of all of them, added up
  abbrev pub total : (Entry T P → ℕ) → List (Entry T P) → ℕ
  total f [] = 0
  total f (e ∷ es) = f e + total f es

  -- g of each place and what stands there, added up from the place k on
  abbrev sum_at : (ℕ → Entry T P → ℕ) → ℕ → List (Entry T P) → ℕ
  sum_at g k [] = 0
  sum_at g k (e ∷ es) = g k e + sum_at g (suc k) es

  module _ (f : Entry T P → ℕ) where
    -- f of the nodes in the view, and nothing of others
    abbrev weight : List (Entry T P) → ℕ → Entry T P → ℕ
    weight [] i e = 0
    weight (x ∷ v) i e = cond (eqb i x.node) (f e) (weight v i e)

    weight_away : (v : List (Entry T P)) (i : ℕ) (e : Entry T P) → ((y : Entry T P) → IsIn y v → y.node ≢ i) → weight v i e ≡ 0
    weight_away [] i e away = refl
    weight_away (x ∷ v) i e away = ap (λ (b : Bool). cond b (f e) (weight v i e)) (ne_eqb i x.node (λ same. away x (inl refl) (sym same))) ∙ weight_away v i e (λ y h. away y (inr h))

    weight_here : (v : List (Entry T P)) (i : ℕ) (e y : Entry T P) → IsIn y v → y.node ≡ i → weight v i e ≡ f e
    weight_here [] i e y h same = absurd h
    weight_here (x ∷ v) i e y h same =
        dite (ℕ_discrete i x.node)
        (λ is. ap (λ (b : Bool). cond b (f e) (weight v i e)) (eq-eqb i x.node is))
        (λ ne. ap (λ (b : Bool). cond b (f e) (weight v i e)) (ne_eqb i x.node ne) ∙ ⊎_elim (λ is. absurd (ne (sym same ∙ ap (λ (z : Entry T P). z.node) is))) (λ r. weight_here v i e y r same) h)

    sum_same : (g h : ℕ → Entry T P → ℕ) (k : ℕ) (es : List (Entry T P)) → ((j : ℕ) (e : Entry T P) → get_elem? es j ≡ some e → g (k + j) e ≡ h (k + j) e) → sum_at g k es ≡ sum_at h k es
    sum_same g h k [] same = refl
    sum_same g h k (e ∷ es) same =
        let a : g k e ≡ h k e = subst (λ (z : ℕ). g z e ≡ h z e) (let r : k + 0 ≡ k = omega arith in r) (same 0 e refl) in
        let b = sum_same g h (suc k) es (λ j x at. subst (λ (z : ℕ). g z x ≡ h z x) (let r : k + suc j ≡ suc k + j = omega arith in r) (same (suc j) x at)) in
        (λ i. a i + b i)

    sum_all : (k : ℕ) (es : List (Entry T P)) → sum_at (λ i e. f e) k es ≡ total f es
    sum_all k [] = refl
    sum_all k (e ∷ es) = ap (λ (z : ℕ). f e + z) (sum_all (suc k) es)

    -- one place more
    bump : (g : ℕ → Entry T P → ℕ) (a j k : ℕ) (x : Entry T P) (es : List (Entry T P)) → get_elem? es j ≡ some x → a ≡ k + j → g a x ≡ 0 → sum_at (λ i e. cond (eqb i a) (f e) (g i e)) k es ≡ f x + sum_at g k es
    bump g a j k x [] at is none = absurd (some-ne-none x (sym at))
    bump g a zero k x (y ∷ es) at is none =
        let x_is : y ≡ x = some-injective y x at in
        let here : k ≡ a = omega arith in
        let head : cond (eqb k a) (f y) (g k y) ≡ f x = ap (λ (b : Bool). cond b (f y) (g k y)) (eq-eqb k a here) ∙ ap f x_is in
        let nil : g k y ≡ 0 = (λ i. g (here i) (x_is i)) ∙ none in
        let rest = sum_same (λ i e. cond (eqb i a) (f e) (g i e)) g (suc k) es (λ j e _. ap (λ (b : Bool). cond b (f e) (g (suc k + j) e)) (ne_eqb (suc k + j) a (λ same. omega arith))) in
        let p : ℕ = sum_at g (suc k) es in
        (λ i. head i + rest i) ∙ (let e : f x + p ≡ f x + (0 + p) = omega arith in e) ∙ ap (λ (z : ℕ). f x + (z + p)) (sym nil)
    bump g a (suc j) k x (y ∷ es) at is none =
        let head : cond (eqb k a) (f y) (g k y) ≡ g k y = ap (λ (b : Bool). cond b (f y) (g k y)) (ne_eqb k a (λ same. omega arith)) in
        let rest = bump g a j (suc k) x es at (omega arith) none in
        let p : ℕ = sum_at g (suc k) es in let q : ℕ = g k y in
        (λ i. head i + rest i) ∙ (let e : q + (f x + p) ≡ f x + (q + p) = omega arith in e)

    nothing : (k : ℕ) (es : List (Entry T P)) → sum_at (weight []) k es ≡ 0
    nothing k [] = refl
    nothing k (e ∷ es) = let r = nothing (suc k) es in let n : ℕ = sum_at (weight []) (suc k) es in (let z : 0 + n ≡ n = omega arith in z) ∙ r

    -- the nodes in a view, each once, weigh what their places weigh
    sum_view : (world v : List (Entry T P)) → ((e : Entry T P) → IsIn e v → get_elem? world e.node ≡ some e) → Once v → sum_at (weight v) 0 world ≡ total f v
    sum_view world [] stands once = nothing 0 world
    sum_view world (x ∷ v) stands once =
        bump (weight v) x.node x.node 0 x world (stands x (inl refl)) (omega arith) (weight_away v x.node x once.0)
        ∙ ap (λ (z : ℕ). f x + z) (sum_view world v (λ e h. stands e (inr h)) once.1)

    pub same_total : (world v : List (Entry T P)) → ((i : ℕ) (e : Entry T P) → get_elem? world i ≡ some e → e.node ≡ i) → ((e : Entry T P) → IsIn e v → get_elem? world e.node ≡ some e) → Once v → ((i : ℕ) (e : Entry T P) → get_elem? world i ≡ some e → IsIn e v)
        → total f v ≡ total f world
    same_total world v numbered stands once covers =
        sym (sum_view world v stands once)
        ∙ sum_same (weight v) (λ i e. f e) 0 world (λ j e at. weight_here v (0 + j) e e (covers j e at) (numbered j e at ∙ (let r : j ≡ 0 + j = omega arith in r)))
        ∙ sum_all 0 world

  -- how many receipts stations have
  pub receipts_counted : (posts : List (Post T P)) → length (receipts_of posts) ≡ total (λ e. length e.receipts) (map me_of posts)
  receipts_counted [] = refl
  receipts_counted (s ∷ posts) = length-append s.me.receipts (receipts_of posts) ∙ ap (λ (n : ℕ). length s.me.receipts + n) (receipts_counted posts)

-- and how many nodes have
pub receipts_totalled : {S M : Type 0} (world : List (Node S M)) → receipt_count (map owned_of world) ≡ total (λ e. length e.receipts) world
receipts_totalled [] = refl
receipts_totalled (e ∷ world) = ap (λ (n : ℕ). length e.receipts + n) (receipts_totalled world)
