-- The receipts of one node among all: in order they are those of its station.
use Rattle.std.proofs.Common.{◌≡◌, ◌∙◌, ◌<◌, ◌==◌, ◌⊎◌, ℕ, suc, inl, inr, Bool, true, cond, List, [], ◌∷◌, filter, length, slice_get, Some, refl, sym, ap, arith, subst}
use mathlib.Core.Option.{some, some-injective}
use lib.ListN.{get_elem?}
use Rattle.mx_stamps.specs.Lists.{IsIn}
use Rattle.mx_stamps.proofs.Choices.{bool_cases, eq_is, eq_true}
use Rattle.mx_journal.specs.declared.receipts.Receipt.{Receipt}
use Rattle.mx_journal.specs.Settled.{JournalState}
use Rattle.mx_member.proofs.OwnReceipts.{place_in}
use Rattle.mx_stations.specs.Gathered.{IsGathered, receipts_of}
use Rattle.mx_stations.specs.Posts.{Post}
use Rattle.mx_stations.proofs.Numbers.{in_first_order, in_other_order}
use Rattle.mx_stations.proofs.Places.{within}
use Rattle.mx_stations.proofs.Whole.{has_receipt, of_station}
use Rattle.mx_jobs.specs.Runs.{own_of}

-- later ones bear greater numbers
abbrev Rises : List Receipt → Type 0
Rises [] = Unit {0}
Rises (r ∷ rs) = ((x : Receipt) → IsIn x rs → r.number < x.number) × Rises rs

-- then the same receipts are the same list
same_receipts : (xs ys : List Receipt) → Rises xs → Rises ys → ((x : Receipt) → IsIn x xs → IsIn x ys) → ((x : Receipt) → IsIn x ys → IsIn x xs) → xs ≡ ys
same_receipts [] [] a b s t = refl
same_receipts [] (y ∷ ys) a b s t = absurd (t y (inl refl))
same_receipts (x ∷ xs) [] a b s t = absurd (s x (inl refl))
same_receipts (x ∷ xs) (y ∷ ys) a b s t =
    let head : x ≡ y = elim (s x (inl refl)) [
      | inl e ↦ e
      | inr h ↦ elim (t y (inl refl)) [
        | inl e ↦ sym e
        | inr m ↦ absurd (let l = b.0 x h in let q = a.0 y m in omega arith)
      ]
    ] in
    let same : x.number ≡ y.number = ap (λ (z : Receipt). z.number) head in
    let there : (z : Receipt) → IsIn z xs → IsIn z ys = λ z h. elim (s z (inr h)) [
      | inl e ↦ absurd (let l = a.0 z h in let q : z.number ≡ y.number = ap (λ (w : Receipt). w.number) e in omega arith)
      | inr m ↦ m
    ] in
    let back : (z : Receipt) → IsIn z ys → IsIn z xs = λ z h. elim (t z (inr h)) [
      | inl e ↦ absurd (let l = b.0 z h in let q : z.number ≡ x.number = ap (λ (w : Receipt). w.number) e in omega arith)
      | inr m ↦ m
    ] in
    ap (λ z. z ∷ xs) head ∙ ap (λ zs. y ∷ zs) (same_receipts xs ys a.1 b.1 there back)

rises : (xs : List Receipt) → ((k l : ℕ) (r t : Receipt) → slice_get xs k ≡ Some r → slice_get xs l ≡ Some t → k < l → r.number < t.number) → Rises xs
rises [] up = tt
rises (x ∷ xs) up = (
  (λ y h. let p = place_in xs y h in up 0 (suc p.0) x y refl p.1 (omega arith)),
  rises xs (λ k l r t here there less. up (suc k) (suc l) r t here there (omega arith)),
)

module _ (p : Receipt → Bool) where
  of_filter : (xs : List Receipt) (x : Receipt) → IsIn x (filter p xs) → IsIn x xs × (p x ≡ true)
  of_filter [] x h = absurd h
  of_filter (y ∷ ys) x h = elim (bool_cases (p y)) [
    | inl passes ↦ elim (let either : (x ≡ y) ⊎ IsIn x (filter p ys) = subst (λ (b : Bool). IsIn x (cond b (y ∷ filter p ys) (filter p ys))) passes h in either) [
      | inl e ↦ (inl e, ap p e ∙ passes)
      | inr m ↦ let r = of_filter ys x m in (inr r.0, r.1)
    ]
    | inr fails ↦ let r = of_filter ys x (subst (λ (b : Bool). IsIn x (cond b (y ∷ filter p ys) (filter p ys))) fails h) in (inr r.0, r.1)
  ]

  pub to_filter : (xs : List Receipt) (x : Receipt) → IsIn x xs → p x ≡ true → IsIn x (filter p xs)
  to_filter [] x h passes = absurd h
  to_filter (y ∷ ys) x (inl e) passes = subst (λ (b : Bool). IsIn x (cond b (y ∷ filter p ys) (filter p ys))) (sym passes ∙ ap p e) (inl e)
  to_filter (y ∷ ys) x (inr m) passes = elim (bool_cases (p y)) [
    | inl t ↦ subst (λ (b : Bool). IsIn x (cond b (y ∷ filter p ys) (filter p ys))) (sym t) (inr (to_filter ys x m passes))
    | inr f ↦ subst (λ (b : Bool). IsIn x (cond b (y ∷ filter p ys) (filter p ys))) (sym f) (to_filter ys x m passes)
  ]

  rises_filter : (xs : List Receipt) → Rises xs → Rises (filter p xs)
  rises_filter [] up = tt
  rises_filter (y ∷ ys) up = elim (bool_cases (p y)) [
    | inl t ↦ subst (λ (b : Bool). Rises (cond b (y ∷ filter p ys) (filter p ys))) (sym t) ((λ x h. up.0 x (of_filter ys x h).0), rises_filter ys up.1)
    | inr f ↦ subst (λ (b : Bool). Rises (cond b (y ∷ filter p ys) (filter p ys))) (sym f) (rises_filter ys up.1)
  ]

module _ {T P : Type 0} (posts : List (Post T P)) (journal : JournalState) (receipts : List Receipt) (gathered : IsGathered posts journal receipts)
    (ordered : (j : ℕ) (s : Post T P) → get_elem? posts j ≡ some s → s.me.node ≡ j) where
  pub own_receipts : (k : ℕ) (s : Post T P) → get_elem? posts k ≡ some s → own_of k receipts ≡ s.me.receipts
  own_receipts k s at =
      same_receipts (own_of k receipts) s.me.receipts
      (rises_filter (λ r. r.node == k) receipts (rises receipts (λ i j r t here there less. let a = gathered.numbered i r here in let b = gathered.numbered j t there in omega arith)))
      (rises s.me.receipts (λ i j r t here there less. gathered.ascends k i j s r t at here there less))
      (λ x h.
      let o = of_filter (λ r. r.node == k) receipts x h in
      let w = of_station posts x (in_first_order (receipts_of posts) receipts x gathered.each o.0) in
      let same : w.0 ≡ k = sym (ordered w.0 w.1 w.2) ∙ sym (gathered.own w.0 w.1 x w.2 w.3) ∙ eq_true x.node k o.1 in
      let here : w.1 ≡ s = some-injective w.1 s (sym w.2 ∙ ap (λ (i : ℕ). get_elem? posts i) same ∙ at) in
      subst (λ (z : Post T P). IsIn x z.me.receipts) here w.3)
      (λ x h.
      to_filter (λ r. r.node == k) receipts x (in_other_order (receipts_of posts) receipts x gathered.each (has_receipt posts k s x at h))
      (eq_is x.node k (gathered.own k s x at h ∙ ordered k s at)))

  -- each is of a node that is there
  pub owned : (x : Receipt) → IsIn x receipts → x.node < length posts
  owned x h =
      let w = of_station posts x (in_first_order (receipts_of posts) receipts x gathered.each h) in
      subst (λ (n : ℕ). n < length posts) (sym (gathered.own w.0 w.1 x w.2 w.3 ∙ ordered w.0 w.1 w.2)) (within posts w.0 w.1 w.2)
