-- The oldest parcel that is wanted.
use Rattle.std.proofs.Common.{◌≡◌, ◌≤◌, ◌<◌, ◌+◌, ◌∙◌, ◌⊎◌, ℕ, Bool, false, true, min, List, Option, None, Some, IfNone, IfSome, get_or, slice_get, ap, sym, subst, refl, arith, inl, inr}
use Rattle.std.proofs.Math.Nat.{min-eq_left, min-eq_right}
use Rattle.std.proofs.lemmas.Bool.{and_parts, cases_Bool, cases_eq, cases_lt, eqb-true, true≢false}
use Rattle.std.proofs.lemmas.List.{get_or_past}
use Rattle.std.specs.Prelude.{◌==◌, IsTrue}
use Rattle.mx_lines.specs.declared.orders.Scope.{Scope}
use Rattle.mx_lines.specs.declared.orders.Scope.TheVariants.{Link}
use Rattle.mx_scripts.specs.Fates.{Fates, IsBelow, IsFirst, IsOldest, IsOver, is_held, is_in, is_wanted, older}
use Rattle.mx_scripts.specs.UnderWay.{HasLink, IsGone, IsListed, IsOff, IsPassed}
use Rattle.mx_scripts.specs.Links.{is_cut}
use Rattle.mx_stamps.specs.Links.{link_of}
use Rattle.mx_scripts.specs.declared.in_flight.Wanted.{Wanted}
use Rattle.mx_scripts.specs.declared.in_flight.Wanted.TheVariants.{Arriving}
use Rattle.mx_scripts.specs.declared.under_way.ListedParcel.{ListedParcel}
use Rattle.mx_scripts.proofs.FateLemmas.{gone_wanted, held_arriving, outside_wanted, true_there}
use Rattle.mx_scripts.proofs.ListedLemmas.{none_past}
use Rattle.mx_scripts.proofs.UnderWayLemmas.{passed_off}

-- ---- the first number of a kind

module _ (IsOfKind : ℕ → Type 0) (is_so : ℕ → Bool) (rest : (k : ℕ) → (IsOfKind k → is_so k ≡ false) → is_so k ≡ false) where
  pub first_of_oldest : (r : Option ℕ) → IsOldest IsOfKind is_so r → IfSome r (IsFirst is_so)
  first_of_oldest None h = tt
  first_of_oldest (Some k) h = (h.0, λ j lt. rest j (h.1 j lt))

  pub none_of_oldest : (r : Option ℕ) → IsOldest IsOfKind is_so r → IfNone r ((k : ℕ) → is_so k ≡ false)
  none_of_oldest None h = λ k. rest k (h k)
  none_of_oldest (Some k) h = tt

module _ (IsOne IsOther IsEither : ℕ → Type 0) (is_so : ℕ → Bool) (either : (k : ℕ) → IsEither k → IsOne k ⊎ IsOther k) where
  older_below : (k : ℕ) → (IsOne k → is_so k ≡ false) → (IsOther k → is_so k ≡ false) → IsEither k → is_so k ≡ false
  older_below k one other is = elim (either k is) [
    | inl l ↦ one l
    | inr r ↦ other r
  ]

  older_left : (a b : ℕ) → a ≤ b → IsOldest IsOne is_so (Some a) → IsOldest IsOther is_so (Some b) → IsOldest IsEither is_so (Some a)
  older_left a b le x y = (x.0, λ k lt. older_below k (x.1 k lt) (y.1 k (omega (arith, lt, le))))

  older_right : (a b : ℕ) → b ≤ a → IsOldest IsOne is_so (Some a) → IsOldest IsOther is_so (Some b) → IsOldest IsEither is_so (Some b)
  older_right a b le x y = (y.0, λ k lt. older_below k (x.1 k (omega (arith, lt, le))) (y.1 k lt))

  older_some : (a b : ℕ) → IsOldest IsOne is_so (Some a) → IsOldest IsOther is_so (Some b) → IsOldest IsEither is_so (Some (min a b))
  older_some a b x y = elim (cases_lt a b) [
    | inl lt ↦ (let le : a ≤ b = omega (arith, lt) in subst (λ (n : ℕ). IsOldest IsEither is_so (Some n)) (sym (min-eq_left le)) (older_left a b le x y))
    | inr le ↦ subst (λ (n : ℕ). IsOldest IsEither is_so (Some n)) (sym (min-eq_right le)) (older_right a b le x y)
  ]

  pub older_of : (one other : Option ℕ) → IsOldest IsOne is_so one → IsOldest IsOther is_so other → IsOldest IsEither is_so (older one other)
  older_of None None x y = λ k. older_below k (x k) (y k)
  older_of None (Some b) x y = (y.0, λ k lt. older_below k (x k) (y.1 k lt))
  older_of (Some a) None x y = (x.0, λ k lt. older_below k (x.1 k lt) (y k))
  older_of (Some a) (Some b) x y = older_some a b x y

-- ---- the links one after another

pub none_below_zero : {P : Type 0} (o : Option (ℕ × ℕ × P)) → IsBelow 0 o → ⊥
none_below_zero None h = h
none_below_zero (Some p) h = omega (arith, h)

pub below_next : {P : Type 0} (link : ℕ) (o : Option (ℕ × ℕ × P)) → IsBelow (link + 1) o → IsBelow link o ⊎ IsOver link o
below_next link None h = inl h
below_next link (Some p) h = elim (cases_lt (link_of p.0 p.1) link) [
  | inl lt ↦ inl lt
  | inr le ↦ inr (let below : link_of p.0 p.1 < link + 1 = h in omega (arith, le, below))
]

below_over : {P : Type 0} (link : ℕ) (o : Option (ℕ × ℕ × P)) → IsOver link o → link < 441 → IsBelow 441 o
below_over link None over lt = over
below_over link (Some p) over lt = subst (λ (n : ℕ). n < 441) (sym over) lt

-- ---- the scope of one link

in_link : {P : Type 0} (from to : ℕ) (o : Option (ℕ × ℕ × P)) → is_in (Link from to) o ≡ true → IsOver (link_of from to) o
in_link from to None e = absurd (true≢false (sym e))
in_link from to (Some p) e =
    let parts = and_parts (p.0 == from) (p.1 == to) e in
    ap (λ (a : ℕ). link_of a p.1) (eqb-true p.0 from parts.0) ∙ ap (λ (b : ℕ). link_of from b) (eqb-true p.1 to parts.1)

module _ {P : Type 0} (f : Fates) (sent : List (ℕ × ℕ × P)) where
  pub rest_of_link : (from to : ℕ) (wanted : Wanted) (k : ℕ) → (IsOver (link_of from to) (slice_get sent k) → is_wanted f sent (Link from to) wanted k ≡ false) → is_wanted f sent (Link from to) wanted k ≡ false
  rest_of_link from to wanted k over = elim (cases_Bool (is_in (Link from to) (slice_get sent k))) [
    | inl inside ↦ over (in_link from to (slice_get sent k) inside)
    | inr outside ↦ outside_wanted f sent (Link from to) wanted k outside
  ]

  -- ---- a link that is cut

  held_over : (link from to : ℕ) (o : Option (ℕ × ℕ × P)) → link_of from to ≡ link → is_cut f.links from to ≡ true → IsOver link o → is_held f o ≡ true
  held_over link from to None is cut over = absurd over
  held_over link from to (Some p) is cut over =
      ap (λ (n : ℕ). get_or f.links.cut n false) (over ∙ sym is) ∙ cut

  pub shut_link : (scope : Scope) (link from to k : ℕ) → link_of from to ≡ link → is_cut f.links from to ≡ true → IsOver link (slice_get sent k) → is_wanted f sent scope Arriving k ≡ false
  shut_link scope link from to k is cut over = held_arriving f sent scope k (held_over link from to (slice_get sent k) is cut over)

-- ---- what the lists pass over

off_over : {P : Type 0} (IsSo : Type 0) (link : ℕ) (sent : Option (ℕ × ℕ × P)) (o : Option ListedParcel) → HasLink sent o → IsGone IsSo o → IsOff link o → IsOver link sent → IsSo ⊎ (o ≡ None)
off_over IsSo link sent None has gone off over = inr refl
off_over IsSo link None (Some q) has gone off over = absurd has
off_over IsSo link (Some p) (Some q) has gone off over = inl (gone (off (has ∙ over)))

over_some : {P : Type 0} (o : Option (ℕ × ℕ × P)) → ((link : ℕ) × IsOver link o) ⊎ (o ≡ None)
over_some None = inr refl
over_some (Some p) = inl (link_of p.0 p.1, refl)

module _ {P : Type 0} (f : Fates) (sent : List (ℕ × ℕ × P)) (ps : List ListedParcel) (listed : IsListed sent f.gone ps) where
  gone_at : (link k : ℕ) → IsOff link (slice_get ps k) → IsOver link (slice_get sent k) → get_or f.gone k true ≡ true
  gone_at link k off over = elim (off_over (IsTrue (get_or f.gone k false)) link (slice_get sent k) (slice_get ps k) (listed.links k) (listed.lost k) off over) [
    | inl gone ↦ true_there f.gone k gone
    | inr none ↦ get_or_past f.gone k true (let past = none_past ps k none in let all = listed.all in omega (arith, past, all))
  ]

  pub off_wanted : (scope : Scope) (wanted : Wanted) (link k : ℕ) → IsOff link (slice_get ps k) → IsOver link (slice_get sent k) → is_wanted f sent scope wanted k ≡ false
  off_wanted scope wanted link k off over = gone_wanted f sent scope wanted k (gone_at link k off over)

  pub none_wanted : (scope : Scope) (wanted : Wanted) (k : ℕ) → ((link : ℕ) → IsOver link (slice_get sent k) → IsOff link (slice_get ps k)) → is_wanted f sent scope wanted k ≡ false
  none_wanted scope wanted k off = elim (over_some (slice_get sent k)) [
    | inl is ↦ off_wanted scope wanted is.0 k (off is.0 is.1) is.1
    | inr none ↦ outside_wanted f sent scope wanted k (ap (λ (o : Option (ℕ × ℕ × P)). is_in scope o) none)
  ]

  -- each that is wanted is over a link below 441
  pub rest_of_links : (scope : Scope) (wanted : Wanted) → ((link k : ℕ) → 441 ≤ link → IsOff link (slice_get ps k)) → (k : ℕ) → (IsBelow 441 (slice_get sent k) → is_wanted f sent scope wanted k ≡ false) → is_wanted f sent scope wanted k ≡ false
  rest_of_links scope wanted links k below = elim (over_some (slice_get sent k)) [
    | inl is ↦ elim (cases_lt is.0 441) [
      | inl lt ↦ below (below_over is.0 (slice_get sent k) is.1 lt)
      | inr le ↦ off_wanted scope wanted is.0 k (links is.0 k le) is.1
    ]
    | inr none ↦ outside_wanted f sent scope wanted k (ap (λ (o : Option (ℕ × ℕ × P)). is_in scope o) none)
  ]

  -- none before this parcel is wanted, of those over a link
  abbrev pub NoneBefore : Scope → Wanted → ℕ → ℕ → Type 0
  NoneBefore scope wanted link number = (k : ℕ) → k < number → IsOver link (slice_get sent k) → is_wanted f sent scope wanted k ≡ false

  pub none_first : (scope : Scope) (wanted : Wanted) (link first : ℕ) → ((k : ℕ) → k < first → IsPassed link (slice_get ps k)) → NoneBefore scope wanted link first
  none_first scope wanted link first passed k lt over = off_wanted scope wanted link k (passed_off link (slice_get ps k) (passed k lt)) over

  pub none_next : (scope : Scope) (wanted : Wanted) (link number next : ℕ) → NoneBefore scope wanted link number → is_wanted f sent scope wanted number ≡ false
      → ((k : ℕ) → number < k → k < next → IsPassed link (slice_get ps k)) → NoneBefore scope wanted link next
  none_next scope wanted link number next before here passed k lt over = elim (cases_lt k number) [
    | inl less ↦ before k less over
    | inr more ↦ elim (cases_eq k number) [
      | inl is ↦ subst (λ (j : ℕ). is_wanted f sent scope wanted j ≡ false) (sym is) here
      | inr other ↦ off_wanted scope wanted link k (passed_off link (slice_get ps k) (passed k (omega (arith, more, other)) lt)) over
    ]
  ]

  pub none_at_all : (scope : Scope) (wanted : Wanted) (link number end : ℕ) → NoneBefore scope wanted link number → end ≤ number → ((k : ℕ) → end ≤ k → IsOff link (slice_get ps k))
      → (k : ℕ) → IsOver link (slice_get sent k) → is_wanted f sent scope wanted k ≡ false
  none_at_all scope wanted link number end before past off k over = elim (cases_lt k number) [
    | inl less ↦ before k less over
    | inr more ↦ off_wanted scope wanted link k (off k (omega (arith, past, more))) over
  ]

  -- none below a number is wanted over any link
  pub none_below_first : (scope : Scope) (wanted : Wanted) (first : ℕ) → ((link k : ℕ) → k < first → IsPassed link (slice_get ps k)) → (k : ℕ) → k < first → is_wanted f sent scope wanted k ≡ false
  none_below_first scope wanted first passed k lt = none_wanted scope wanted k (λ link over. passed_off link (slice_get ps k) (passed link k lt))
