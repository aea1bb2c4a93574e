-- The lists of the parcels under way.
use Rattle.std.proofs.Common.{◌≡◌, ◌≤◌, ◌<◌, ◌+◌, ◌∙◌, ◌⊎◌, ℕ, zero, suc, false, true, List, [], ◌∷◌, ◌++◌, Option, None, Some, get_or, length, replicate, slice_get, ap, sym, subst, refl, arith, inl, inr}
use Rattle.std.proofs.lemmas.Bool.{cases_eq, cases_lt}
use Rattle.std.proofs.lemmas.List.{length-append, length-replicate, length-set}
use Rattle.std.specs.Prelude.{IsTrue, slice_set}
use Rattle.mx_scripts.specs.UnderWay.{IsListedOver, IsOff, IsOrdered, IsPassed, IsSkipped, without}
use Rattle.mx_scripts.specs.declared.under_way.ListedParcel.{ListedParcel}

-- ---- a parcel more, or one that is under way no more

-- what holds of a parcel of the list, or of none, after a parcel was added
pub at_more : (P : Option ListedParcel → Type 0) (ps : List ListedParcel) (q : ListedParcel) (k : ℕ) → P (slice_get ps k) → (k ≡ length ps → P None → P (Some q)) → P (slice_get (ps ++ q ∷ []) k)
at_more P [] q zero h new = new refl h
at_more P [] q (suc k) h new = h
at_more P (p ∷ ps) q zero h new = h
at_more P (p ∷ ps) q (suc k) h new = at_more P ps q k h (λ e. new (ap suc e))

-- and after one was taken out
pub at_without : (P : Option ListedParcel → Type 0) (number : ℕ) (ps : List ListedParcel) (k : ℕ) → P (slice_get ps k)
    → ((p : ListedParcel) → k ≡ number → k < length ps → P (Some p) → P (Some (record { link = p.link; is_gone = true }))) → P (slice_get (without number ps) k)
at_without P number [] k h gone = h
at_without P zero (p ∷ ps) zero h gone = gone p refl (omega arith) h
at_without P zero (p ∷ ps) (suc k) h gone = h
at_without P (suc number) (p ∷ ps) zero h gone = h
at_without P (suc number) (p ∷ ps) (suc k) h gone = at_without P number ps k h (λ q e lt. gone q (ap suc e) (omega (arith, lt)))

pub passed_more : (link : ℕ) (ps : List ListedParcel) (q : ListedParcel) (k : ℕ) → IsPassed link (slice_get ps k) → IsPassed link (slice_get (ps ++ q ∷ []) k)
passed_more link ps q k h = at_more (IsPassed link) ps q k h (λ e none. absurd none)

skip_to_more : (first : Option ListedParcel) (ps : List ListedParcel) (q : ListedParcel) (j : ℕ) → IsSkipped first (slice_get ps j) → IsSkipped first (slice_get (ps ++ q ∷ []) j)
skip_to_more None ps q j h = absurd h
skip_to_more (Some p) ps q j h = passed_more p.link ps q j h

skip_from_more : (ps : List ListedParcel) (q : ListedParcel) (k : ℕ) (other : Option ListedParcel) → IsSkipped (slice_get ps k) other → IsSkipped (slice_get (ps ++ q ∷ []) k) other
skip_from_more ps q k other h = at_more (λ (o : Option ListedParcel). IsSkipped o other) ps q k h (λ e none. absurd none)

off_more : (link : ℕ) (ps : List ListedParcel) (q : ListedParcel) (k : ℕ) → IsOff link (slice_get ps k) → (k ≡ length ps → q.link ≡ link → IsTrue q.is_gone) → IsOff link (slice_get (ps ++ q ∷ []) k)
off_more link ps q k h new = at_more (IsOff link) ps q k h (λ e none. new e)

passed_without : (link number : ℕ) (ps : List ListedParcel) (k : ℕ) → IsPassed link (slice_get ps k) → IsPassed link (slice_get (without number ps) k)
passed_without link number ps k h = at_without (IsPassed link) number ps k h (λ p e lt x same. refl)

skip_to_without : (first : Option ListedParcel) (number : ℕ) (ps : List ListedParcel) (j : ℕ) → IsSkipped first (slice_get ps j) → IsSkipped first (slice_get (without number ps) j)
skip_to_without None number ps j h = absurd h
skip_to_without (Some p) number ps j h = passed_without p.link number ps j h

skip_from_without : (number : ℕ) (ps : List ListedParcel) (k : ℕ) (other : Option ListedParcel) → IsSkipped (slice_get ps k) other → IsSkipped (slice_get (without number ps) k) other
skip_from_without number ps k other h = at_without (λ (o : Option ListedParcel). IsSkipped o other) number ps k h (λ p e lt x. x)

off_without : (link number : ℕ) (ps : List ListedParcel) (k : ℕ) → IsOff link (slice_get ps k) → IsOff link (slice_get (without number ps) k)
off_without link number ps k h = at_without (IsOff link) number ps k h (λ p e lt x same. refl)

pub length-without : (number : ℕ) (ps : List ListedParcel) → length (without number ps) ≡ length ps
length-without number [] = refl
length-without zero (p ∷ ps) = refl
length-without (suc number) (p ∷ ps) = ap suc (length-without number ps)

-- ---- what is passed is off, and the other way round below the end

pub passed_off : (link : ℕ) (o : Option ListedParcel) → IsPassed link o → IsOff link o
passed_off link None h = tt
passed_off link (Some p) h = h

off_passed : (link : ℕ) (ps : List ListedParcel) (k : ℕ) → k < length ps → IsOff link (slice_get ps k) → IsPassed link (slice_get ps k)
off_passed link [] k lt h = absurd (omega (arith, lt))
off_passed link (p ∷ ps) zero lt h = h
off_passed link (p ∷ ps) (suc k) lt h = off_passed link ps k (omega (arith, lt)) h

off_past : (link : ℕ) (ps : List ListedParcel) (k : ℕ) → length ps ≤ k → IsOff link (slice_get ps k)
off_past link [] k le = tt
off_past link (p ∷ ps) zero le = absurd (omega (arith, le))
off_past link (p ∷ ps) (suc k) le = off_past link ps k (omega (arith, le))

skipped_over : (link : ℕ) (first other : Option ListedParcel) → IsListedOver link first → IsPassed link other → IsSkipped first other
skipped_over link None other over h = absurd over
skipped_over link (Some p) other over h = subst (λ (l : ℕ). IsPassed l other) (sym over) h

passed_over : (link : ℕ) (first other : Option ListedParcel) → IsListedOver link first → IsSkipped first other → IsPassed link other
passed_over link None other over h = absurd over
passed_over link (Some p) other over h = subst (λ (l : ℕ). IsPassed l other) over h

-- ---- no parcel was sent

zero_there : (n k : ℕ) → get_or (replicate n zero) k zero ≡ zero
zero_there zero k = refl
zero_there (suc n) zero = refl
zero_there (suc n) (suc k) = zero_there n k

none_below : (first : List ℕ) (link k : ℕ) → first ≡ replicate 441 0 → k < get_or first link 0 → ⊥
none_below first link k is lt =
    let zeros : get_or first link 0 ≡ 0 = ap (λ (l : List ℕ). get_or l link 0) is ∙ zero_there 441 link in
    omega (arith, zeros, lt)

pub fresh : (ps : List ListedParcel) (next first end : List ℕ) → ps ≡ [] → next ≡ [] → first ≡ replicate 441 0 → end ≡ replicate 441 0 → IsOrdered ps next first end 0
fresh ps next first end empty no_next firsts ends = record {
  begins = λ link k lt. absurd (none_below first link k firsts lt);
  skips = λ k j lt less. absurd (let zeros : get_or next k 0 ≡ 0 = ap (λ (l : List ℕ). get_or l k 0) no_next in omega (arith, zeros, less));
  ends = λ link k le. subst (λ (l : List ListedParcel). IsOff link (slice_get l k)) (sym empty) tt;
  old = λ link k lt. absurd (omega (arith, lt));
  links = ap (λ (l : List ℕ). length l) ends ∙ length-replicate {A = ℕ} 441 0;
}

-- ---- a number that is set

below_set : (xs : List ℕ) (t v k j : ℕ) → j < get_or (slice_set xs t v) k 0 → (j < get_or xs k 0) ⊎ ((k ≡ t) × (j < v))
below_set [] t v k j h = inl h
below_set (x ∷ xs) zero v zero j h = inr (refl, h)
below_set (x ∷ xs) zero v (suc k) j h = inl h
below_set (x ∷ xs) (suc t) v zero j h = inl h
below_set (x ∷ xs) (suc t) v (suc k) j h = elim (below_set xs t v k j h) [
  | inl l ↦ inl l
  | inr r ↦ inr (ap suc r.0, r.1)
]

from_set : (xs : List ℕ) (t v k j : ℕ) → t < length xs → get_or (slice_set xs t v) k 0 ≤ j → ((k ≡ t) × (v ≤ j)) ⊎ ((k ≡ t → ⊥) × (get_or xs k 0 ≤ j))
from_set [] t v k j lt h = absurd (omega (arith, lt))
from_set (x ∷ xs) zero v zero j lt h = inl (refl, h)
from_set (x ∷ xs) zero v (suc k) j lt h = inr (λ e. omega (arith, e), h)
from_set (x ∷ xs) (suc t) v zero j lt h = inr (λ e. omega (arith, e), h)
from_set (x ∷ xs) (suc t) v (suc k) j lt h = elim (from_set xs t v k j (omega (arith, lt)) h) [
  | inl l ↦ inl (ap suc l.0, l.1)
  | inr r ↦ inr (λ e. r.0 (omega (arith, e)), r.1)
]

below_more : (next : List ℕ) (m k j : ℕ) → j < get_or (next ++ m ∷ []) k 0 → (j < get_or next k 0) ⊎ ((k ≡ length next) × (j < m))
below_more [] m zero j h = inr (refl, h)
below_more [] m (suc k) j h = inl h
below_more (x ∷ next) m zero j h = inl h
below_more (x ∷ next) m (suc k) j h = elim (below_more next m k j h) [
  | inl l ↦ inl l
  | inr r ↦ inr (ap suc r.0, r.1)
]

-- ---- the lists of the links

module _ (ps : List ListedParcel) (next first end : List ℕ) (oldest : ℕ) (old : IsOrdered ps next first end oldest) where
  -- an entry for a parcel more, which skips none
  skips_more : (k j : ℕ) → k < j → j < get_or (next ++ (length next + 1) ∷ []) k 0 → IsSkipped (slice_get ps k) (slice_get ps j)
  skips_more k j lt less = elim (below_more next (length next + 1) k j less) [
    | inl l ↦ old.skips k j lt l
    | inr r ↦ absurd (let is : k ≡ length next = r.0 in let le : j < length next + 1 = r.1 in omega (arith, lt, is, le))
  ]

  pub next_more : (next' : List ℕ) (m : ℕ) → next' ≡ next ++ m ∷ [] → m ≡ length next + 1 → IsOrdered ps next' first end oldest
  next_more next' m is one = record {
    begins = old.begins;
    skips = subst (λ (l : List ℕ). (k j : ℕ) → k < j → j < get_or l k 0 → IsSkipped (slice_get ps k) (slice_get ps j)) (sym (is ∙ ap (λ (n : ℕ). next ++ n ∷ []) one)) skips_more;
    ends = old.ends;
    old = old.old;
    links = old.links;
  }

  -- a list may end later than at the next parcel
  end_later_at : (link : ℕ) → link < 441 → (other k : ℕ) → get_or (slice_set end link (length ps + 1)) other 0 ≤ k → IsOff other (slice_get ps k)
  end_later_at link lt other k le = elim (from_set end link (length ps + 1) other k (subst (λ (n : ℕ). link < n) (sym old.links) lt) le) [
    | inl l ↦ off_past other ps k (let past : length ps + 1 ≤ k = l.1 in omega (arith, past))
    | inr r ↦ old.ends other k r.1
  ]

  pub end_later : (link : ℕ) → link < 441 → IsOrdered ps next first (slice_set end link (length ps + 1)) oldest
  end_later link lt = record {
    begins = old.begins;
    skips = old.skips;
    ends = end_later_at link lt;
    old = old.old;
    links = length-set end link (length ps + 1) ∙ old.links;
  }

  -- one more is under way over a link, whose list ends after it
  add_ends : (link : ℕ) → link < 441 → (other k : ℕ) → get_or (slice_set end link (length ps + 1)) other 0 ≤ k → IsOff other (slice_get (ps ++ record { link = link; is_gone = false } ∷ []) k)
  add_ends link lt other k le = elim (from_set end link (length ps + 1) other k (subst (λ (n : ℕ). link < n) (sym old.links) lt) le) [
    | inl l ↦ off_past other _ k (let past : length ps + 1 ≤ k = l.1 in let one = length-append ps (record { link = link; is_gone = false } ∷ []) in omega (arith, past, one))
    | inr r ↦ off_more other ps (record { link = link; is_gone = false }) k (old.ends other k r.1) (λ at same. absurd (r.0 (sym same)))
  ]

  pub parcel_more : (link : ℕ) → link < 441 → IsOrdered (ps ++ record { link = link; is_gone = false } ∷ []) next first (slice_set end link (length ps + 1)) oldest
  parcel_more link lt = record {
    begins = λ other k less. passed_more other ps _ k (old.begins other k less);
    skips = λ k j less between. skip_from_more ps _ k _ (skip_to_more (slice_get ps k) ps _ j (old.skips k j less between));
    ends = add_ends link lt;
    old = λ other k less. passed_more other ps _ k (old.old other k less);
    links = length-set end link (length ps + 1) ∙ old.links;
  }

  -- a parcel is under way no more
  pub parcel_less : (number : ℕ) → IsOrdered (without number ps) next first end oldest
  parcel_less number = record {
    begins = λ other k less. passed_without other number ps k (old.begins other k less);
    skips = λ k j less between. skip_from_without number ps k _ (skip_to_without (slice_get ps k) number ps j (old.skips k j less between));
    ends = λ other k le. off_without other number ps k (old.ends other k le);
    old = λ other k less. passed_without other number ps k (old.old other k less);
    links = old.links;
  }

  -- the list of a link begins elsewhere
  pub begin_at : (link number : ℕ) → ((k : ℕ) → k < number → IsPassed link (slice_get ps k)) → IsOrdered ps next (slice_set first link number) end oldest
  begin_at link number passed = record {
    begins = λ other k less. elim (below_set first link number other k less) [
      | inl l ↦ old.begins other k l
      | inr r ↦ subst (λ (l : ℕ). IsPassed l (slice_get ps k)) (sym r.0) (passed k r.1)
    ];
    skips = old.skips;
    ends = old.ends;
    old = old.old;
    links = old.links;
  }

  pub oldest_at : (number : ℕ) → ((link k : ℕ) → k < number → IsPassed link (slice_get ps k)) → IsOrdered ps next first end number
  oldest_at number passed = record {
    begins = old.begins;
    skips = old.skips;
    ends = old.ends;
    old = passed;
    links = old.links;
  }

  -- the last of a list leads to the next parcel
  pub lead_at : (t link : ℕ) → get_or end link 0 ≤ t + 1 → IsListedOver link (slice_get ps t) → IsOrdered ps (slice_set next t (length ps)) first end oldest
  lead_at t link le over = record {
    begins = old.begins;
    skips = λ k j lt less. elim (below_set next t (length ps) k j less) [
      | inl l ↦ old.skips k j lt l
      | inr r ↦ subst (λ (n : ℕ). IsSkipped (slice_get ps n) (slice_get ps j)) (sym r.0)
          (let past : t < j = subst (λ (n : ℕ). n < j) r.0 lt in skipped_over link (slice_get ps t) (slice_get ps j) over (off_passed link ps j r.1 (old.ends link j (omega (arith, le, past)))))
    ];
    ends = old.ends;
    old = old.old;
    links = old.links;
  }

  -- what lies between a parcel and the next
  pub between_next : (link number : ℕ) → IsListedOver link (slice_get ps number) → (k : ℕ) → number < k → k < get_or next number 0 → IsPassed link (slice_get ps k)
  between_next link number over k lt less = passed_over link (slice_get ps number) (slice_get ps k) over (old.skips number k lt less)

-- a walk along a list
pub passed_next : (link number next : ℕ) (ps : List ListedParcel) → ((k : ℕ) → k < number → IsPassed link (slice_get ps k)) → IsPassed link (slice_get ps number)
    → ((k : ℕ) → number < k → k < next → IsPassed link (slice_get ps k)) → (k : ℕ) → k < next → IsPassed link (slice_get ps k)
passed_next link number next ps before here between k lt = elim (cases_lt k number) [
  | inl less ↦ before k less
  | inr more ↦ elim (cases_eq k number) [
    | inl is ↦ subst (λ (j : ℕ). IsPassed link (slice_get ps j)) (sym is) here
    | inr other ↦ between k (omega (arith, more, other)) lt
  ]
]

-- ---- a parcel that is marked as gone

pub set_without : (ps : List ListedParcel) (number : ℕ) (p : ListedParcel) → p ≡ get_or ps number p → number < length ps → slice_set ps number (record { link = p.link; is_gone = true }) ≡ without number ps
set_without [] number p is lt = absurd (omega (arith, lt))
set_without (q ∷ ps) zero p is lt = ap (λ (x : ListedParcel). let gone : ListedParcel = record { link = x.link; is_gone = true } in gone ∷ ps) is
set_without (q ∷ ps) (suc number) p is lt = ap (λ (l : List ListedParcel). q ∷ l) (set_without ps number p is (omega (arith, lt)))

pub without_past : (ps : List ListedParcel) (number : ℕ) → length ps ≤ number → without number ps ≡ ps
without_past [] number le = refl
without_past (q ∷ ps) zero le = absurd (omega (arith, le))
without_past (q ∷ ps) (suc number) le = ap (λ (l : List ListedParcel). q ∷ l) (without_past ps number (omega (arith, le)))
