-- Marks of the parcels that were delivered, and the nodes that wait.
use Rattle.std.proofs.Common.{◌≡◌, ◌∙◌, ◌≢◌, ◌⊎◌, ◌<◌, ◌≤◌, ◌+◌, ◌||◌, ℕ, zero, suc, Bool, true, false, List, [], ◌∷◌, ◌++◌, Option, Some, None, inl, inr, ap, ap₂, append_assoc, arith, drop, get_or, if◌then◌else◌, length, nat_eq, refl, replicate, slice_get, slice_set, subst, sym, take}
use Rattle.std.specs.List.{list_any}
use Rattle.std.specs.Option.{option_map_or}
use Rattle.std.proofs.lemmas.List.{drop_all, ext_get_or, take_all}
use Rattle.std.proofs.lemmas.List.Folds.{list_any-append}
use Rattle.std.proofs.lemmas.Option.{get_or_from_slice_get}
use Rattle.mx_stamps.specs.Lists.{each_below}
use Rattle.mx_stamps.proofs.Choices.{eq_is, eq_not}
use Rattle.mx_stamps.proofs.Lists.{append_nil, dec_eq, drop_here, get_or_replicate, get_set_other, get_set_same, has_each_below, length_each_below, length_replicate, length_set, take_here}
use Rattle.mx_knowledge.specs.Facts.{Known}
use Rattle.mx_nodelaws.specs.Core.{Core}
use Rattle.mx_member.specs.Member.{MemberState}
use Rattle.mx_trace.specs.declared.outcome.Entry.{Entry}
use Rattle.mx_format.specs.StuckTexts.{WaiterState}
use Rattle.mx_driver.specs.Standstill.{delivered_by, is_delivered, marked, waiter_at, waiters_from}

-- ---- marks

is_each : (xs : List Bool) (f : ℕ → Bool) (n : ℕ) → length xs ≡ n → ((i : ℕ) → i < n → get_or xs i false ≡ f i) → xs ≡ each_below f n
is_each xs f n size each =
    ext_get_or false xs (each_below f n) (size ∙ sym (length_each_below f n))
    (λ i lt. each i (omega (arith, lt, size)) ∙ sym (get_or_from_slice_get (each_below f n) i (f i) false (has_each_below f n i (omega (arith, lt, size)))))

-- before the first event no parcel is marked
pub unmarked : (n : ℕ) → replicate n false ≡ each_below (is_delivered []) n
unmarked n = is_each (replicate n false) (is_delivered []) n (length_replicate n false) (λ i lt. get_or_replicate n i false)

or_false : (b : Bool) → (b || (false || false)) ≡ b
or_false true = refl
or_false false = refl

or_true : (b : Bool) → (b || (true || false)) ≡ true
or_true true = refl
or_true false = refl

-- whether parcel k was delivered, with one delivery more or none
abbrev or_delivers : (ℕ → Bool) → Option ℕ → ℕ → Bool
or_delivers f number k = f k || (option_map_or (nat_eq k) number false || false)

module _ (f : ℕ → Bool) (n : ℕ) where
  mark_at : (j i : ℕ) → i < n → (i ≡ j) ⊎ (i ≢ j) → get_or (slice_set (each_below f n) j true) i false ≡ or_delivers f (Some j) i
  mark_at j i lt (inl same) =
      let there : slice_get (each_below f n) j ≡ Some (f j) = has_each_below f n j (subst (λ (k : ℕ). k < n) same lt) in
      let set : get_or (slice_set (each_below f n) j true) i false ≡ true =
      ap (λ (k : ℕ). get_or (slice_set (each_below f n) j true) k false) same
      ∙ get_or_from_slice_get (slice_set (each_below f n) j true) j true false (get_set_same (each_below f n) j (f j) true there) in
      set ∙ sym (ap (λ (b : Bool). f i || (b || false)) (eq_is i j same) ∙ or_true (f i))
  mark_at j i lt (inr other) =
      get_or_from_slice_get (slice_set (each_below f n) j true) i (f i) false (get_set_other (each_below f n) j i true other ∙ has_each_below f n i lt)
      ∙ sym (ap (λ (b : Bool). f i || (b || false)) (eq_not i j other) ∙ or_false (f i))

  marks_more : (number : Option ℕ) → marked number (each_below f n) ≡ each_below (or_delivers f number) n
  marks_more None = is_each (each_below f n) (or_delivers f None) n (length_each_below f n)
      (λ i lt. get_or_from_slice_get (each_below f n) i (f i) false (has_each_below f n i lt) ∙ sym (or_false (f i)))
  marks_more (Some j) = is_each (slice_set (each_below f n) j true) (or_delivers f (Some j)) n (length_set (each_below f n) j true ∙ length_each_below f n)
      (λ i lt. mark_at j i lt (dec_eq i j))

each_same : (f g : ℕ → Bool) (n : ℕ) → ((k : ℕ) → f k ≡ g k) → each_below f n ≡ each_below g n
each_same f g zero same = refl
each_same f g (suc n) same = ap (λ (l : List Bool). l ++ f n ∷ []) (each_same f g n same) ∙ ap (λ (b : Bool). each_below g n ++ b ∷ []) (same n)

-- the marks after one event more
pub marked_more : (trace : List Entry) (entry : Entry) (n : ℕ) → marked (delivered_by entry.event) (each_below (is_delivered trace) n) ≡ each_below (is_delivered (trace ++ entry ∷ [])) n
marked_more trace entry n =
    marks_more (is_delivered trace) n (delivered_by entry.event)
    ∙ each_same (or_delivers (is_delivered trace) (delivered_by entry.event)) (is_delivered (trace ++ entry ∷ [])) n
    (λ k. sym (list_any-append (λ (e : Entry). option_map_or (nat_eq k) (delivered_by e.event) false) trace (entry ∷ [])))

pub delivered_more : (trace : List Entry) (n i : ℕ) (entry : Entry) (number : Option ℕ) (marks marks' : List Bool) → i < length trace → entry ≡ get_or trace i entry → number ≡ delivered_by entry.event
    → marks ≡ each_below (is_delivered (take i trace)) n → marks' ≡ marked number marks → marks' ≡ each_below (is_delivered (take (i + 1) trace)) n
delivered_more trace n i entry number marks marks' lt is named so_far e =
    e ∙ ap₂ (λ (k : Option ℕ) (l : List Bool). marked k l) named so_far ∙ marked_more (take i trace) entry n
    ∙ ap (λ (l : List Entry). each_below (is_delivered l) n) (sym (take_here trace i entry lt is))

pub delivered_end : (trace : List Entry) (n i : ℕ) (marks : List Bool) → length trace ≤ i → marks ≡ each_below (is_delivered (take i trace)) n → marks ≡ each_below (is_delivered trace) n
delivered_end trace n i marks le so_far = so_far ∙ ap (λ (l : List Entry). each_below (is_delivered l) n) (take_all i trace le)

-- some mark is missing
pub any_each : {X : Type 0} (p : X → Bool) (f : ℕ → X) (n : ℕ) → list_any p (each_below f n) ≡ list_any (λ k. p (f k)) (each_below (λ k. k) n)
any_each p f zero = refl
any_each p f (suc n) =
    list_any-append p (each_below f n) (f n ∷ []) ∙ ap (λ (b : Bool). b || (p (f n) || false)) (any_each p f n)
    ∙ sym (list_any-append (λ k. p (f k)) (each_below (λ k. k) n) (n ∷ []))

-- ---- nodes that wait

-- nothing is added
pub not_added : {X : Type 0} (b : Bool) (xs ys : List X) → b ≡ false → xs ≡ xs ++ (if b then ys else [])
not_added {X} b xs ys is = subst (λ (q : Bool). xs ≡ xs ++ (if q then ys else [])) (sym is) (sym (append_nil xs))

module _ {H S M : Type 0} (core : Core H S M) (knows : S → List Known) (members : List (MemberState S)) where
  -- one node more
  pub waiters_more : (i n : ℕ) (m : MemberState S) (ws ws' : List WaiterState) → i < length members → m ≡ get_or members i m → n ≡ i → ws' ≡ ws ++ waiter_at core knows n m
      → ws ++ waiters_from core knows i (drop i members) ≡ ws' ++ waiters_from core knows (i + 1) (drop (i + 1) members)
  waiters_more i n m ws ws' lt is same e =
      let rest : List WaiterState = waiters_from core knows (i + 1) (drop (i + 1) members) in
      ap (λ (l : List (MemberState S)). ws ++ waiters_from core knows i l) (drop_here members i m lt is)
      ∙ sym (append_assoc ws (waiter_at core knows i m) rest)
      ∙ ap (λ (l : List WaiterState). l ++ rest) (ap (λ (k : ℕ). ws ++ waiter_at core knows k m) (sym same) ∙ sym e)

  pub waiters_end : (i : ℕ) (ws : List WaiterState) → length members ≤ i → ws ++ waiters_from core knows i (drop i members) ≡ ws
  waiters_end i ws le = ap (λ (l : List (MemberState S)). ws ++ waiters_from core knows i l) (drop_all i members le) ∙ append_nil ws
