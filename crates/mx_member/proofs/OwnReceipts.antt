-- The receipts of one node among all: which they are, in what order, and how many.
use Rattle.std.proofs.Common.{ℕ, zero, suc, ◌<◌, ◌+◌, ◌≡◌, ◌≢◌, inl, inr, List, [], ◌∷◌, ◌++◌, Some, length, nat_eq, slice_get, refl, sym, ◌∙◌, ap, subst, arith}
use Rattle.std.proofs.lemmas.List.{length-append}
use Rattle.std.proofs.lemmas.Option.{slice_get_within}
use Rattle.mx_stamps.specs.Lists.{IsIn}
use Rattle.mx_stamps.proofs.Lists.{append_nil, cond_case, get_snoc, in_append, in_get, in_left, in_right, none_is_no_some}
use Rattle.mx_journal.specs.declared.receipts.Receipt.{Receipt}
use Rattle.mx_journal.proofs.Choices.{compared, cond_true, cond_false, eq_is, eq_not, eq_true}
use Rattle.mx_member.specs.declared.acts.Answer.{Answer}
use Rattle.mx_member.specs.declared.acts.Answer.TheVariants as answer
use Rattle.mx_member.specs.Receipts.{StandInOrder, closed_by, own_in}
use Rattle.mx_member.proofs.ReceiptLists.{ordered_within}
use Rattle.std.proofs.Common.{Ok}

-- a new receipt joins its node's, and no other's
pub own_first : (i : ℕ) (r : Receipt) (rs : List Receipt) → r.node ≡ i → own_in i (r ∷ rs) ≡ own_in i rs ++ r ∷ []
own_first i r rs e = cond_true (nat_eq r.node i) (own_in i rs ++ r ∷ []) (own_in i rs) (eq_is r.node i e)

pub own_other : (i : ℕ) (r : Receipt) (rs : List Receipt) → r.node ≢ i → own_in i (r ∷ rs) ≡ own_in i rs
own_other i r rs ne = cond_false (nat_eq r.node i) (own_in i rs ++ r ∷ []) (own_in i rs) (eq_not r.node i ne)

-- so does what an answer hands out
pub own_grows : (i : ℕ) (a : Answer) (rs : List Receipt) → ((r : Receipt) → IsIn r (closed_by a) → r.node ≡ i) → own_in i (closed_by a ++ rs) ≡ own_in i rs ++ closed_by a
own_grows i (answer.Left (Ok r)) rs of = own_first i r rs (of r (inl refl))
own_grows i _ rs of = sym (append_nil (own_in i rs))

pub own_stays : (i j : ℕ) (a : Answer) (rs : List Receipt) → j ≢ i → ((r : Receipt) → IsIn r (closed_by a) → r.node ≡ i) → own_in j (closed_by a ++ rs) ≡ own_in j rs
own_stays i j (answer.Left (Ok r)) rs ne of = own_other j r rs (λ e. ne (sym e ∙ of r (inl refl)))
own_stays i j _ rs ne of = refl

-- a node's own receipts are those that bear its name
pub in_own : (i : ℕ) (rs : List Receipt) (r : Receipt) → IsIn r (own_in i rs) → IsIn r rs × (r.node ≡ i)
in_own i [] r h = absurd h
in_own i (q ∷ rs) r was =
    cond_case (λ l. IsIn r l → IsIn r (q ∷ rs) × (r.node ≡ i)) (nat_eq q.node i) (own_in i rs ++ q ∷ []) (own_in i rs)
    (λ t h. elim (in_append r (own_in i rs) (q ∷ []) h) [
      | inl a ↦ let k = in_own i rs r a in (inr k.0, k.1)
      | inr (inl e) ↦ (inl e, ap (λ (x : Receipt). x.node) e ∙ eq_true q.node i t)
      | inr (inr bad) ↦ absurd bad
    ])
    (λ _ h. let k = in_own i rs r h in (inr k.0, k.1)) was

pub own_has : (i : ℕ) (rs : List Receipt) (r : Receipt) → IsIn r rs → r.node ≡ i → IsIn r (own_in i rs)
own_has i [] r h e = absurd h
own_has i (q ∷ rs) r (inl is) e =
    subst (λ l. IsIn r l) (sym (own_first i q rs (ap (λ (x : Receipt). x.node) (sym is) ∙ e))) (in_right r (own_in i rs) (q ∷ []) (inl is))
own_has i (q ∷ rs) r (inr h) e =
    cond_case (λ l. IsIn r l) (nat_eq q.node i) (own_in i rs ++ q ∷ []) (own_in i rs)
    (λ _. in_left r (own_in i rs) (q ∷ []) (own_has i rs r h e)) (λ _. own_has i rs r h e)

-- they stand in the order of their numbers
pub own_ascends : (i : ℕ) (rs : List Receipt) → StandInOrder rs → (k l : ℕ) (r s : Receipt) → slice_get (own_in i rs) k ≡ Some r → slice_get (own_in i rs) l ≡ Some s → k < l → r.number < s.number
own_ascends i [] o k l r s a b lt = absurd (none_is_no_some r a)
own_ascends i (q ∷ rs) o k l r s a b lt =
    cond_case (λ own. slice_get own k ≡ Some r → slice_get own l ≡ Some s → r.number < s.number) (nat_eq q.node i) (own_in i rs ++ q ∷ []) (own_in i rs)
    (λ _ at to. elim (get_snoc (own_in i rs) q k r at) [
      | inl x ↦ elim (get_snoc (own_in i rs) q l s to) [
        | inl y ↦ own_ascends i rs o.2 k l r s x y lt
        | inr y ↦ (
            let low = (ordered_within rs o.2 r (in_own i rs r (in_get (own_in i rs) k r x)).0).1 in
            let e : s.number ≡ suc (length rs) = ap (λ (z : Receipt). z.number) y.1 ∙ o.0 in
            omega arith)
      ]
      | inr x ↦ elim (get_snoc (own_in i rs) q l s to) [
        | inl y ↦ absurd (let w = slice_get_within (own_in i rs) l s y in omega (arith, x.0))
        | inr y ↦ absurd (omega (arith, x.0, y.0))
      ]
    ])
    (λ _ at to. own_ascends i rs o.2 k l r s at to lt) a b

-- so none stands twice
pub own_place : (i : ℕ) (rs : List Receipt) → StandInOrder rs → (k l : ℕ) (r s : Receipt) → slice_get (own_in i rs) k ≡ Some r → slice_get (own_in i rs) l ≡ Some s → r.number ≡ s.number → k ≡ l
own_place i rs o k l r s a b e = elim (compared k l) [
  | inl lt ↦ absurd (let h = own_ascends i rs o k l r s a b lt in omega arith)
  | inr (inl same) ↦ same
  | inr (inr gt) ↦ absurd (let h = own_ascends i rs o l k s r b a gt in omega arith)
]

-- a member has a place
pub place_in : {X : Type 0} (xs : List X) (x : X) → IsIn x xs → (k : ℕ) × (slice_get xs k ≡ Some x)
place_in [] x h = absurd h
place_in (y ∷ ys) x (inl e) = (0, ap Some (sym e))
place_in (y ∷ ys) x (inr h) = let p = place_in ys x h in (suc p.0, p.1)

-- sums of f 0, f 1, .., below n
abbrev pub sum_below : (ℕ → ℕ) → ℕ → ℕ
sum_below f zero = 0
sum_below f (suc n) = f 0 + sum_below (λ i. f (suc i)) n

sum_nothing : (n : ℕ) → sum_below (λ _. 0) n ≡ 0
sum_nothing zero = refl
sum_nothing (suc n) = let e : sum_below (λ _. 0) n ≡ 0 = sum_nothing n in omega arith

sum_same : (f g : ℕ → ℕ) (n : ℕ) → ((i : ℕ) → f i ≡ g i) → sum_below f n ≡ sum_below g n
sum_same f g zero h = refl
sum_same f g (suc n) h =
    let a : f 0 ≡ g 0 = h 0 in
    let b : sum_below (λ i. f (suc i)) n ≡ sum_below (λ i. g (suc i)) n = sum_same (λ i. f (suc i)) (λ i. g (suc i)) n (λ i. h (suc i)) in
    omega arith

sum_more : (f g : ℕ → ℕ) (n k : ℕ) → k < n → f k ≡ suc (g k) → ((i : ℕ) → i ≢ k → f i ≡ g i) → sum_below f n ≡ suc (sum_below g n)
sum_more f g zero k lt more same = absurd (omega arith)
sum_more f g (suc n) zero lt more same =
    let b : sum_below (λ i. f (suc i)) n ≡ sum_below (λ i. g (suc i)) n = sum_same (λ i. f (suc i)) (λ i. g (suc i)) n (λ i. same (suc i) (λ e. absurd (omega arith))) in
    omega arith
sum_more f g (suc n) (suc k) lt more same =
    let a : f 0 ≡ g 0 = same 0 (λ e. absurd (omega arith)) in
    let b : sum_below (λ i. f (suc i)) n ≡ suc (sum_below (λ i. g (suc i)) n) =
    sum_more (λ i. f (suc i)) (λ i. g (suc i)) n k (omega arith) more (λ i ne. same (suc i) (λ e. ne (omega arith))) in
    omega arith

-- all nodes' receipts are as many as there are
pub own_count : (rs : List Receipt) (n : ℕ) → ((r : Receipt) → IsIn r rs → r.node < n) → sum_below (λ i. length (own_in i rs)) n ≡ length rs
own_count [] n h = sum_nothing n
own_count (q ∷ rs) n h =
    sum_more (λ i. length (own_in i (q ∷ rs))) (λ i. length (own_in i rs)) n q.node (h q (inl refl))
    (ap length (own_first q.node q rs refl) ∙ (let e = length-append (own_in q.node rs) (q ∷ []) in omega arith))
    (λ i ne. ap length (own_other i q rs (λ e. ne (sym e))))
    ∙ ap suc (own_count rs n (λ r k. h r (inr k)))
