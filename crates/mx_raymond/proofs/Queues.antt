-- A queue is still one after a name joins or leaves it, and has room for each name that is not in it.
use Rattle.std.proofs.Common.{ℕ, ◌<◌, ◌≤◌, ◌≡◌, inl, inr, Bool, false, not, nat_eq, List, [], ◌∷◌, ◌++◌, Some, filter, length, refl, subst, arith, length-append}
use Rattle.std.specs.Cmp.{nat_eq_equiv}
use Rattle.std.specs.List.{AllByRecursion, IsDistinct}
use Rattle.std.proofs.lemmas.Option.{same_Some}
use Rattle.std.proofs.lemmas.Map.Keys.{IsDistinct-push, IsDistinct-cons, IsDistinct-head, IsDistinct-tail}
use Rattle.std.proofs.lemmas.Map.Steps.{length-le_from_distinct_below}
use Rattle.mx_stamps.proofs.Lists.{none_is_no_some}
use Rattle.mx_stamps.proofs.Choices.{or_right, neither_true, is_false, cond_case}
use Rattle.mx_raymond.specs.Queue.{is_queued, head_of, rest_of, without, IsQueue}
use Rattle.mx_raymond.specs.laws.Tests.{queued_pushed, queued_without}

pub is_queue_pushed : (queue : List ℕ) (name : ℕ) → IsQueue queue → name < 21 → is_queued queue name ≡ false → IsQueue (queue ++ name ∷ [])
is_queue_pushed queue name ok lt absent = record {
  once = IsDistinct-push nat_eq_equiv queue name ok.once absent;
  nodes = λ node h. elim (queued_pushed queue name node h) [ inl old ↦ ok.nodes node old | inr e ↦ omega arith ];
}

-- there is room for a name that is not in the queue
pub room : (queue : List ℕ) (name : ℕ) → IsQueue queue → name < 21 → is_queued queue name ≡ false → length queue < 21
room queue name ok lt absent =
    let more = is_queue_pushed queue name ok lt absent in
    let le : length (queue ++ name ∷ []) ≤ 21 = length-le_from_distinct_below (queue ++ name ∷ []) 21 more.once more.nodes in
    omega (arith, length-append queue (name ∷ []))

pub is_queue_rest : (queue : List ℕ) → IsQueue queue → IsQueue (rest_of queue)
is_queue_rest [] ok = ok
is_queue_rest (first ∷ rest) ok = record {
  once = IsDistinct-tail nat_eq first rest ok.once;
  nodes = λ node h. ok.nodes node (or_right (nat_eq node first) (is_queued rest node) h);
}

absent_in : (name : ℕ) (queue : List ℕ) → AllByRecursion (λ y. nat_eq name y ≡ false) queue → is_queued queue name ≡ false
absent_in name [] h = refl
absent_in name (first ∷ rest) h = neither_true (nat_eq name first) (is_queued rest name) h.0 (absent_in name rest h.1)

-- the head is not in the queue behind it
pub head_once : (queue : List ℕ) (node : ℕ) → IsQueue queue → head_of queue ≡ Some node → is_queued (rest_of queue) node ≡ false
head_once [] node ok h = absurd (none_is_no_some node h)
head_once (first ∷ rest) node ok h =
    subst (λ x. is_queued rest x ≡ false) (same_Some first node h) (absent_in first rest (IsDistinct-head nat_eq first rest ok.once))

pub is_queue_empty : IsQueue []
unfolding IsDistinct
is_queue_empty = record { once = tt; nodes = λ node h. let bad : ⊥ = cc in absurd bad }

-- the names that pass a test are each there once, where all are
absent_kept : (test : ℕ → Bool) (name : ℕ) (queue : List ℕ) → AllByRecursion (λ y. nat_eq name y ≡ false) queue → AllByRecursion (λ y. nat_eq name y ≡ false) (filter test queue)
absent_kept test name [] h = tt
absent_kept test name (first ∷ rest) h =
    cond_case (λ q. AllByRecursion (λ y. nat_eq name y ≡ false) q) (test first) (first ∷ filter test rest) (filter test rest)
    (λ _. (h.0, absent_kept test name rest h.1)) (λ _. absent_kept test name rest h.1)

once_kept : (test : ℕ → Bool) (queue : List ℕ) → IsDistinct nat_eq queue → IsDistinct nat_eq (filter test queue)
once_kept test [] once = once
once_kept test (first ∷ rest) once =
    cond_case (λ q. IsDistinct nat_eq q) (test first) (first ∷ filter test rest) (filter test rest)
    (λ _. IsDistinct-cons nat_eq first (filter test rest) (absent_kept test first rest (IsDistinct-head nat_eq first rest once)) (once_kept test rest (IsDistinct-tail nat_eq first rest once)))
    (λ _. once_kept test rest (IsDistinct-tail nat_eq first rest once))

pub is_queue_without : (queue : List ℕ) (name : ℕ) → IsQueue queue → IsQueue (without queue name)
is_queue_without queue name ok = record {
  once = once_kept (λ x. not (nat_eq x name)) queue ok.once;
  nodes = λ node h. ok.nodes node (queued_without queue name node h).0;
}

-- a name that has gone is not in the queue
pub gone : (queue : List ℕ) (name : ℕ) → is_queued (without queue name) name ≡ false
gone queue name = is_false (is_queued (without queue name) name) (λ h. (queued_without queue name name h).1 refl)
