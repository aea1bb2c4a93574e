-- Counts, one item after another.
use Rattle.std.proofs.Common.{◌≡◌, ◌∙◌, ◌<◌, ◌≤◌, ◌+◌, ℕ, Bool, true, false, List, [], ◌∷◌, ap, arith, cond, drop, get_or, length, max, refl, sym, take, ◌-◌}
use Rattle.std.specs.Int.{from_bool}
use Rattle.std.specs.List.{count_by, enumerate_from}
use Rattle.std.proofs.lemmas.List.{at_drop_all, at_drop_more, length-drop, take_all}
use Rattle.std.proofs.lemmas.List.Sums.{count_by-le-length, sum_by-cons}
use Rattle.mx_trace.specs.declared.outcome.Entry.{Entry}
use Rattle.mx_count.specs.Waits.{longest_wait, wait_from}

-- one item counts or not
counts_one : {X : Type 0} (p : X → Bool) (x : X) (xs : List X) (b : Bool) → b ≡ p x → from_bool b + count_by p xs ≡ count_by p (x ∷ xs)
counts_one p x xs true is = sym (sum_by-cons (λ y. cond (p y) 1 0) x xs ∙ ap (λ (c : Bool). cond c 1 0 + count_by p xs) (sym is))
counts_one p x xs false is = sym (sum_by-cons (λ y. cond (p y) 1 0) x xs ∙ ap (λ (c : Bool). cond c 1 0 + count_by p xs) (sym is))

-- the first of the items that are left
pub count_first : {X : Type 0} (p : X → Bool) (xs ys : List X) (x : X) (b : Bool) (n : ℕ) → xs ≡ x ∷ ys → b ≡ p x → n ≡ from_bool b
    → n + count_by p ys ≡ count_by p xs
count_first p xs ys x b n is same one =
    ap (λ m. m + count_by p ys) one ∙ counts_one p x ys b same ∙ ap (count_by p) (sym is)

-- items that come with their places
pub count_numbered : {X : Type 0} (p : X → Bool) (k : ℕ) (xs : List X) → count_by (λ (x : ℕ × X). p x.1) (enumerate_from k xs) ≡ count_by p xs
count_numbered p k [] = refl
count_numbered {X} p k (x ∷ xs) =
    sum_by-cons (λ (y : ℕ × X). cond (p y.1) 1 0) (k, x) (enumerate_from (k + 1) xs) ∙ ap (λ n. cond (p x) 1 0 + n) (count_numbered p (k + 1) xs)
    ∙ sym (sum_by-cons (λ y. cond (p y) 1 0) x xs)

pub count_end : {X : Type 0} (p : X → Bool) (xs : List X) (k n total : ℕ) → length xs ≤ k → n + count_by p (drop k xs) ≡ total → n ≡ total
count_end p xs k n total le is = let none : count_by p (drop k xs) ≡ 0 = at_drop_all (count_by p) xs k le in omega arith

-- one more item of a list, which counts or not
pub count_item : {X : Type 0} (p : X → Bool) (xs : List X) (k : ℕ) (d : X) (b : Bool) (n count total : ℕ) → k < length xs → count + count_by p (drop k xs) ≡ total
    → b ≡ p (get_or xs k d) → n ≡ from_bool b → (count + n) + count_by p (drop (k + 1) xs) ≡ total
count_item p xs k d b n count total lt whole is one =
    let step : count_by p (drop k xs) ≡ count_by p (get_or xs k d ∷ drop (k + 1) xs) = at_drop_more (count_by p) xs k d lt in
    let item : n + count_by p (drop (k + 1) xs) ≡ count_by p (get_or xs k d ∷ drop (k + 1) xs) =
    ap (λ m. m + count_by p (drop (k + 1) xs)) one ∙ counts_one p (get_or xs k d) (drop (k + 1) xs) b is in
    omega (arith, step, item, whole)

-- a count that goes on is no greater than the list is long
pub count_fits : {X : Type 0} (p : X → Bool) (xs : List X) (count rest : ℕ) → count + rest ≡ count_by p xs → count ≤ length xs
count_fits p xs count rest whole = let few : count_by p xs ≤ length xs = count_by-le-length p xs in omega (arith, few, whole)

-- one more item of the trace, and the wait that begins there
pub wait_more : (xs : List Entry) (k l total w m : ℕ) (e : Entry) → k < length xs → max l (longest_wait (drop k xs)) ≡ total
    → w ≡ wait_from e.outcome (take (length xs - (k + 1)) (drop (k + 1) xs)) → m ≡ max l w → e ≡ get_or xs k e → max m (longest_wait (drop (k + 1) xs)) ≡ total
unfolding longest_wait
wait_more xs k l total w m e lt is waits longer there =
    let rest = drop (k + 1) xs in
    let few : length rest ≤ length xs - (k + 1) =
    let left : length rest ≡ length xs - (k + 1) = length-drop (k + 1) xs in omega (arith, left) in
    let whole : w ≡ wait_from e.outcome rest = waits ∙ ap (wait_from e.outcome) (take_all (length xs - (k + 1)) rest few) in
    let step : longest_wait (drop k xs) ≡ max (wait_from (get_or xs k e).outcome rest) (longest_wait rest) = at_drop_more longest_wait xs k e lt in
    let same : wait_from e.outcome rest ≡ wait_from (get_or xs k e).outcome rest = ap (λ (x : Entry). wait_from x.outcome rest) there in
    omega (arith, step, same, whole, longer, is)

pub wait_end : (xs : List Entry) (k l total : ℕ) → length xs ≤ k → max l (longest_wait (drop k xs)) ≡ total → l ≡ total
unfolding longest_wait
wait_end xs k l total le is = let none : longest_wait (drop k xs) ≡ 0 = at_drop_all longest_wait xs k le in omega arith
