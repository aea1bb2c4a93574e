-- The records of a list, in any order, that are numbered above a number.
use Rattle.std.proofs.Common.{ℕ, ◌<◌, ◌≤◌, ◌≡◌, inl, inr, List, [], ◌∷◌, ◌++◌, nat_lt, refl, ap, arith}
use Rattle.mx_stamps.specs.Lists.{IsIn}
use Rattle.mx_stamps.proofs.Lists.{in_append, in_left, in_right}
use Rattle.mx_stamps.proofs.Choices.{cond_case, lt_false, lt_true}
use Rattle.mx_journal.specs.declared.records.Record.{Record}
use Rattle.mx_journal.specs.Agreement.{AgreesWith, IsOpposed}
use Rattle.mx_journal.specs.Settled.{beyond}

-- what holds of the records above n, by whether the first one is
pub beyond_case : (P : List Record → Type 0) (n : ℕ) (x : Record) (xs : List Record) → (n < x.number → P (x ∷ beyond n xs)) → (x.number ≤ n → P (beyond n xs)) → P (beyond n (x ∷ xs))
beyond_case P n x xs here gone =
    cond_case P (nat_lt n x.number) (x ∷ beyond n xs) (beyond n xs) (λ t. here (lt_true n x.number t)) (λ f. gone (lt_false n x.number f))

pub in_beyond : (n : ℕ) (xs : List Record) (x : Record) → IsIn x (beyond n xs) → IsIn x xs × (n < x.number)
in_beyond n [] x h = absurd h
in_beyond n (y ∷ ys) x was =
    beyond_case (λ l. IsIn x l → IsIn x (y ∷ ys) × (n < x.number)) n y ys
    (λ high h. elim h [
      | inl e ↦ (let s : x.number ≡ y.number = ap (λ (z : Record). z.number) e in (inl e, omega arith))
      | inr m ↦ (let w = in_beyond n ys x m in (inr w.0, w.1))
    ])
    (λ _ h. let w = in_beyond n ys x h in (inr w.0, w.1)) was

pub beyond_has : (n : ℕ) (xs : List Record) (x : Record) → IsIn x xs → n < x.number → IsIn x (beyond n xs)
beyond_has n [] x h l = absurd h
beyond_has n (y ∷ ys) x (inl e) l =
    beyond_case (λ zs. IsIn x zs) n y ys (λ _. inl e) (λ low. absurd (let s : x.number ≡ y.number = ap (λ (z : Record). z.number) e in omega arith))
beyond_has n (y ∷ ys) x (inr h) l = beyond_case (λ zs. IsIn x zs) n y ys (λ _. inr (beyond_has n ys x h l)) (λ _. beyond_has n ys x h l)

-- one record more at the end
pub beyond_more : (n : ℕ) (xs : List Record) (x : Record) → n < x.number → beyond n (xs ++ x ∷ []) ≡ beyond n xs ++ x ∷ []
beyond_more n [] x l = beyond_case (λ q. q ≡ x ∷ []) n x [] (λ _. refl) (λ bad. absurd (omega arith))
beyond_more n (y ∷ ys) x l =
    beyond_case (λ q. beyond n (y ∷ (ys ++ x ∷ [])) ≡ q ++ x ∷ []) n y ys
    (λ high. beyond_case (λ q. q ≡ y ∷ (beyond n ys ++ x ∷ [])) n y (ys ++ x ∷ []) (λ _. ap (λ q. y ∷ q) (beyond_more n ys x l)) (λ bad. absurd (omega arith)))
    (λ low. beyond_case (λ q. q ≡ beyond n ys ++ x ∷ []) n y (ys ++ x ∷ []) (λ bad. absurd (omega arith)) (λ _. beyond_more n ys x l))

pub beyond_same : (n : ℕ) (xs : List Record) (x : Record) → x.number ≤ n → beyond n (xs ++ x ∷ []) ≡ beyond n xs
beyond_same n [] x l = beyond_case (λ q. q ≡ []) n x [] (λ bad. absurd (omega arith)) (λ _. refl)
beyond_same n (y ∷ ys) x l =
    beyond_case (λ q. beyond n (y ∷ (ys ++ x ∷ [])) ≡ q) n y ys
    (λ high. beyond_case (λ q. q ≡ y ∷ beyond n ys) n y (ys ++ x ∷ []) (λ _. ap (λ q. y ∷ q) (beyond_same n ys x l)) (λ bad. absurd (omega arith)))
    (λ low. beyond_case (λ q. q ≡ beyond n ys) n y (ys ++ x ∷ []) (λ bad. absurd (omega arith)) (λ _. beyond_same n ys x l))

-- a list stays whole, where all its records are above n
pub beyond_all : (n : ℕ) (xs : List Record) → ((x : Record) → IsIn x xs → n < x.number) → beyond n xs ≡ xs
beyond_all n [] h = refl
beyond_all n (x ∷ xs) h =
    beyond_case (λ q. q ≡ x ∷ xs) n x xs (λ _. ap (λ q. x ∷ q) (beyond_all n xs (λ y m. h y (inr m)))) (λ low. absurd (let l = h x (inl refl) in omega arith))

-- a record above n agrees with, or is opposed in, a journal's records and a list, where it does or is above n
pub agrees_beyond : (n : ℕ) (r : Record) (xs list : List Record) → AgreesWith r (xs ++ list) → AgreesWith r (xs ++ beyond n list)
agrees_beyond n r xs list h x m = elim (in_append x xs (beyond n list) m) [
  | inl k ↦ h x (in_left x xs list k)
  | inr k ↦ h x (in_right x xs list (let w = in_beyond n list x k in w.0))
]

pub opposed_beyond : (n : ℕ) (r : Record) (xs list : List Record) → n < r.number → IsOpposed r (xs ++ list) → IsOpposed r (xs ++ beyond n list)
opposed_beyond n r xs list l w = elim (in_append w.0 xs list w.1) [
  | inl k ↦ (w.0, in_left w.0 xs (beyond n list) k, w.2, w.3)
  | inr k ↦ (w.0, in_right w.0 xs (beyond n list) (beyond_has n list w.0 k (let e = w.2 in omega arith)), w.2, w.3)
]
