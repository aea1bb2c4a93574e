-- How the least conflict is found, record by record.
use Rattle.std.proofs.Common.{ℕ, ◌<◌, ◌≡◌, ◌⊎◌, inl, inr, min, List, [], ◌∷◌, ◌++◌, Option, Some, None, IfSome, IfNone, refl, sym, ap, subst, arith}
use Rattle.mx_stamps.specs.Lists.{IsIn}
use Rattle.mx_stamps.proofs.Lists.{in_append}
use Rattle.mx_journal.specs.declared.records.Record.{Record}
use Rattle.mx_journal.specs.Records.{Ascending}
use Rattle.mx_journal.specs.Agreement.{AgreesWith, IsConsistent, IsConflict, IsFirstConflict, IsOpposed}
use Rattle.mx_journal.specs.Searches.{lower_of}
use Rattle.mx_journal.proofs.Maps.{ascending_same}

-- what is known once these records were compared with all: the least number of those opposed so far
abbrev pub IsLeastSoFar : Option ℕ → List Record → List Record → Type 0
IsLeastSoFar None done all = (x : Record) → IsIn x done → AgreesWith x all
IsLeastSoFar (Some n) done all = IsConflict n all × ((x : Record) → IsIn x done → x.number < n → AgreesWith x all)

pub so_far_agrees : (least : Option ℕ) (done all : List Record) (r : Record) → IsLeastSoFar least done all → AgreesWith r all → IsLeastSoFar least (done ++ r ∷ []) all
so_far_agrees None done all r h agrees = λ x k. elim (in_append x done (r ∷ []) k) [
  | inl d ↦ h x d
  | inr (inl e) ↦ subst (λ z. AgreesWith z all) (sym e) agrees
  | inr (inr bad) ↦ absurd bad
]
so_far_agrees (Some n) done all r h agrees = (
  h.0,
  λ x k l. elim (in_append x done (r ∷ []) k) [
    | inl d ↦ h.1 x d l
    | inr (inl e) ↦ subst (λ z. AgreesWith z all) (sym e) agrees
    | inr (inr bad) ↦ absurd bad
  ],
)

conflict_of : (r : Record) (all : List Record) → IsIn r all → IsOpposed r all → IsConflict r.number all
conflict_of r all m w = (w.0, r, w.1, m, w.2, refl, w.3)

pub so_far_opposed : (least : Option ℕ) (done all : List Record) (r : Record) → IsLeastSoFar least done all → IsIn r all → IsOpposed r all → IsLeastSoFar (Some (lower_of least r.number)) (done ++ r ∷ []) all
so_far_opposed None done all r h m w = (
  conflict_of r all m w,
  λ x k l. elim (in_append x done (r ∷ []) k) [
    | inl d ↦ h x d
    | inr (inl e) ↦ absurd (let q : x.number ≡ r.number = ap (λ (z : Record). z.number) e in omega arith)
    | inr (inr bad) ↦ absurd bad
  ],
)
so_far_opposed (Some n) done all r h m w =
    let number : (min n r.number ≡ n) ⊎ (min n r.number ≡ r.number) = grind arith in
    let there : IsConflict (min n r.number) all = elim number [
      | inl e ↦ subst (λ k. IsConflict k all) (sym e) h.0
      | inr e ↦ subst (λ k. IsConflict k all) (sym e) (conflict_of r all m w)
    ] in (
      there,
      λ x k l. elim (in_append x done (r ∷ []) k) [
        | inl d ↦ h.1 x d (omega arith)
        | inr (inl e) ↦ absurd (let q : x.number ≡ r.number = ap (λ (z : Record). z.number) e in omega arith)
        | inr (inr bad) ↦ absurd bad
      ],
    )

-- the whole list was compared with the journal and itself: no conflict, or the first one
pub none_left : (xs rs : List Record) → Ascending 1 xs → IsLeastSoFar None rs (xs ++ rs) → IsConsistent (xs ++ rs)
none_left xs rs a h x y k t e = elim (in_append x xs rs k) [
  | inr m ↦ sym (h x m y t (sym e))
  | inl m ↦ elim (in_append y xs rs t) [
    | inr q ↦ h y q x k e
    | inl q ↦ ascending_same 1 xs a x y m q e
  ]
]

pub first_left : (n : ℕ) (xs rs : List Record) → Ascending 1 xs → IsLeastSoFar (Some n) rs (xs ++ rs) → IsFirstConflict n (xs ++ rs)
first_left n xs rs a h = (
  h.0,
  λ x y k t e l. elim (in_append x xs rs k) [
    | inr m ↦ sym (h.1 x m l y t (sym e))
    | inl m ↦ elim (in_append y xs rs t) [
      | inr q ↦ h.1 y q (omega arith) x k e
      | inl q ↦ ascending_same 1 xs a x y m q e
    ]
  ],
)

-- both facts, of the answer as a whole
pub some_says : (least : Option ℕ) (xs rs : List Record) → Ascending 1 xs → IsLeastSoFar least rs (xs ++ rs) → IfSome least (λ n. IsFirstConflict n (xs ++ rs))
some_says None xs rs a h = tt
some_says (Some n) xs rs a h = first_left n xs rs a h

pub none_says : (least : Option ℕ) (xs rs : List Record) → Ascending 1 xs → IsLeastSoFar least rs (xs ++ rs) → IfNone least (IsConsistent (xs ++ rs))
none_says None xs rs a h = none_left xs rs a h
none_says (Some n) xs rs a h = tt
