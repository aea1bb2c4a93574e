-- How the least difference of two journals is found, record by record.
use Rattle.std.proofs.Common.{ℕ, suc, ◌<◌, ◌≡◌, inl, inr, List, [], ◌∷◌, ◌++◌, ◌↔◌, Option, Some, None, is_some, IfSome, IfNone, IsTrue, Bool, true, false, not, refl, sym, ◌∙◌, ap, arith}
use Rattle.mx_stamps.specs.Lists.{IsIn}
use Rattle.mx_stamps.proofs.Lists.{in_append, in_left, in_right}
use Rattle.mx_journal.specs.declared.records.Record.{Record}
use Rattle.mx_journal.specs.Records.{Ascending}
use Rattle.mx_journal.specs.Agreement.{AgreesWith, AreAgreeing, IsConsistent, IsFirstConflict, IsOpposed}
use Rattle.mx_journal.specs.Settled.{DoAgree, JournalState}
use Rattle.mx_journal.proofs.Answering.{not_consistent, one_first}
use Rattle.mx_journal.proofs.Maps.{ascending_above, ascending_same}
use Rattle.mx_merge.specs.Join.{IsFirstDifference}

-- the records gone through agree with the journal, and so does one more
pub one_more : (xs done : List Record) (r : Record) → AreAgreeing xs done → AgreesWith r xs → AreAgreeing xs (done ++ r ∷ [])
one_more xs done r h agrees x y k t e = elim (in_append y done (r ∷ []) t) [
  | inl d ↦ h x y k d e
  | inr (inl q) ↦ agrees x k (e ∙ ap (λ (z : Record). z.number) q) ∙ sym q
  | inr (inr bad) ↦ absurd bad
]

-- journals that agree are consistent together
pub consistent_both : (xs ys : List Record) → Ascending 1 xs → Ascending 1 ys → AreAgreeing xs ys → IsConsistent (xs ++ ys)
consistent_both xs ys a b h x y k t e = elim (in_append x xs ys k) [
  | inl p ↦ elim (in_append y xs ys t) [ inl q ↦ ascending_same 1 xs a x y p q e | inr q ↦ h x y p q e ]
  | inr p ↦ elim (in_append y xs ys t) [ inl q ↦ sym (h y x q p (sym e)) | inr q ↦ ascending_same 1 ys b x y p q e ]
]

-- a record numbered below one in the middle stands before it
before : (k : ℕ) (done rest : List Record) (r y : Record) → Ascending k (done ++ r ∷ rest) → IsIn y (done ++ r ∷ rest) → y.number < r.number → IsIn y done
before k [] rest r y b (inl e) l = absurd (let q : y.number ≡ r.number = ap (λ (z : Record). z.number) e in omega arith)
before k [] rest r y b (inr m) l = absurd (let q = ascending_above (suc r.number) rest b.1 y m in omega arith)
before k (x ∷ done) rest r y b (inl e) l = inl e
before k (x ∷ done) rest r y b (inr m) l = inr (before (suc x.number) done rest r y b.1 m l)

-- where the records before one agree, as numbers ascend, and it is opposed: it is the first to differ
pub first_opposed : (xs done rest : List Record) (r : Record) → Ascending 1 xs → Ascending 1 (done ++ r ∷ rest) → AreAgreeing xs done → IsOpposed r xs → IsFirstConflict r.number (xs ++ (done ++ r ∷ rest))
first_opposed xs done rest r a b h w =
    let ys : List Record = done ++ r ∷ rest in
    let low : (y : Record) → IsIn y ys → y.number < r.number → IsIn y done = λ y m l. before 1 done rest r y b m l in
    let across : (x y : Record) → IsIn x xs → IsIn y ys → x.number ≡ y.number → y.number < r.number → x ≡ y = λ x y p q e l. h x y p (low y q l) e in (
      (w.0, r, in_left w.0 xs ys w.1, in_right r xs ys (in_right r done (r ∷ rest) (inl refl)), w.2, refl, w.3),
      λ x y k t e l. elim (in_append x xs ys k) [
        | inl p ↦ elim (in_append y xs ys t) [ inl q ↦ ascending_same 1 xs a x y p q e | inr q ↦ across x y p q e (let f : x.number ≡ y.number = e in omega arith) ]
        | inr p ↦ elim (in_append y xs ys t) [ inl q ↦ sym (across y x q p (sym e) l) | inr q ↦ ascending_same 1 ys b x y p q e ]
      ],
    )

-- no first conflict of journals that agree
pub no_conflict : (n : ℕ) (xs ys : List Record) → Ascending 1 xs → Ascending 1 ys → AreAgreeing xs ys → IsFirstConflict n (xs ++ ys) → ⊥
no_conflict n xs ys a b h w = not_consistent n (xs ++ ys) w (consistent_both xs ys a b h)

-- no first difference of journals that agree
pub no_difference : (n : ℕ) (a b : JournalState) → Ascending 1 a.records → Ascending 1 b.records → DoAgree a b → IsFirstDifference n a b → ⊥
no_difference n a b oa ob agree (inl w) = (w.0).1 (agree.bases (w.0).0)
no_difference n a b oa ob agree (inr w) = no_conflict n a.records b.records oa ob agree.records w.1

-- there is one first difference
pub one_difference : (m n : ℕ) (a b : JournalState) → IsFirstDifference m a b → IsFirstDifference n a b → m ≡ n
one_difference m n a b (inl h) (inl t) = h.1 ∙ sym t.1
one_difference m n a b (inl h) (inr t) = absurd (t.0 h.0)
one_difference m n a b (inr h) (inl t) = absurd (h.0 t.0)
one_difference m n a b (inr h) (inr t) = one_first m n (a.records ++ b.records) h.1 t.1

-- there is no least difference exactly where journals agree
pub none_where_agreeing : (least : Option ℕ) (none : Bool) (a b : JournalState) → is_some least ≡ not none → Ascending 1 a.records → Ascending 1 b.records → IfSome least (λ n. IsFirstDifference n a b) → IfNone least (DoAgree a b) → IsTrue none ↔ DoAgree a b
none_where_agreeing None true a b e oa ob first agree = (λ _. agree, λ _. refl)
none_where_agreeing None false a b e oa ob first agree = let bad : ⊥ = cc in absurd bad
none_where_agreeing (Some n) true a b e oa ob first agree = let bad : ⊥ = cc in absurd bad
none_where_agreeing (Some n) false a b e oa ob first agree = (λ t. let bad : ⊥ = cc in absurd bad, λ h. absurd (no_difference n a b oa ob h first))

-- the answer of a search for conflicts among the records, where the bases do not differ
pub some_difference : (least : Option ℕ) (a b : JournalState) → (a.base.upto ≡ b.base.upto → a.base ≡ b.base) → IfSome least (λ n. IsFirstConflict n (a.records ++ b.records)) → IfSome least (λ n. IsFirstDifference n a b)
some_difference None a b same h = tt
some_difference (Some n) a b same h = inr (λ w. w.1 (same w.0), h)

pub none_different : (least : Option ℕ) (a b : JournalState) → (a.base.upto ≡ b.base.upto → a.base ≡ b.base) → IfNone least (AreAgreeing a.records b.records) → IfNone least (DoAgree a b)
none_different None a b same h = record { records = h; bases = same }
none_different (Some n) a b same h = tt
