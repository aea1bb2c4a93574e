-- Which answer stations get: of the conditions of all answers just one holds.
use Rattle.std.proofs.Common.{◌≡◌, ◌⊎◌, inl, inr, ◌↔◌, ℕ, ◌<◌, List, [], ◌∷◌, length, true, false, refl, sym, ap, subst, arith}
use mathlib.Core.Option.{some-ne-none}
use Rattle.mx_nodelaws.specs.Core.{Core}
use Rattle.mx_member.specs.declared.parcel.Parcel.{Parcel}
use Rattle.mx_member.specs.Member.{MemberState}
use Rattle.mx_stations.specs.declared.collection.GatherFault.{GatherFault}
use Rattle.mx_stations.specs.declared.collection.GatherFault.TheVariants.{NotAll, StillInside, Memory}
use Rattle.mx_stations.specs.Posts.{Post}
use Rattle.mx_stations.specs.Gathered.{IsLeastInside, IsLeastMissing, IsQuiet, IsReady, IsWhole, Refuses}

-- two least numbers of one kind are one
one_least : (i j : ℕ) → (i < j → ⊥) → (j < i → ⊥) → i ≡ j
one_least i j a b = omega (arith, a, b)

same_missing : (i j : ℕ) → NotAll i ≡ NotAll j → i ≡ j
same_missing i j e = cc

same_inside : (i j : ℕ) → StillInside i ≡ StillInside j → i ≡ j
same_inside i j e = cc

-- some station is there where all are
pub never_empty : {T P : Type 0} (posts : List (Post T P)) → IsWhole posts → 0 < length posts
never_empty [] whole = absurd (let h = whole 0 (omega arith) in some-ne-none h.1 (sym h.2))
never_empty (s ∷ posts) whole = omega arith

module _ {T P : Type 0} (posts : List (Post T P)) where
  one_missing : (i j : ℕ) → IsLeastMissing posts i → IsLeastMissing posts j → i ≡ j
  one_missing i j a b = one_least i j
      (λ low. let h = b.2 i low in a.1 h.0 h.1 h.2 h.3)
      (λ low. let h = a.2 j low in b.1 h.0 h.1 h.2 h.3)

  missing_not_whole : (i : ℕ) → IsLeastMissing posts i → IsWhole posts → ⊥
  missing_not_whole i a whole = let h = whole i a.0 in a.1 h.0 h.1 h.2 h.3

module _ {H S M : Type 0} (core : Core H S M) (posts : List (Post (MemberState S) (Parcel M))) where
  one_inside : (i j : ℕ) → IsLeastInside core posts i → IsLeastInside core posts j → i ≡ j
  one_inside i j a b = one_least i j
      (λ low. let h = a.1 in b.2 i low h.0 h.1 h.2 h.3 h.4)
      (λ low. let h = b.1 in a.2 j low h.0 h.1 h.2 h.3 h.4)

  inside_not_quiet : (i : ℕ) → IsLeastInside core posts i → IsQuiet core posts → ⊥
  inside_not_quiet i a quiet = let h = a.1 in quiet i a.0 h.0 h.1 h.2 h.3 h.4

  -- the answer to stations that are gathered
  pub gathers : IsReady core posts → ((i : ℕ) → ⊥ ↔ IsLeastMissing posts i) × ((i : ℕ) → ⊥ ↔ (IsWhole posts × IsLeastInside core posts i)) × (((true ≡ true) ⊎ ⊥) ↔ IsReady core posts)
  gathers ready = (
    λ i. ((λ h. absurd h), (λ a. missing_not_whole posts i a ready.0)),
    λ i. ((λ h. absurd h), (λ a. inside_not_quiet i a.1 ready.1)),
    ((λ _. ready), (λ _. inl refl)),
  )

  -- and to stations that are refused
  refused_missing : (fault : GatherFault) → Refuses core posts fault → (i : ℕ) → (fault ≡ NotAll i) ↔ IsLeastMissing posts i
  refused_missing (NotAll j) a i = ((λ e. subst (IsLeastMissing posts) (same_missing j i e) a), (λ b. ap NotAll (one_missing posts j i a b)))
  refused_missing (StillInside j) a i = ((λ e. cc), (λ b. absurd (missing_not_whole posts i b a.0)))
  refused_missing Memory a i = ((λ e. cc), (λ b. absurd (missing_not_whole posts i b a.0)))

  refused_inside : (fault : GatherFault) → Refuses core posts fault → (i : ℕ) → (fault ≡ StillInside i) ↔ (IsWhole posts × IsLeastInside core posts i)
  refused_inside (NotAll j) a i = ((λ e. cc), (λ b. absurd (missing_not_whole posts j a b.0)))
  refused_inside (StillInside j) a i = ((λ e. (a.0, subst (IsLeastInside core posts) (same_inside j i e) a.1)), (λ b. ap StillInside (one_inside j i a.1 b.1)))
  refused_inside Memory a i = ((λ e. cc), (λ b. absurd (inside_not_quiet i b.1 a.1)))

  refused_ready : (fault : GatherFault) → Refuses core posts fault → ((false ≡ true) ⊎ (fault ≡ Memory)) ↔ IsReady core posts
  refused_ready (NotAll j) a = ((λ e. elim e [ inl h ↦ cc | inr h ↦ cc ]), (λ b. absurd (missing_not_whole posts j a b.0)))
  refused_ready (StillInside j) a = ((λ e. elim e [ inl h ↦ cc | inr h ↦ cc ]), (λ b. absurd (inside_not_quiet j a.1 b.1)))
  refused_ready Memory a = ((λ e. a), (λ b. inr refl))

  pub refused : (fault : GatherFault) → Refuses core posts fault → ((i : ℕ) → (fault ≡ NotAll i) ↔ IsLeastMissing posts i) × ((i : ℕ) → (fault ≡ StillInside i) ↔ (IsWhole posts × IsLeastInside core posts i)) × (((false ≡ true) ⊎ (fault ≡ Memory)) ↔ IsReady core posts)
  refused fault a = (refused_missing fault a, refused_inside fault a, refused_ready fault a)
