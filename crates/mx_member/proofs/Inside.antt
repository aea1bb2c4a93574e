-- Who is inside is inside the newest section, and where that is open its node is inside.
use Rattle.std.proofs.Common.{ℕ, ◌≡◌, inl, inr, true, false, List, [], ◌∷◌, refl, sym, ◌∙◌, subst}
use Rattle.mx_nodelaws.specs.World.{World}
use Rattle.mx_nodelaws.specs.Core.{Core, IsInside}
use Rattle.mx_nodelaws.specs.declared.phase.Phase.TheVariants.{Inside}
use Rattle.mx_member.specs.declared.parcel.Parcel.{Parcel}
use Rattle.mx_member.specs.Member.{MemberState}
use Rattle.mx_trace.specs.Sections.{Section}
use Rattle.mx_trace.specs.Serial.{AllClosed, IsInNewest, IsInSection}
use Rattle.mx_member.specs.World.{IsMember, IsSound}
use Rattle.mx_member.proofs.DraftSteps.{someone}
use Rattle.mx_member.proofs.EntrySteps.{drafted}

-- the newest section is one node's
newest_node : (ss : List Section) (i j : ℕ) → IsInNewest i ss → IsInNewest j ss → i ≡ j
newest_node [] i j a b = absurd a
newest_node (s ∷ ss) i j a b = sym a.0 ∙ b.0

-- and is not left while its node is inside
not_all_closed : (ss : List Section) (i : ℕ) → IsInNewest i ss → AllClosed ss → ⊥
not_all_closed [] i here closed = here
not_all_closed (s ∷ ss) i here closed = let e : true ≡ false = sym closed.0 ∙ here.1 in cc

module _ {H S M : Type 0} (core : Core H S M) (Good : World S M → Type 0) (ss : List Section) (members : List (MemberState S)) (sent : List (ℕ × ℕ × Parcel M)) (sound : IsSound core Good ss members sent) where
  -- a member that is inside is in the newest section, with its number
  pub in_section : (i n : ℕ) (m : MemberState S) → IsMember members i m → core.phase m.core ≡ Inside n → IsInSection i n ss
  in_section i n m at inside =
      let d = drafted m n ss (sound.inside i n m at inside) in
      subst (λ l. IsInSection i n l) (sym d.1) ((sound.named i m at, refl), d.2)

  -- the node of an open section is inside, with its number
  pub section_in : (i n : ℕ) → IsInSection i n ss → (m : MemberState S) × IsMember members i m × (core.phase m.core ≡ Inside n)
  section_in i n (here, number) = elim (someone core members) [
    | inl some ↦
        let was = in_section some.0 some.3.0 some.1 some.2 some.3.1 in (
          some.1,
          subst (λ k. IsMember members k some.1) (newest_node ss some.0 i was.0 here) some.2,
          subst (λ k. core.phase some.1.core ≡ Inside k) (was.1 ∙ sym number) some.3.1,
        )
    | inr none ↦ absurd (not_all_closed ss i here (sound.nobody none))
  ]

  -- where all sections were left nobody is inside
  pub nobody_in : AllClosed ss → (i : ℕ) (m : MemberState S) → IsMember members i m → IsInside core m.core → ⊥
  nobody_in closed i m at inside = not_all_closed ss i (in_section i inside.0 m at inside.1).0 closed
