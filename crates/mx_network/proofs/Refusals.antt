-- Which events can't happen: those that name a node that isn't there, and deliveries of what was not sent.
use Rattle.std.proofs.Common.{ℕ, ◌<◌, ◌≤◌, ◌≡◌, ◌⊎◌, ◌↔◌, inl, inr, Bool, List, Option, Some, None, Result, Ok, Err, IsOk, IfErr, IfOk, slice_get, length, refl, sym, ◌∙◌, ap, subst, arith, if◌then◌else◌}
use Rattle.std.proofs.lemmas.Option.{slice_get_cases, slice_get_within}
use Rattle.mx_stamps.proofs.Lists.{none_is_no_some, in_get}
use Rattle.mx_journal.proofs.Choices.{compared, lt_is, lt_not}
use Rattle.mx_nodelaws.specs.World.{World}
use Rattle.mx_nodelaws.specs.Core.{Core}
use Rattle.mx_member.specs.declared.acts.Act.{Act}
use Rattle.mx_member.specs.declared.acts.Act.TheVariants as act
use Rattle.mx_member.specs.declared.parcel.Parcel.{Parcel}
use Rattle.mx_events.specs.declared.event.Event.{Event}
use Rattle.mx_events.specs.declared.event.Event.TheVariants as event
use Rattle.mx_network.specs.declared.faults.StepFault.{StepFault}
use Rattle.mx_network.specs.declared.faults.StepFault.TheVariants.{NoNode, NoParcel, Memory}
use Rattle.mx_network.specs.Kept.{IsKept}
use Rattle.mx_network.specs.Step.{ClusterState, acting, answer_of, delivery_of, grown, at_member, at_part, own_act, step_of, IsFaultOf, NamesNoNode, NamesNoParcel}
use Rattle.mx_network.proofs.EventParts.{err_no_ok}
use Rattle.mx_network.proofs.KeptSound.{kept_sound}

past_end : {X : Type 0} (xs : List X) (k : ℕ) → slice_get xs k ≡ None → length xs ≤ k
past_end xs k was = elim (slice_get_cases xs k).1 [ inl p ↦ absurd (none_is_no_some p.0 (sym was ∙ p.2)) | inr q ↦ q.0 ]

-- which of the three an event is
abbrev Class : {H S M : Type 0} → Core H S M → ClusterState S M → Event → Type 0
Class {H} {S} {M} core g e =
    (NamesNoNode g e × (NamesNoParcel g e → ⊥) × (step_of core g e ≡ Err NoNode))
    ⊎ (NamesNoParcel g e × (NamesNoNode g e → ⊥) × (step_of core g e ≡ Err NoParcel))
    ⊎ ((NamesNoNode g e → ⊥) × (NamesNoParcel g e → ⊥) × (new : ClusterState S M) × (step_of core g e ≡ Ok new))

same_Err : {A : Type 0} (f h : StepFault) → ◌≡◌ {A = Result A StepFault} (Err f) (Err h) → f ≡ h
same_Err f h e = cc

no_ok : (A : Type 0) (f : StepFault) → IsOk {T = A} {E = StepFault} (Err f) → ⊥
no_ok A f h = cc

memory_apart : ◌≡◌ {A = StepFault} NoNode Memory → ⊥
memory_apart e = cc

memory_apart_too : ◌≡◌ {A = StepFault} NoParcel Memory → ⊥
memory_apart_too e = cc

faults_apart : ◌≡◌ {A = StepFault} NoNode NoParcel → ⊥
faults_apart e = cc

module _ {H S M : Type 0} (core : Core H S M) (Good : World S M → Type 0) where
  -- an act of node i happens exactly where the node is there
  at_node : (g : ClusterState S M) (e : Event) (i : ℕ) (a : Act M) → ((length g.members ≤ i) × (at_member core g e i a (slice_get g.members i) ≡ Err NoNode)) ⊎ ((i < length g.members) × (new : ClusterState S M) × (at_member core g e i a (slice_get g.members i) ≡ Ok new))
  at_node g e i a = elim (slice_get_cases g.members i).1 [
    | inl p ↦ inr (p.1, grown g e i (answer_of core a p.0), ap (λ o. at_member core g e i a o) p.2)
    | inr q ↦ inl (q.0, ap (λ o. at_member core g e i a o) q.1)
  ]

  -- an event of node i alone
  of_one_node : (g : ClusterState S M) (e : Event) (i : ℕ) (a : Act M) → (NamesNoNode g e → length g.members ≤ i) → (length g.members ≤ i → NamesNoNode g e) → (NamesNoParcel g e → ⊥) → step_of core g e ≡ at_member core g e i a (slice_get g.members i) → Class core g e
  of_one_node g e i a out back none is = elim (at_node g e i a) [
    | inl q ↦ inl (back q.0, none, is ∙ q.1)
    | inr q ↦ inr (inr (λ names. absurd (omega (arith, out names, q.0)), none, q.1, is ∙ q.2))
  ]

  delivers : (g : ClusterState S M) (k : ℕ) → IsKept core Good g → (o : Option (ℕ × ℕ × Parcel M)) → slice_get g.sent k ≡ o → Class core g (event.Deliver k)
  delivers g k kept None was = inr (inl (past_end g.sent k was, λ none. none, ap (λ o. at_part core g (event.Deliver k) (delivery_of o)) was))
  delivers g k kept (Some p) was =
      let lt = ((kept_sound core Good g kept).between p.0 p.1 p.2 (in_get g.sent k p was)).1 in
      elim (at_node g (event.Deliver k) p.1 (act.Deliver p.0 p.2)) [
        | inl q ↦ absurd (omega (arith, q.0, lt))
        | inr q ↦ inr (inr (λ none. none, λ le. absurd (omega (arith, le, slice_get_within g.sent k p was)), q.1, ap (λ o. at_part core g (event.Deliver k) (delivery_of o)) was ∙ q.2))
      ]

  -- a want names two nodes
  wants : (g : ClusterState S M) (i j : ℕ) → Class core g (event.Want i j)
  wants g i j =
      let at : Bool → Result (ClusterState S M) StepFault = λ b. at_part core g (event.Want i j) (acting (act.Want j) (if b then Ok i else Err NoNode)) in
      let gone : length g.members ≤ j → Class core g (event.Want i j) =
      λ l. inl (inr l, (λ none. none), ap at (lt_not j (length g.members) l)) in
      elim (compared j (length g.members)) [
        | inl l ↦ elim (at_node g (event.Want i j) i (act.Want j)) [
          | inl q ↦ inl (inl q.0, (λ none. none), ap at (lt_is j (length g.members) l) ∙ q.1)
          | inr q ↦ inr (inr ((λ names. elim names [ inl a ↦ absurd (omega (arith, a, q.0)) | inr b ↦ absurd (omega (arith, b, l)) ]), (λ none. none), q.1, ap at (lt_is j (length g.members) l) ∙ q.2))
        ]
        | inr (inl e) ↦ gone (omega (arith, e))
        | inr (inr l) ↦ gone (omega (arith, l))
      ]

  class_of : (g : ClusterState S M) (e : Event) → IsKept core Good g → Class core g e
  class_of g (event.Want i j) kept = wants g i j
  class_of g (event.Deliver k) kept = delivers g k kept (slice_get g.sent k) refl
  class_of g e kept = of_one_node g e _ (own_act e) (λ h. h) (λ h. h) (λ none. none) refl

  -- where the step has this fault other than for memory, the answer is that fault, and only there
  tells : {A : Type 0} (g new : ClusterState S M) (e : Event) (fault : StepFault) (r : Result A StepFault) → step_of core g e ≡ Err fault → IfOk r (λ o. step_of core g e ≡ Ok new) → IfErr r (IsFaultOf (step_of core g e)) → r ≡ Err fault
  tells g new e fault (Ok o) is ok refusal = absurd (err_no_ok fault new (sym is ∙ ok))
  tells g new e fault (Err f) is ok (inl m) = absurd (no_ok (ClusterState S M) fault (subst (λ s. IsOk s) is m.1))
  tells g new e fault (Err f) is ok (inr q) = ap (λ x. Err x) (same_Err {A = ClusterState S M} f fault (sym q ∙ is))

  told : {A : Type 0} (g : ClusterState S M) (e : Event) (fault : StepFault) (r : Result A StepFault) → (fault ≡ Memory → ⊥) → r ≡ Err fault → IfErr r (IsFaultOf (step_of core g e)) → step_of core g e ≡ Err fault
  told g e fault r other is refusal = elim (subst (λ x. IfErr x (IsFaultOf (step_of core g e))) is refusal) [ inl m ↦ absurd (other m.0) | inr q ↦ q ]

  pub no_node : {A : Type 0} (g new : ClusterState S M) (e : Event) (r : Result A StepFault) → IsKept core Good g → IfOk r (λ o. step_of core g e ≡ Ok new) → IfErr r (IsFaultOf (step_of core g e)) → (r ≡ Err NoNode) ↔ NamesNoNode g e
  no_node g new e r kept ok refusal = (
    λ is. let step = told g e NoNode r memory_apart is refusal in elim (class_of g e kept) [
      | inl c ↦ c.0
      | inr d ↦ elim d [ inl c ↦ absurd (faults_apart (same_Err {A = ClusterState S M} NoNode NoParcel (sym step ∙ c.2))) | inr c ↦ absurd (err_no_ok NoNode c.2 (sym step ∙ c.3)) ]
    ],
    λ names. elim (class_of g e kept) [
      | inl c ↦ tells g new e NoNode r c.2 ok refusal
      | inr d ↦ elim d [ inl c ↦ absurd (c.1 names) | inr c ↦ absurd (c.0 names) ]
    ],
  )

  pub no_parcel : {A : Type 0} (g new : ClusterState S M) (e : Event) (r : Result A StepFault) → IsKept core Good g → IfOk r (λ o. step_of core g e ≡ Ok new) → IfErr r (IsFaultOf (step_of core g e)) → (r ≡ Err NoParcel) ↔ NamesNoParcel g e
  no_parcel g new e r kept ok refusal = (
    λ is. let step = told g e NoParcel r memory_apart_too is refusal in elim (class_of g e kept) [
      | inl c ↦ absurd (faults_apart (same_Err {A = ClusterState S M} NoNode NoParcel (sym c.2 ∙ step)))
      | inr d ↦ elim d [ inl c ↦ c.0 | inr c ↦ absurd (err_no_ok NoParcel c.2 (sym step ∙ c.3)) ]
    ],
    λ names. elim (class_of g e kept) [
      | inl c ↦ absurd (c.1 names)
      | inr d ↦ elim d [ inl c ↦ tells g new e NoParcel r c.2 ok refusal | inr c ↦ absurd (c.1 names) ]
    ],
  )
