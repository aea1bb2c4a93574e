-- The part of an event: what it tells, and that it may be done.
use Rattle.std.proofs.Common.{ℕ, ◌<◌, ◌≡◌, ◌∙◌, ap, sym, List, Option, Some, None, Result, Ok, Err, nat_lt, slice_get, length, refl, subst, if◌then◌else◌}
use Rattle.mx_stamps.proofs.Lists.{cond_case, in_get}
use Rattle.mx_journal.proofs.Choices.{lt_true}
use Rattle.mx_nodelaws.specs.Core.{Core}
use Rattle.mx_member.specs.declared.acts.Act.{Act}
use Rattle.mx_member.specs.declared.acts.Act.TheVariants as act
use Rattle.mx_member.specs.declared.parcel.Parcel.{Parcel}
use Rattle.mx_member.specs.Acts.{act_of, Arrives}
use Rattle.mx_member.specs.Member.{MemberState}
use Rattle.mx_member.specs.Told.{told}
use Rattle.mx_member.specs.Steps.{enter_of, read_of, write_of, leave_of}
use Rattle.mx_events.specs.declared.event.Event.{Event}
use Rattle.mx_events.specs.declared.event.Event.TheVariants as event
use Rattle.mx_network.specs.declared.faults.StepFault.{StepFault}
use Rattle.mx_network.specs.declared.faults.StepFault.TheVariants.{NoNode, NoParcel}
use Rattle.mx_network.specs.Step.{acting, answer_of, delivery_of, own_act, own_node, part_of, IsByItself}
use Rattle.mx_trace.specs.Trace.{mark_of}
use Rattle.mx_network.proofs.Marks.{entering, reading, writing, leaving}

pub same_Ok : {A E : Type 0} (x y : A) → ◌≡◌ {A = Result A E} (Ok x) (Ok y) → x ≡ y
same_Ok x y e = cc

pub err_no_ok : {A E : Type 0} (f : E) (x : A) → ◌≡◌ {A = Result A E} (Err f) (Ok x) → ⊥
err_no_ok f x e = cc

-- a want to another of so many nodes
pub wanted : {M : Type 0} (nodes i j : ℕ) (p : ℕ × Act M) → acting (act.Want j) (if nat_lt j nodes then Ok i else Err NoNode) ≡ Ok p → (j < nodes) × ((i, act.Want j) ≡ p)
wanted {M} nodes i j p is =
    cond_case (λ (r : Result ℕ StepFault). acting (act.Want j) r ≡ Ok p → (j < nodes) × ((i, act.Want j) ≡ p)) (nat_lt j nodes) (Ok i) (Err NoNode)
    (λ t e. (lt_true j nodes t, same_Ok (i, act.Want j) p e)) (λ _ e. absurd (err_no_ok NoNode p e)) is

-- what is delivered was sent to the node that takes it
delivered : {M : Type 0} (nodes k : ℕ) (sent : List (ℕ × ℕ × Parcel M)) (p : ℕ × Act M) (o : Option (ℕ × ℕ × Parcel M)) → slice_get sent k ≡ o → delivery_of o ≡ Ok p → Arrives nodes sent p.0 p.1
delivered nodes k sent p None was is = absurd (err_no_ok NoParcel p is)
delivered {M} nodes k sent p (Some q) was is =
    subst (λ (x : ℕ × Act M). Arrives nodes sent x.0 x.1) (same_Ok (q.1, act.Deliver q.0 q.2) p is) (in_get sent k q was)

-- the part of what a node does by itself
module _ {M : Type 0} (nodes : ℕ) (sent : List (ℕ × ℕ × Parcel M)) where
  own : (e : Event) → IsByItself e → part_of nodes sent e ≡ acting (own_act e) (own_node nodes e)
  own (event.Deliver k) is = absurd is
  own _ is = refl

  pub own_part : (e : Event) (i : ℕ) → IsByItself e → Ok i ≡ own_node nodes e → part_of nodes sent e ≡ Ok (i, own_act e)
  own_part e i is of = own e is ∙ ap (λ r. acting (own_act e) r) (sym of)

  pub own_fault : (e : Event) (fault : StepFault) → IsByItself e → Err fault ≡ own_node nodes e → part_of nodes sent e ≡ Err fault
  own_fault e fault is of = own e is ∙ ap (λ r. acting (own_act e) r) (sym of)

pub no_delivery : (e : Event) → ((k : ℕ) → e ≡ event.Deliver k → ⊥) → IsByItself e
no_delivery (event.Deliver k) never = never k refl
no_delivery _ never = tt

-- whatever an event's part is, it may be done
pub arrives : {M : Type 0} (nodes : ℕ) (sent : List (ℕ × ℕ × Parcel M)) (e : Event) (p : ℕ × Act M) → part_of nodes sent e ≡ Ok p → Arrives nodes sent p.0 p.1
arrives {M} nodes sent (event.Want i j) p is = let w = wanted nodes i j p is in subst (λ (x : ℕ × Act M). Arrives nodes sent x.0 x.1) w.1 w.0
arrives nodes sent (event.Deliver k) p is = delivered nodes k sent p (slice_get sent k) refl is
arrives {M} nodes sent _ p is = subst (λ (x : ℕ × Act M). Arrives nodes sent x.0 x.1) (same_Ok _ p is) tt

module _ {H S M : Type 0} (core : Core H S M) (m : MemberState S) where
  -- the item of an event tells what the act's answer tells
  abbrev Tells : Event → ℕ × Act M → Type 0
  Tells e p = mark_of e (answer_of core p.1 m).answer ≡ told p.0 p.1 (act_of core p.1 m).answer

  delivery_tells : (k : ℕ) (p : ℕ × Act M) (o : Option (ℕ × ℕ × Parcel M)) → delivery_of o ≡ Ok p → Tells (event.Deliver k) p
  delivery_tells k p None is = absurd (err_no_ok NoParcel p is)
  delivery_tells k p (Some q) is = subst (Tells (event.Deliver k)) (same_Ok (q.1, act.Deliver q.0 q.2) p is) refl

  pub tells : (nodes : ℕ) (sent : List (ℕ × ℕ × Parcel M)) (e : Event) (p : ℕ × Act M) → part_of nodes sent e ≡ Ok p → Tells e p
  tells nodes sent (event.Enter i) p is = subst (Tells (event.Enter i)) (same_Ok (i, act.Enter) p is) (entering M i (length (act_of core act.Enter m).letters) (enter_of core m).answer)
  tells nodes sent (event.Read i register) p is =
      subst (Tells (event.Read i register)) (same_Ok (i, act.Read register) p is) (reading M i (length (act_of core (act.Read register) m).letters) register (read_of core register m).answer)
  tells nodes sent (event.Write i register value) p is =
      subst (Tells (event.Write i register value)) (same_Ok (i, act.Write register value) p is) (writing M i (length (act_of core (act.Write register value) m).letters) register value (write_of core register value m).answer)
  tells nodes sent (event.Leave i) p is = subst (Tells (event.Leave i)) (same_Ok (i, act.Leave) p is) (leaving M i (length (act_of core act.Leave m).letters) (leave_of core m).answer)
  tells nodes sent (event.Want i j) p is = subst (Tells (event.Want i j)) (wanted nodes i j p is).1 refl
  tells nodes sent (event.Deliver k) p is = delivery_tells k p (slice_get sent k) is
  tells nodes sent e p is = subst (Tells e) (same_Ok _ p is) refl
