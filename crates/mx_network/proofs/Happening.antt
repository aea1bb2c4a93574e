-- One event over the parts of a cluster, by whether its node is there.
use Rattle.std.proofs.Common.{ℕ, Option, zero, suc, ◌<◌, ◌≤◌, ◌≡◌, inl, inr, List, [], ◌∷◌, ◌++◌, Some, None, Result, Ok, Err, IsErrAnd, IsOk, get_or, slice_get, slice_set, length, refl, sym, ◌∙◌, ap, subst, arith}
use Rattle.std.proofs.lemmas.Option.{slice_get_cases}
use Rattle.mx_stamps.specs.Lists.{each_below}
use Rattle.mx_stamps.proofs.Lists.{set_itself}
use Rattle.mx_nodelaws.specs.World.{sent_by}
use Rattle.mx_nodelaws.specs.Core.{Core}
use Rattle.mx_member.specs.declared.acts.Act.{Act}
use Rattle.mx_member.specs.declared.acts.Act.TheVariants as act
use Rattle.mx_member.specs.declared.parcel.Parcel.{Parcel}
use Rattle.mx_member.specs.Member.{MemberState}
use Rattle.mx_events.specs.declared.event.Event.{Event}
use Rattle.mx_events.specs.declared.event.Event.TheVariants as event
use Rattle.mx_trace.specs.declared.outcome.Outcome.{Outcome}
use Rattle.mx_trace.specs.declared.outcome.Entry.{Entry}
use Rattle.mx_network.specs.declared.faults.StepFault.{StepFault}
use Rattle.mx_network.specs.declared.faults.StepFault.TheVariants.{NoNode, NoParcel, Memory}
use Rattle.mx_network.proofs.EventParts.{err_no_ok, same_Ok}
use Rattle.mx_network.specs.Step.{ClusterState, answer_of, at_member, at_part, delivery_of, grown, part_of, step_of, IsFaultOf, IsStep, NotesAct}

-- a place below the length holds something
pub held : {X : Type 0} (xs : List X) (k : ℕ) → k < length xs → (x : X) × (slice_get xs k ≡ Some x)
held xs k l = elim (slice_get_cases xs k).1 [ inl p ↦ (p.0, p.2) | inr q ↦ absurd (omega (arith, q.0, l)) ]

pub past : {X : Type 0} (xs : List X) (k : ℕ) → length xs ≤ k → slice_get xs k ≡ None
past xs k l = elim (slice_get_cases xs k).1 [ inl p ↦ absurd (omega (arith, p.1, l)) | inr q ↦ q.1 ]

-- what stands at a place below the length
pub at_place : {X : Type 0} (xs : List X) (k : ℕ) (x : X) → k < length xs → x ≡ get_or xs k x → slice_get xs k ≡ Some x
at_place [] k x l e = absurd (omega (arith, l))
at_place (y ∷ ys) zero x l e = ap Some (sym e)
at_place (y ∷ ys) (suc k) x l e = at_place ys k x (omega (arith, l)) e

-- one element more of those below a number
pub one_more : {X : Type 0} (xs new : List X) (f : ℕ → X) (i j : ℕ) (x : X) → xs ≡ each_below f i → new ≡ xs ++ x ∷ [] → x ≡ f i → j ≡ suc i → new ≡ each_below f j
one_more xs new f i j x was is e next =
    is ∙ ap (λ l. l ++ x ∷ []) was ∙ ap (λ y. each_below f i ++ y ∷ []) e ∙ ap (λ n. each_below f n) (sym next)

-- a cluster of equal lists
pub same_parts : {S M : Type 0} (members members' : List (MemberState S)) (sent sent' : List (ℕ × ℕ × Parcel M)) (trace trace' : List Entry) → members' ≡ members → sent' ≡ sent → trace' ≡ trace →
    ◌≡◌ {A = ClusterState S M} (record { members = members'; sent = sent'; trace = trace' }) (record { members = members; sent = sent; trace = trace })
same_parts members members' sent sent' trace trace' a b c = rw (a, b, c) refl

-- a member that did not change, in its place
pub unchanged : {S M : Type 0} (members : List (MemberState S)) (sent sent' : List (ℕ × ℕ × Parcel M)) (trace trace' : List Entry) (k : ℕ) (m m' : MemberState S) → slice_get members k ≡ Some m → m' ≡ m → sent' ≡ sent → trace' ≡ trace →
    ◌≡◌ {A = ClusterState S M} (record { members = slice_set members k m'; sent = sent'; trace = trace' }) (record { members = members; sent = sent; trace = trace })
unchanged {S} {M} members sent sent' trace trace' k m m' at a b c =
    ap (λ (l : List (MemberState S)). let x : ClusterState S M = record { members = l; sent = sent'; trace = trace' } in x) (ap (λ y. slice_set members k y) a ∙ set_itself members k m at)
    ∙ ap (λ (l : List (ℕ × ℕ × Parcel M)). let x : ClusterState S M = record { members = members; sent = l; trace = trace' } in x) b
    ∙ ap (λ (l : List Entry). let x : ClusterState S M = record { members = members; sent = sent; trace = l } in x) c

module _ {H S M : Type 0} (core : Core H S M) (g new : ClusterState S M) (e : Event) where
  -- it happened
  pub has_happened : step_of core g e ≡ Ok new → IsStep core e g new (Ok tt)
  has_happened step = record { ok = step; fault = tt; err = tt }

  -- it has not, for this fault
  pub has_fault : (fault : StepFault) → IsFaultOf (step_of core g e) fault → new ≡ g → IsStep core e g new (Err fault)
  has_fault fault is same = record { ok = tt; fault = is; err = same }

  pub has_that_fault : (fault : StepFault) (r : Result (Unit {0}) StepFault) → IsErrAnd r (λ f. f ≡ fault) → IsFaultOf (step_of core g e) fault → new ≡ g → IsStep core e g new r
  has_that_fault fault (Ok a) told is same = absurd told
  has_that_fault fault (Err f) told is same = has_fault f (subst (λ x. IsFaultOf (step_of core g e) x) (sym told) is) same

module _ {H S M : Type 0} (core : Core H S M) (g : ClusterState S M) (e : Event) (p : ℕ × Act M) (part : part_of (length g.members) g.sent e ≡ Ok p) where
  -- its node isn't there
  pub gone : length g.members ≤ p.0 → IsFaultOf (step_of core g e) NoNode
  gone l = inr (ap (λ r. at_part core g e r) part ∙ ap (λ o. at_member core g e p.0 p.1 o) (past g.members p.0 l))

  -- its node is there, and acts
  pub happens : (m : MemberState S) → slice_get g.members p.0 ≡ Some m → step_of core g e ≡ Ok (grown g e p.0 (answer_of core p.1 m))
  happens m at = ap (λ r. at_part core g e r) part ∙ ap (λ o. at_member core g e p.0 p.1 o) at

  -- so that it can fail only because memory runs out
  pub memory_alone : p.0 < length g.members → IsFaultOf (step_of core g e) Memory
  memory_alone l =
      let h = held g.members p.0 l in
      inl (refl, subst (λ (r : Result (ClusterState S M) StepFault). IsOk r) (sym (happens h.0 h.1)) refl)

  -- the parts of the cluster after it
  pub grown_parts : (m new : MemberState S) (o : Outcome) (sent : List (ℕ × ℕ × Parcel M)) (trace : List Entry) → slice_get g.members p.0 ≡ Some m →
      new ≡ (answer_of core p.1 m).state → o ≡ (answer_of core p.1 m).answer → sent ≡ g.sent ++ sent_by p.0 (answer_of core p.1 m).letters → trace ≡ g.trace ++ record { event = e; outcome = o } ∷ [] →
      step_of core g e ≡ Ok (record { members = slice_set g.members p.0 new; sent = sent; trace = trace })
  grown_parts m new o sent trace at a b c d =
      happens m at
      ∙ ap (λ s. let x : ClusterState S M = record { members = slice_set g.members p.0 s; sent = g.sent ++ sent_by p.0 (answer_of core p.1 m).letters; trace = g.trace ++ record { event = e; outcome = (answer_of core p.1 m).answer } ∷ [] } in Ok x) (sym a)
      ∙ ap (λ l. let x : ClusterState S M = record { members = slice_set g.members p.0 new; sent = l; trace = g.trace ++ record { event = e; outcome = (answer_of core p.1 m).answer } ∷ [] } in Ok x) (sym c)
      ∙ ap (λ q. let x : ClusterState S M = record { members = slice_set g.members p.0 new; sent = sent; trace = g.trace ++ record { event = e; outcome = q } ∷ [] } in Ok x) (sym b)
      ∙ ap (λ t. let x : ClusterState S M = record { members = slice_set g.members p.0 new; sent = sent; trace = t } in Ok x) (sym d)

-- what has happened: a member that is there did the part of the event
pub record IsDoneBy {H S M : Type 0} (core : Core H S M) (g : ClusterState S M) (e : Event) (new : ClusterState S M) : Type 0 where
  pub part : ℕ × Act M
  pub member : MemberState S
  pub is_part : part_of (length g.members) g.sent e ≡ Ok part
  pub here : slice_get g.members part.0 ≡ Some member
  pub after : grown g e part.0 (answer_of core part.1 member) ≡ new

-- the items that make two lists longer are the same
pub last_same : {X : Type 0} (xs : List X) (x y : X) → xs ++ x ∷ [] ≡ xs ++ y ∷ [] → x ≡ y
last_same [] x y e = cc
last_same (z ∷ zs) x y e = last_same zs x y (let tail : zs ++ x ∷ [] ≡ zs ++ y ∷ [] = cc in tail)

module _ {H S M : Type 0} (core : Core H S M) (g : ClusterState S M) (e : Event) (new : ClusterState S M) where
  done_at_member : (p : ℕ × Act M) → part_of (length g.members) g.sent e ≡ Ok p → (o : Option (MemberState S)) → slice_get g.members p.0 ≡ o → at_member core g e p.0 p.1 o ≡ Ok new → IsDoneBy core g e new
  done_at_member p part None at step = absurd (err_no_ok NoNode new step)
  done_at_member p part (Some m) at step = record { part = p; member = m; is_part = part; here = at; after = same_Ok (grown g e p.0 (answer_of core p.1 m)) new step }

  done_at_part : (r : Result (ℕ × Act M) StepFault) → part_of (length g.members) g.sent e ≡ r → at_part core g e r ≡ Ok new → IsDoneBy core g e new
  done_at_part (Err fault) part step = absurd (err_no_ok fault new step)
  done_at_part (Ok p) part step = done_at_member p part (slice_get g.members p.0) refl step

  pub done_by : step_of core g e ≡ Ok new → IsDoneBy core g e new
  done_by step = done_at_part (part_of (length g.members) g.sent e) refl step

  -- an event that has happened joins the trace
  pub noted : step_of core g e ≡ Ok new → (o : Outcome) × (new.trace ≡ g.trace ++ record { event = e; outcome = o } ∷ [])
  noted step = let d = done_by step in ((answer_of core d.part.1 d.member).answer, ap (λ (x : ClusterState S M). x.trace) (sym d.after))

  -- with the outcome of the act
  pub outcome_is : (d : IsDoneBy core g e new) (o : Outcome) → new.trace ≡ g.trace ++ record { event = e; outcome = o } ∷ [] → (answer_of core d.part.1 d.member).answer ≡ o
  outcome_is d o told =
      let item : Outcome → Entry = λ x. record { event = e; outcome = x } in
      ap (λ (x : Entry). x.outcome) (last_same g.trace (item (answer_of core d.part.1 d.member).answer) (item o) (ap (λ (x : ClusterState S M). x.trace) d.after ∙ told))

-- a node has done its act, its parcels were sent, and the event is noted
module _ {H S M : Type 0} (core : Core H S M) (g : ClusterState S M) (e : Event) (a : Act M) (m new : MemberState S) (out : List (ℕ × Parcel M)) (sent0 sent : List (ℕ × ℕ × Parcel M)) (trace0 trace : List Entry) where
  done_at : (i : ℕ) → part_of (length g.members) g.sent e ≡ Ok (i, a) → slice_get g.members i ≡ Some m → sent0 ≡ g.sent → trace0 ≡ g.trace → sent ≡ sent0 ++ sent_by i out → NotesAct core e a m trace0 new out trace →
      step_of core g e ≡ Ok (record { members = slice_set g.members i new; sent = sent; trace = trace })
  done_at i part at same_sent same_trace more does =
      grown_parts core g e (i, a) part m new (answer_of core a m).answer sent trace at does.state refl
      (more ∙ ap (λ l. l ++ sent_by i out) same_sent ∙ ap (λ l. g.sent ++ sent_by i l) does.letters)
      (does.noted ∙ ap (λ t. t ++ (record { event = e; outcome = (answer_of core a m).answer }) ∷ []) same_trace)

  pub done : (i j : ℕ) → i ≡ j → part_of (length g.members) g.sent e ≡ Ok (j, a) → slice_get g.members i ≡ Some m → sent0 ≡ g.sent → trace0 ≡ g.trace → sent ≡ sent0 ++ sent_by j out → NotesAct core e a m trace0 new out trace →
      step_of core g e ≡ Ok (record { members = slice_set g.members i new; sent = sent; trace = trace })
  done i j same part at same_sent same_trace more does =
      done_at i (part ∙ ap (λ (k : ℕ). let p : Result (ℕ × Act M) StepFault = Ok (k, a) in p) (sym same)) at same_sent same_trace (more ∙ ap (λ k. sent0 ++ sent_by k out) (sym same)) does

-- the part of a delivery
pub delivery_part : {M : Type 0} (nodes : ℕ) (sent0 sent : List (ℕ × ℕ × Parcel M)) (k from to : ℕ) (parcel : Parcel M) → sent0 ≡ sent → slice_get sent0 k ≡ Some (from, to, parcel) → part_of nodes sent (event.Deliver k) ≡ Ok (to, act.Deliver from parcel)
delivery_part {M} nodes sent0 sent k from to parcel same was = ap delivery_of (ap (λ (l : List (ℕ × ℕ × Parcel M)). slice_get l k) (sym same) ∙ was)

pub no_part : {M : Type 0} (nodes : ℕ) (sent0 sent : List (ℕ × ℕ × Parcel M)) (k : ℕ) → sent0 ≡ sent → slice_get sent0 k ≡ None → part_of nodes sent (event.Deliver k) ≡ Err NoParcel
no_part {M} nodes sent0 sent k same was = ap delivery_of (ap (λ (l : List (ℕ × ℕ × Parcel M)). slice_get l k) (sym same) ∙ was)

-- an event that has no part
pub without : {H S M : Type 0} (core : Core H S M) (g : ClusterState S M) (e : Event) (fault : StepFault) → part_of (length g.members) g.sent e ≡ Err fault → IsFaultOf (step_of core g e) fault
without core g e fault part = inr (ap (λ r. at_part core g e r) part)
