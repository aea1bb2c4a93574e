-- What an outcome tells: a refused event changes no member and sends nothing; what has a receipt is an exit.
use Rattle.std.proofs.Common.{ℕ, ◌≡◌, ◌<◌, List, [], ◌∷◌, ◌++◌, Option, Some, None, Result, Ok, Err, IfOk, length, slice_get, slice_set, inl, inr, refl, sym, ◌∙◌, ap, subst}
use Rattle.std.proofs.lemmas.Option.{slice_get_within}
use Rattle.mx_stamps.specs.Lists.{IsIn}
use Rattle.mx_stamps.proofs.Lists.{append_nil, in_append, set_itself}
use Rattle.mx_nodelaws.specs.World.{World, sent_by}
use Rattle.mx_nodelaws.specs.Core.{Core, KeepsPhases}
use Rattle.mx_nodelaws.specs.declared.faults.AskFault.TheVariants as ask
use Rattle.mx_nodelaws.specs.declared.faults.CancelFault.TheVariants as cancel
use Rattle.mx_nodelaws.specs.declared.faults.EnterFault.TheVariants as enter
use Rattle.mx_journal.specs.declared.receipts.Receipt.{Receipt}
use Rattle.mx_journal.specs.declared.settlement.SettleFault.TheVariants as settle
use Rattle.mx_member.specs.declared.acts.Act.{Act}
use Rattle.mx_member.specs.declared.acts.Act.TheVariants as act
use Rattle.mx_member.specs.declared.acts.Answer.{Answer}
use Rattle.mx_member.specs.declared.acts.Answer.TheVariants as answer
use Rattle.mx_member.specs.Acts.{IsRefusal, act_of}
use Rattle.mx_member.specs.Member.{MemberState}
use Rattle.mx_member.specs.declared.faults.ReadFault.{ReadFault}
use Rattle.mx_member.specs.declared.faults.ReadFault.TheVariants as read
use Rattle.mx_member.specs.declared.faults.WriteFault.TheVariants as write
use Rattle.mx_member.specs.declared.parcel.Parcel.{Parcel}
use Rattle.mx_member.specs.Steps.{read_of}
use Rattle.mx_member.proofs.Consequences.{read_unsettled}
use Rattle.mx_member.proofs.Refused.{refused_stays}
use Rattle.mx_events.specs.declared.event.Event.{Event}
use Rattle.mx_events.specs.declared.event.Event.TheVariants as event
use Rattle.mx_trace.specs.declared.cause.Cause.{Cause}
use Rattle.mx_trace.specs.declared.cause.Cause.TheVariants as cause
use Rattle.mx_trace.specs.declared.outcome.Entry.{Entry}
use Rattle.mx_trace.specs.declared.outcome.Outcome.{Outcome}
use Rattle.mx_trace.specs.declared.outcome.Outcome.TheVariants.{Left, Refused}
use Rattle.mx_network.specs.declared.faults.StepFault.{StepFault}
use Rattle.mx_network.specs.declared.faults.StepFault.TheVariants.{NoParcel}
use Rattle.mx_network.specs.Kept.{IsKept}
use Rattle.mx_network.specs.Outcome.{outcome_of}
use Rattle.mx_trace.specs.Trace.{sections}
use Rattle.mx_network.specs.Step.{AreUnsettled, ClusterState, IsSettledRead, IsUnchanged, answer_of, delivery_of, part_of, step_of}
use Rattle.mx_network.proofs.EventParts.{err_no_ok, same_Ok, wanted}
use Rattle.mx_network.proofs.Happening.{done_by, outcome_is}
use Rattle.mx_network.proofs.KeptSound.{kept_sound}

-- an answer whose outcome is refused is a refusal
refusal : (a : Answer) (k : ℕ) (cause : Cause) → outcome_of a k ≡ Refused cause → IsRefusal a
refusal (answer.Asked (Err fault)) k cause e = tt
refusal (answer.Entered (Err fault)) k cause e = tt
refusal (answer.Read (Err fault)) k cause e = tt
refusal (answer.Written (Err fault)) k cause e = tt
refusal (answer.Left (Err fault)) k cause e = tt
refusal (answer.Cancelled (Err fault)) k cause e = tt
refusal (answer.Settled (Err fault)) k cause e = tt
refusal _ k cause e = cc

-- a read whose outcome says that its section is settled was refused for that
settled_told : (r : Result ℕ ReadFault) (k n : ℕ) → outcome_of (answer.Read r) k ≡ Refused (cause.Below n) → r ≡ Err (read.Settled n)
settled_told (Ok value) k n e = let bad : ⊥ = cc in absurd bad
settled_told (Err read.NotInside) k n e = let bad : ⊥ = cc in absurd bad
settled_told (Err read.NoRegister) k n e = let bad : ⊥ = cc in absurd bad
settled_told (Err (read.Gap m)) k n e = let bad : ⊥ = cc in absurd bad
settled_told (Err read.Full) k n e = let bad : ⊥ = cc in absurd bad
settled_told (Err (read.Settled m)) k n e = ap (λ i. Err (read.Settled i)) (let q : m ≡ n = cc in q)

module _ {H S M : Type 0} (core : Core H S M) (Good : World S M → Type 0) (g new : ClusterState S M) (kept : IsKept core Good g) where
  -- but no read is
  stands : (e : Event) (why : Cause) → IsSettledRead e why → step_of core g e ≡ Ok new → new.trace ≡ g.trace ++ (record { event = e; outcome = Refused why }) ∷ [] → ⊥
  stands (event.Read i register) (cause.Below n) h step told =
      let d = done_by core g (event.Read i register) new step in
      let part = same_Ok (i, act.Read register) d.part d.is_part in
      let is = ap (λ (p : ℕ × Act M). (answer_of core p.1 d.member).answer) part ∙ outcome_is core g (event.Read i register) new d (Refused (cause.Below n)) told in
      read_unsettled core Good (sections g.trace) g.members g.sent (kept_sound core Good g kept) i register n d.member (ap (λ (p : ℕ × Act M). slice_get g.members p.0) part ∙ d.here)
      (settled_told (read_of core register d.member).answer (length (act_of core (act.Read register) d.member).letters) n is)
  stands _ _ h step told = absurd h

  -- and the trace with it tells of no such read
  pub noted_unsettled : (e : Event) (o : Outcome) → step_of core g e ≡ Ok new → new.trace ≡ g.trace ++ (record { event = e; outcome = o }) ∷ [] → AreUnsettled new.trace
  noted_unsettled e o step told entry why h is settled =
      elim (in_append entry g.trace ((record { event = e; outcome = o }) ∷ []) (subst (λ (t : List Entry). IsIn entry t) told h)) [
        | inl before ↦ kept.unsettled entry why before is settled
        | inr (inl same) ↦
            let refused : o ≡ Refused why = ap (λ (x : Entry). x.outcome) (sym same) ∙ is in
            stands e why (subst (λ (x : Entry). IsSettledRead x.event why) same settled) step
            (subst (λ (x : Outcome). new.trace ≡ g.trace ++ (record { event = e; outcome = x }) ∷ []) refused told)
        | inr (inr bad) ↦ absurd bad
      ]

  pub never_settled : (e : Event) (r : Result Outcome StepFault) → IfOk r (λ o. step_of core g e ≡ Ok new) → IfOk r (λ o. new.trace ≡ g.trace ++ (record { event = e; outcome = o }) ∷ []) →
      (cause : Cause) → r ≡ Ok (Refused cause) → IsSettledRead e cause → ⊥
  never_settled e r ok told cause is h =
      stands e cause h (subst (λ x. IfOk x (λ o. step_of core g e ≡ Ok new)) is ok)
      (subst (λ x. IfOk x (λ o. new.trace ≡ g.trace ++ (record { event = e; outcome = o }) ∷ [])) is told)

-- an answer whose outcome has a receipt is that of leaving
abbrev IsLeft : Answer → Type 0
IsLeft (answer.Left r) = Unit {0}
IsLeft _ = ⊥

left_answer : (a : Answer) (k : ℕ) (receipt : Receipt) → outcome_of a k ≡ Left receipt → IsLeft a
left_answer (answer.Left r) k receipt e = tt
left_answer (answer.Asked (Err ask.NotIdle)) k receipt e = cc
left_answer (answer.Entered (Err enter.NotWaiting)) k receipt e = cc
left_answer (answer.Read (Err read.NotInside)) k receipt e = cc
left_answer (answer.Written (Err write.NotInside)) k receipt e = cc
left_answer (answer.Cancelled (Err cancel.NotWaiting)) k receipt e = cc
left_answer (answer.Settled (Err (settle.Gap n))) k receipt e = cc
left_answer _ k receipt e = cc

module _ {H S M : Type 0} (core : Core H S M) (g new : ClusterState S M) (receipt : Receipt) where
  abbrev IsTold : Event → Type 0
  IsTold e = new.trace ≡ g.trace ++ (record { event = e; outcome = Left receipt }) ∷ []

  -- the event is an exit of a node that is there
  abbrev pub IsExit : Event → Type 0
  IsExit e = (i : ℕ) × (e ≡ event.Leave i) × (i < length g.members)

  is_leave : (a : Act M) (m : MemberState S) → IsLeft (act_of core a m).answer → a ≡ act.Leave
  is_leave act.Leave m left = refl
  is_leave _ m left = absurd left

  takes_on : (o : Option (ℕ × ℕ × Parcel M)) (i : ℕ) → delivery_of o ≡ Ok (i, act.Leave) → ⊥
  takes_on None i is = err_no_ok NoParcel (i, act.Leave) is
  takes_on (Some p) i is = let other = ap (λ (q : ℕ × Act M). q.1) (same_Ok (p.1, act.Deliver p.0 p.2) (i, act.Leave) is) in cc

  leaves : (e : Event) (i : ℕ) → part_of (length g.members) g.sent e ≡ Ok (i, act.Leave) → e ≡ event.Leave i
  leaves (event.Leave j) i is = ap (λ (p : ℕ × Act M). event.Leave p.0) (same_Ok (j, act.Leave) (i, act.Leave) is)
  leaves (event.Want j k) i is = let other = ap (λ (p : ℕ × Act M). p.1) (wanted (length g.members) j k (i, act.Leave) is).1 in absurd (let bad : ⊥ = cc in bad)
  leaves (event.Deliver k) i is = absurd (takes_on (slice_get g.sent k) i is)
  leaves _ i is = let other = ap (λ (p : ℕ × Act M). p.1) (same_Ok _ (i, act.Leave) is) in absurd (let bad : ⊥ = cc in bad)

  pub exits : (e : Event) → step_of core g e ≡ Ok new → IsTold e → IsExit e
  exits e step told =
      let d = done_by core g e new step in
      let done = act_of core d.part.1 d.member in
      let left = is_leave d.part.1 d.member (left_answer done.answer (length done.letters) receipt (outcome_is core g e new d (Left receipt) told)) in
      (d.part.0, leaves e d.part.0 (d.is_part ∙ ap (λ a. Ok (d.part.0, a)) left), slice_get_within g.members d.part.0 d.member d.here)

module _ {H S M : Type 0} (core : Core H S M) (phases : KeepsPhases core) where
  pub refused_unchanged : (g new : ClusterState S M) (e : Event) (r : Result Outcome StepFault) → IfOk r (λ o. step_of core g e ≡ Ok new) → IfOk r (λ o. new.trace ≡ g.trace ++ (record { event = e; outcome = o }) ∷ []) →
      (cause : Cause) → r ≡ Ok (Refused cause) → IsUnchanged g new
  refused_unchanged g new e r ok told cause is =
      let d = done_by core g e new (subst (λ x. IfOk x (λ o. step_of core g e ≡ Ok new)) is ok) in
      let done = act_of core d.part.1 d.member in
      let refused = outcome_is core g e new d (Refused cause) (subst (λ x. IfOk x (λ o. new.trace ≡ g.trace ++ (record { event = e; outcome = o }) ∷ [])) is told) in
      let same = refused_stays core phases d.member d.part.1 (refusal done.answer (length done.letters) cause refused) in
      subst (λ x. IsUnchanged g x) d.after (record {
        members = ap (λ s. slice_set g.members d.part.0 s) same.0 ∙ set_itself g.members d.part.0 d.member d.here;
        sent = ap (λ letters. g.sent ++ sent_by d.part.0 letters) same.1 ∙ append_nil g.sent;
      })
