-- A refused act changes nothing in its member, and sends nothing.
use Rattle.std.proofs.Common.{[], ℕ, ◌≡◌, Result, Ok, Err, refl, ◌∙◌, ap}
use Rattle.mx_stamps.specs.declared.stamp.Stamp.{Stamp}
use Rattle.mx_nodelaws.specs.World.{Done}
use Rattle.mx_nodelaws.specs.Core.{Core, KeepsPhases}
use Rattle.mx_nodelaws.specs.declared.faults.AskFault.{AskFault}
use Rattle.mx_nodelaws.specs.declared.faults.CancelFault.{CancelFault}
use Rattle.mx_nodelaws.specs.declared.faults.EnterFault.{EnterFault}
use Rattle.mx_member.specs.declared.acts.Act.{Act}
use Rattle.mx_member.specs.declared.acts.Act.TheVariants as act
use Rattle.mx_member.specs.declared.acts.Answer.TheVariants as answer
use Rattle.mx_member.specs.declared.parcel.Parcel.{Parcel}
use Rattle.mx_member.specs.Acts.{IsRefusal, act_of}
use Rattle.mx_member.specs.Member.{MemberState, guarded, with_core}
use Rattle.mx_member.specs.Steps.{ask_of, cancel_of, enter_of, entered}
use Rattle.mx_member.proofs.Cases.{leaves, reads, settles, writes}

module _ {H S M : Type 0} (core : Core H S M) (phases : KeepsPhases core) (m : MemberState S) where
  abbrev Stays : {A : Type 0} → Done (MemberState S) A (Parcel M) → Type 0
  Stays done = (done.state ≡ m) × (done.letters ≡ [])

  asked : (r : Result Stamp AskFault) → (core.ask m.core).answer ≡ r → IsRefusal (answer.Asked r) → Stays (ask_of core m)
  asked (Ok stamp) was refusal = absurd refusal
  asked (Err f) was refusal = let same = phases.ask_err m.core f was in (ap (λ s. with_core s m) same.0, ap guarded same.1)

  cancelled : (r : Result (Unit {0}) CancelFault) → (core.cancel m.core).answer ≡ r → IsRefusal (answer.Cancelled r) → Stays (cancel_of core m)
  cancelled (Ok done) was refusal = absurd refusal
  cancelled (Err f) was refusal = let same = phases.cancel_err m.core f was in (ap (λ s. with_core s m) same.0, ap guarded same.1)

  came : (r : Result ℕ EnterFault) → (core.enter m.core).answer ≡ r → IsRefusal (answer.Entered r) → (enter_of core m).state ≡ m
  came (Ok n) was refusal = absurd refusal
  came (Err f) was refusal =
      ap (λ r. entered r (with_core (core.enter m.core).state m)) was ∙ ap (λ s. with_core s m) (phases.enter_err m.core f was)

  -- of any act
  pub refused_stays : (a : Act M) → IsRefusal (act_of core a m).answer → Stays (act_of core a m)
  refused_stays act.Ask refusal = asked (core.ask m.core).answer refl refusal
  refused_stays act.Enter refusal = (came (core.enter m.core).answer refl refusal, refl)
  refused_stays (act.Read register) refusal = (reads core m register (core.phase m.core) (λ q. IsRefusal (answer.Read q.answer) → q.state ≡ m) (λ fault _ _. refl) (λ n is there all bad. absurd bad) refusal, refl)
  refused_stays (act.Write register value) refusal = (writes core m register value (core.phase m.core) (λ q. IsRefusal (answer.Written q.answer) → q.state ≡ m) (λ fault _. refl) (λ n is bad. absurd bad) refusal, refl)
  refused_stays act.Leave refusal = leaves core m (core.phase m.core) (λ q. IsRefusal (answer.Left q.answer) → Stays q) (λ _. (refl, refl)) (λ n is bad. absurd bad) refusal
  refused_stays act.Cancel refusal = cancelled (core.cancel m.core).answer refl refusal
  refused_stays (act.Settle k) refusal = (settles core m k (λ q. IsRefusal (answer.Settled q.answer) → q.state ≡ m) (λ fault _. refl) (λ low past bad. absurd bad) refusal, refl)
  refused_stays _ refusal = absurd refusal
