-- Plain acts of a station, and what is so of what they return.
use Rattle.std.proofs.Common.{◌≡◌, ℕ, [], Option, Result, Ok, Err, OnErr, OnOk, refl, subst}
use Rattle.mx_nodelaws.specs.Core.{Core}
use Rattle.mx_member.specs.declared.acts.Act.{Act}
use Rattle.mx_member.specs.declared.acts.Act.TheVariants as act
use Rattle.mx_member.specs.declared.acts.Answer.{Answer}
use Rattle.mx_member.specs.declared.acts.Answer.TheVariants as answer
use Rattle.mx_member.specs.declared.parcel.Parcel.{Parcel}
use Rattle.mx_member.specs.Acts.{IsDoable, IsRefusal, NeedsMemory, act_of}
use Rattle.mx_member.specs.Member.{MemberState}
use Rattle.mx_member.specs.Receipts.{closed_by}
use Rattle.mx_stations.specs.Posts.{OnDone, OnRefusal}
use Rattle.mx_stations.specs.Running.{IsPlain, MayDo}

-- whatever is in hand, a plain act may be done, and the member can do it; it closes no section, and takes no memory
pub plain_so : {H S M : Type 0} (core : Core H S M) (n : ℕ) (hand : Option (ℕ × Parcel M)) (m : MemberState S) (a : Act M) → IsPlain n a
    → MayDo n hand a × IsDoable a m × (closed_by (act_of core a m).answer ≡ []) × (NeedsMemory core a m → ⊥)
plain_so core n hand m act.Ask plain = (tt, tt, refl, (λ h. h))
plain_so core n hand m act.Enter plain = (tt, tt, refl, (λ h. h))
plain_so core n hand m (act.Read register) plain = (tt, tt, refl, (λ h. h))
plain_so core n hand m (act.Write register value) plain = (tt, tt, refl, (λ h. h))
plain_so core n hand m act.Leave plain = absurd plain
plain_so core n hand m act.Cancel plain = (tt, tt, refl, (λ h. h))
plain_so core n hand m (act.Settle k) plain = (tt, tt, refl, (λ h. h))
plain_so core n hand m act.Tick plain = (tt, tt, refl, (λ h. h))
plain_so core n hand m (act.Want to) plain = (plain, tt, refl, (λ h. h))
plain_so core n hand m (act.Deliver from p) plain = absurd plain
plain_so core n hand m act.Restart plain = (tt, tt, refl, (λ h. h))

on_ok : {A E : Type 0} (r : Result A E) (Refused : Result A E → Type 0) (P : Type 0) → ((a : A) → Refused (Ok a) → ⊥) → ((Refused r → ⊥) → P) → OnOk r P
on_ok (Ok a) Refused P none done = done (none a)
on_ok (Err e) Refused P none done = tt

on_err : {A E : Type 0} (r : Result A E) (Refused : Result A E → Type 0) (P : Type 0) → ((e : E) → Refused (Err e)) → (Refused r → P) → OnErr r P
on_err (Ok a) Refused P all kept = tt
on_err (Err e) Refused P all kept = kept (all e)

-- what is so unless the answer is a refusal
pub on_done : (a : Answer) (P : Type 0) → ((IsRefusal a → ⊥) → P) → OnDone a P
on_done (answer.Asked r) P done = on_ok r (λ x. IsRefusal (answer.Asked x)) P (λ x h. h) done
on_done (answer.Entered r) P done = on_ok r (λ x. IsRefusal (answer.Entered x)) P (λ x h. h) done
on_done (answer.Read r) P done = on_ok r (λ x. IsRefusal (answer.Read x)) P (λ x h. h) done
on_done (answer.Written r) P done = on_ok r (λ x. IsRefusal (answer.Written x)) P (λ x h. h) done
on_done (answer.Left r) P done = on_ok r (λ x. IsRefusal (answer.Left x)) P (λ x h. h) done
on_done (answer.Cancelled r) P done = on_ok r (λ x. IsRefusal (answer.Cancelled x)) P (λ x h. h) done
on_done (answer.Settled r) P done = on_ok r (λ x. IsRefusal (answer.Settled x)) P (λ x h. h) done
on_done answer.Ticked P done = done (λ h. h)
on_done answer.Wanted P done = done (λ h. h)
on_done answer.Delivered P done = done (λ h. h)
on_done answer.Woken P done = done (λ h. h)

-- and what is so where it is one
pub on_refusal : (a : Answer) (P : Type 0) → (IsRefusal a → P) → OnRefusal a P
on_refusal (answer.Asked r) P kept = on_err r (λ x. IsRefusal (answer.Asked x)) P (λ e. tt) kept
on_refusal (answer.Entered r) P kept = on_err r (λ x. IsRefusal (answer.Entered x)) P (λ e. tt) kept
on_refusal (answer.Read r) P kept = on_err r (λ x. IsRefusal (answer.Read x)) P (λ e. tt) kept
on_refusal (answer.Written r) P kept = on_err r (λ x. IsRefusal (answer.Written x)) P (λ e. tt) kept
on_refusal (answer.Left r) P kept = on_err r (λ x. IsRefusal (answer.Left x)) P (λ e. tt) kept
on_refusal (answer.Cancelled r) P kept = on_err r (λ x. IsRefusal (answer.Cancelled x)) P (λ e. tt) kept
on_refusal (answer.Settled r) P kept = on_err r (λ x. IsRefusal (answer.Settled x)) P (λ e. tt) kept
on_refusal answer.Ticked P kept = tt
on_refusal answer.Wanted P kept = tt
on_refusal answer.Delivered P kept = tt
on_refusal answer.Woken P kept = tt

-- of a known answer that is no refusal
pub done_as : (a b : Answer) (P : Type 0) → a ≡ b → OnDone a P → OnDone b P
done_as a b P is done = subst (λ (x : Answer). OnDone x P) is done
