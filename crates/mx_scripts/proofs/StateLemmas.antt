-- What an event does to a state.
use Rattle.std.proofs.Common.{◌≡◌, ◌∙◌, ◌<◌, ◌≤◌, ◌∷◌, ◌++◌, ℕ, [], Option, Result, Ok, OnOk, ap, length, refl, subst, sym}
use Rattle.std.specs.Prelude.{slice_get}
use Rattle.mx_nodelaws.specs.Core.{Core}
use Rattle.mx_network.specs.Step.{ClusterState}
use Rattle.mx_member.specs.declared.parcel.Parcel.{Parcel}
use Rattle.mx_events.specs.declared.event.Event.{Event}
use Rattle.mx_network.proofs.Happening.{noted as in_trace}
use Rattle.mx_trace.specs.declared.outcome.Entry.{Entry}
use Rattle.mx_plan.specs.Text.{Text}
use Rattle.mx_driver.proofs.RunLemmas.{grows, has_newest}
use Rattle.mx_scripts.specs.Fates.{Fates, noted}
use Rattle.mx_scripts.specs.States.{Brings, RunState}
use Rattle.mx_scripts.specs.Told.{IsBroughtTo}
use Rattle.mx_scripts.specs.declared.state.SessionEvent.{SessionEvent}
use Rattle.mx_scripts.specs.declared.state.SessionEvent.TheVariants.{Happens, IsLost, LinksChange}

same_Ok : {A E : Type 0} (x y : A) → ◌≡◌ {A = Result A E} (Ok x) (Ok y) → x ≡ y
same_Ok x y e = cc

same_run : {S M : Type 0} (c d : ClusterState S M) (f g : Fates) → c ≡ d → f ≡ g
    → ◌≡◌ {A = RunState S M} (record { cluster = c; fates = f }) (record { cluster = d; fates = g })
same_run c d f g e e' = rw (e, e') refl

module _ {H S M : Type 0} (core : Core H S M) where
  -- one state follows
  pub brings_one : (e : SessionEvent) (old a b : RunState S M) → Brings core old e a → Brings core old e b → a ≡ b
  brings_one (Happens e) old a b x y =
      let clusters : a.cluster ≡ b.cluster = same_Ok a.cluster b.cluster (sym x.0 ∙ y.0) in
      let fates : a.fates ≡ b.fates = x.1 ∙ ap (λ (g : ClusterState S M). noted g.sent e old.fates) clusters ∙ sym y.1 in
      same_run a.cluster b.cluster a.fates b.fates clusters fates
  brings_one (IsLost k) old a b x y = same_run a.cluster b.cluster a.fates b.fates (x.0 ∙ sym y.0) (x.1 ∙ sym y.1)
  brings_one (LinksChange change) old a b x y = same_run a.cluster b.cluster a.fates b.fates (x.0 ∙ sym y.0) (x.1 ∙ sym y.1)

  pub brings_members : (e : SessionEvent) (old new : RunState S M) → Brings core old e new → length new.cluster.members ≡ length old.cluster.members
  brings_members (Happens e) old new x = (grows core old.cluster new.cluster e x.0).0
  brings_members (IsLost k) old new x = ap (λ (g : ClusterState S M). length g.members) x.0
  brings_members (LinksChange change) old new x = ap (λ (g : ClusterState S M). length g.members) x.0

  -- an event of the cluster has the newest item of the trace, and sent parcels after those before
  pub has_newest_item : (e : Event) (before : ℕ) (new : RunState S M) (g : ClusterState S M) → g ≡ new.cluster → IsBroughtTo core (Happens e) before new
      → (0 < length g.trace) × (before ≤ length g.sent)
  has_newest_item e before new g is x =
      let old : RunState S M = x.0 in
      let step = x.1.0 in
      let n = in_trace core old.cluster e new.cluster step in (
        subst (λ (h : ClusterState S M). 0 < length h.trace) (sym is) (has_newest new.cluster.trace old.cluster.trace (record { event = e; outcome = n.0 }) n.1),
        subst (λ (h : ClusterState S M). before ≤ length h.sent) (sym is) (subst (λ (k : ℕ). k ≤ length new.cluster.sent) (sym x.2) (grows core old.cluster new.cluster e step).1),
      )

  -- what is printed of the newest event, by the states before and after it
  pub newest_shown : {T E : Type 0} (text : ℕ → ClusterState S M → ClusterState S M → Text) (e : Event) (before : ℕ) (new : RunState S M) (g : ClusterState S M) (r : Result T E) (t t' : Text)
      → g ≡ new.cluster
      → ((old : ClusterState S M) (entry : Entry) → g.trace ≡ old.trace ++ entry ∷ [] → before ≡ length old.sent → OnOk r (t' ≡ t ++ text (length old.trace) old g))
      → (old : RunState S M) → Brings core old (Happens e) new → before ≡ length old.cluster.sent → OnOk r (t' ≡ t ++ text (length old.cluster.trace) old.cluster new.cluster)
  newest_shown text e before new g r t t' is printed old brings sent =
      let n = in_trace core old.cluster e new.cluster brings.0 in
      subst (λ (h : ClusterState S M). OnOk r (t' ≡ t ++ text (length old.cluster.trace) old.cluster h)) is
      (printed old.cluster (record { event = e; outcome = n.0 }) (ap (λ (h : ClusterState S M). h.trace) is ∙ n.1) sent)

-- what is printed of a parcel that was sent
pub with_sent : {S M T E : Type 0} (text : Option (ℕ × ℕ × Parcel M) → Text) (k : ℕ) (new : RunState S M) (g : ClusterState S M) (r : Result T E) (t t' : Text) → g ≡ new.cluster
    → OnOk r (t' ≡ t ++ text (slice_get g.sent k)) → OnOk r (t' ≡ t ++ text (slice_get new.cluster.sent k))
with_sent {S} {M} text k new g r t t' is x = subst (λ (h : ClusterState S M). OnOk r (t' ≡ t ++ text (slice_get h.sent k))) is x
