-- What the lines of a script do.
use Rattle.std.proofs.Common.{◌≡◌, ◌≤◌, ◌<◌, ℕ, zero, suc, List, [], ◌∷◌, ◌++◌, Option, Some, None, Result, Ok, Err, OnOk, IfSome, add-one, ◌+◌, ◌-◌, refl, sym, ap, subst, arith, inl, inr, ◌⊎◌}
use Rattle.std.specs.Prelude.{Bool, IfErr, IsErrAnd, IsTrue, false, if◌then◌else◌, true}
use Rattle.std.specs.Str.Lines.{lines}
use Rattle.mx_nodelaws.specs.Core.{Core}
use Rattle.mx_network.specs.Step.{ClusterState, IsFaultOf, step_of}
use Rattle.mx_network.specs.declared.faults.StepFault.{StepFault}
use Rattle.mx_events.specs.declared.event.Event.{Event}
use Rattle.mx_plan.specs.Text.{Text}
use Rattle.mx_plan.specs.Fields.{Fields}
use Rattle.mx_lines.specs.declared.line.ScriptLine.TheVariants as script_line
use Rattle.mx_lines.specs.declared.orders.Order.{Order}
use Rattle.mx_lines.specs.declared.orders.Order.TheVariants as order
use Rattle.mx_lines.specs.declared.orders.Scope.TheVariants.{Link}
use Rattle.mx_scripts.specs.Expectations.{IsNotMet}
use Rattle.mx_scripts.specs.Fates.{Fates, is_under_way}
use Rattle.mx_scripts.specs.Lines.{IsNext, Once, Performs, IsNotDone, Misreads, ReadsLine, Repeats, StopsAfter, StopsWithin}
use Rattle.mx_lines.specs.Within.{IsOrderWithin}
use Rattle.mx_scripts.specs.Failures.{failure_of_step}
use Rattle.mx_scripts.specs.States.{Admits, Brings, IsAllowed, IsEventWithin, IsNotApplied, RunState}
use Rattle.mx_scripts.specs.declared.line_failure.LineFailure.{LineFailure}
use Rattle.mx_scripts.specs.declared.line_failure.LineFailure.TheVariants as failure
use Rattle.mx_scripts.specs.declared.state.SessionEvent.{SessionEvent}
use Rattle.mx_scripts.specs.declared.state.SessionEvent.TheVariants.{Happens, IsLost, LinksChange}
use Rattle.mx_scripts.proofs.FateLemmas.{waiting_under_way}

not_none : {A : Type 0} (x : A) → ◌≡◌ {A = Option A} (Some x) None → ⊥
not_none x e = cc

if_some : {A : Type 0} (b : Bool) (x e : A) → ◌≡◌ {A = Option A} (Some e) (if b then Some x else None) → (b ≡ true) × (e ≡ x)
if_some true x e is = (refl, cc)
if_some false x e is = absurd (not_none e is)

-- ---- an event that is next is within the names of its order, and may happen where it is no delivery over a cut link

module _ {P : Type 0} (d : Fates) (sent : List (ℕ × ℕ × P)) (nodes registers : ℕ) where
  abbrev Within : SessionEvent → Type 0
  Within e = IsEventWithin nodes registers e

  pub next_within : (o : Order) (done : ℕ) (e : SessionEvent) → IsOrderWithin nodes registers o → IsNext d sent o done (Some e) → IsEventWithin nodes registers e
  next_within o done (IsLost k) over is = tt
  next_within o done (LinksChange change) over is = tt
  next_within (order.Happens event) zero (Happens e) over is = subst Within (sym is) over
  next_within (order.Arrives from to) zero (Happens e) over is = subst Within (sym is.2) (tt, tt)
  next_within (order.AllArrive scope) done (Happens e) over is = subst Within (sym is.2) (tt, tt)
  next_within (order.ArrivesAgain from to) zero (Happens e) over is = subst Within (sym is.2) (tt, tt)
  next_within (order.ParcelIsLost k) done (Happens e) over is = subst Within (sym (if_some (is_under_way d k) (IsLost k) (Happens e) is.1).1) tt
  next_within _ zero (Happens e) over is = absurd (cc)
  next_within _ (suc done) (Happens e) over is = absurd (cc)

module _ {S M : Type 0} (s : RunState S M) where
  lost_allowed : (j k : ℕ) → IsTrue (is_under_way s.fates j) → ◌≡◌ {A = SessionEvent} (IsLost k) (IsLost j) → IsTrue (is_under_way s.fates k)
  lost_allowed j k way is = let same : k ≡ j = cc in subst (λ (n : ℕ). IsTrue (is_under_way s.fates n)) (sym same) way

  next_some : (o : Order) (done : ℕ) (e : SessionEvent) → IsNext s.fates s.cluster.sent o done (Some e) → Admits s (Some e) → IsAllowed s e
  next_some o done (Happens event) is admits = admits
  next_some o done (LinksChange change) is admits = tt
  next_some (order.IsLost from to) zero (IsLost k) is admits = lost_allowed is.0 k (waiting_under_way s.fates s.cluster.sent (Link from to) is.0 is.1.0) is.2
  next_some (order.AllAreLost scope) done (IsLost k) is admits = lost_allowed is.0 k (waiting_under_way s.fates s.cluster.sent scope is.0 is.1.0) is.2
  next_some (order.ParcelIsLost j) done (IsLost k) is admits = let lost = if_some (is_under_way s.fates j) (IsLost j) (IsLost k) is.1 in lost_allowed j k lost.0 lost.1
  next_some _ zero (IsLost k) is admits = absurd (cc)
  next_some _ (suc done) (IsLost k) is admits = absurd (cc)

  pub next_allowed : (o : Order) (done : ℕ) (next : Option SessionEvent) → IsNext s.fates s.cluster.sent o done next → Admits s next → IfSome next (IsAllowed s)
  next_allowed o done None is admits = tt
  next_allowed o done (Some e) is admits = next_some o done e is admits

-- later
pub once_later : (done : ℕ) (IsIt : SessionEvent → Type 0) → 0 < done → Once done IsIt None
once_later zero IsIt lt = absurd (omega (arith, lt))
once_later (suc done) IsIt lt = refl

-- the first time
pub once_now : (done : ℕ) (IsIt : SessionEvent → Type 0) (e : SessionEvent) → done ≤ 0 → IsIt e → Once done IsIt (Some e)
once_now zero IsIt e le x = x
once_now (suc done) IsIt e le x = absurd (omega (arith, le))

-- ---- a loop over the events of an order, and over its repetitions

module _ {H S M : Type 0} (core : Core H S M) (o : Order) where
  pub performs_next : (done : ℕ) (e : SessionEvent) (es : List SessionEvent) (old mid new : RunState S M) → IsNext old.fates old.cluster.sent o done (Some e) → IsAllowed old e
      → Brings core old e mid → Performs core o (done + 1) mid es new → Performs core o done old (e ∷ es) new
  performs_next done e es old mid new next allowed brings x =
      (mid, next, allowed, brings, subst (λ (n : ℕ). Performs core o n mid es new) (add-one done) x)

  pub stops_next : (done : ℕ) (e : SessionEvent) (es : List SessionEvent) (old mid : RunState S M) (why : LineFailure) → IsNext old.fates old.cluster.sent o done (Some e) → IsAllowed old e
      → Brings core old e mid → StopsAfter core o (done + 1) mid es why → StopsAfter core o done old (e ∷ es) why
  stops_next done e es old mid why next allowed brings x =
      (mid, next, allowed, brings, subst (λ (n : ℕ). StopsAfter core o n mid es why) (add-one done) x)

  -- one time more was done
  pub within_next : (times i : ℕ) (old mid : RunState S M) (why : LineFailure) → i < times → (es : List SessionEvent) × Performs core o 0 old es mid
      → StopsWithin core o (times - (i + 1)) mid why → StopsWithin core o (times - i) old why
  within_next times i old mid why lt x y =
      let n : times - i ≡ suc (times - (i + 1)) = omega (arith, lt) in
      subst (λ (k : ℕ). StopsWithin core o k old why) (sym n) (inr (mid, x.0, x.1, y))

  -- this time is not done
  pub within_here : (times i : ℕ) (old : RunState S M) (why : LineFailure) → i < times → (es : List SessionEvent) × StopsAfter core o 0 old es why
      → StopsWithin core o (times - i) old why
  within_here times i old why lt x =
      let n : times - i ≡ suc (times - (i + 1)) = omega (arith, lt) in
      subst (λ (k : ℕ). StopsWithin core o k old why) (sym n) (inl x)

  pub repeats_next : (times i : ℕ) (first rest : List SessionEvent) (old mid new : RunState S M) → i < times → Performs core o 0 old first mid
      → Repeats core o (times - (i + 1)) mid rest new → Repeats core o (times - i) old (first ++ rest) new
  repeats_next times i first rest old mid new lt x y =
      let n : times - i ≡ suc (times - (i + 1)) = omega (arith, lt) in
      subst (λ (k : ℕ). Repeats core o k old (first ++ rest) new) (sym n) (mid, first, rest, x, refl, y)

  pub repeats_end : (times i : ℕ) (now : RunState S M) → times ≤ i → Repeats core o (times - i) now [] now
  repeats_end times i now le =
      let n : times - i ≡ 0 = omega (arith, le) in
      subst (λ (k : ℕ). Repeats core o k now [] now) (sym n) (refl, refl)

-- ---- why an event is not applied

pub err_of : {T E : Type 0} (P : E → Type 0) (r : Result T E) (why : E) → IsErrAnd r (λ w. w ≡ why) → P why → IfErr r P
err_of P (Ok t) why h p = tt
err_of P (Err w) why h p = subst P (sym h) p

-- what follows from what is known of an error, and of a result without one
pub err_then : {T E : Type 0} {P Q : E → Type 0} (r : Result T E) → IfErr r P → ((why : E) → P why → Q why) → IfErr r Q
err_then (Ok t) p f = tt
err_then (Err why) p f = f why p

pub ok_then : {T E P Q : Type 0} (r : Result T E) → OnOk r P → (P → Q) → OnOk r Q
ok_then (Ok t) p f = f p
ok_then (Err why) p f = tt

module _ {H S M : Type 0} (core : Core H S M) (fates : Fates) where
  abbrev with_cluster : ClusterState S M → RunState S M
  with_cluster g = record { cluster = g; fates = fates }

  refused_by : (old new : ClusterState S M) (e : Event) (fault : StepFault) → IsFaultOf (step_of core old e) fault → new ≡ old
      → IsNotApplied core (with_cluster old) (Happens e) (with_cluster new) (failure_of_step fault)
  refused_by old new e fault (inl x) same = inl (ap failure_of_step x.0)
  refused_by old new e fault (inr x) same = inr (ap with_cluster same, fault, x, refl)

  pub not_applied : {T : Type 0} (r : Result T LineFailure) (old new : ClusterState S M) (e : Event) (fault : StepFault) → IsErrAnd r (λ why. why ≡ failure_of_step fault)
      → IsFaultOf (step_of core old e) fault → new ≡ old → IfErr r (IsNotApplied core (with_cluster old) (Happens e) (with_cluster new))
  not_applied (Ok t) old new e fault h is same = tt
  not_applied (Err why) old new e fault h is same =
      subst (λ (w : LineFailure). IsNotApplied core (with_cluster old) (Happens e) (with_cluster new) w) (sym h) (refused_by old new e fault is same)

-- ---- why a line is not done

module _ {H S M : Type 0} (core : Core H S M) (p : Fields) where
  pub misread : (text : Text) (old : RunState S M) (why : LineFailure) → (why ≡ failure.Memory) ⊎ Misreads p text why → IsNotDone core p text old why
  misread text old why (inl x) = inl x
  misread text old why (inr x) = inr (inl x)

  -- the newest item has not the outcome that the line expects
  pub not_met : (text : Text) (old : RunState S M) (why : LineFailure) → ReadsLine p text script_line.Expects → (why ≡ failure.Memory) ⊎ IsNotMet text old.cluster.trace why → IsNotDone core p text old why
  not_met text old why reads (inl x) = inl x
  not_met text old why reads (inr x) = inr (inr (inr (reads, x)))
