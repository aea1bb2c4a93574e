-- A worker leaves no more sections than it was asked for: it asks only where some are lacking, and no other act but to
-- ask makes an idle node busy.
use Rattle.std.proofs.Common.{◌≡◌, ◌⊎◌, ◌<◌, ◌+◌, ◌-◌, ◌++◌, inl, inr, ℕ, List, [], ◌∷◌, length, length-append, Option, Result, Ok, Err, OnOk, OnErr, nat_le, nat_lt, if◌then◌else◌, refl, sym, ap, ◌∙◌, subst, arith}
use Rattle.std.proofs.lemmas.List.{append-nil}
use Rattle.mx_stamps.proofs.Choices.{compared, cond_case}
use Rattle.mx_journal.specs.Settled.{settled}
use Rattle.mx_journal.specs.declared.receipts.Receipt.{Receipt}
use Rattle.mx_journal.specs.declared.settlement.SettleFault.{SettleFault}
use Rattle.mx_journal.specs.declared.settlement.SettleFault.TheVariants as settle
use Rattle.mx_nodelaws.specs.Core.{Core, KeepsPhases}
use Rattle.mx_nodelaws.specs.World.{Quiet}
use Rattle.mx_nodelaws.specs.declared.faults.CancelFault.{CancelFault}
use Rattle.mx_nodelaws.specs.declared.faults.EnterFault.{EnterFault}
use Rattle.mx_nodelaws.specs.declared.phase.Phase.{Phase}
use Rattle.mx_nodelaws.specs.declared.phase.Phase.TheVariants.{Idle, Waiting, Inside}
use Rattle.mx_member.specs.declared.acts.Act.{Act}
use Rattle.mx_member.specs.declared.acts.Act.TheVariants as act
use Rattle.mx_member.specs.declared.acts.Answer.TheVariants as answer
use Rattle.mx_member.specs.declared.parcel.Parcel.{Parcel}
use Rattle.mx_member.specs.declared.parcel.Parcel.TheVariants.{Guard, Want, Base, Records}
use Rattle.mx_member.specs.Acts.{act_of}
use Rattle.mx_member.specs.Member.{MemberState, first_gap, with_core, with_journal}
use Rattle.mx_member.specs.Receipts.{closed_by}
use Rattle.mx_member.specs.Steps.{entered, leave_at, read_at, refusing, settle_of, take_of, write_at}
use Rattle.mx_stations.specs.Posts.{after_act, does}
use Rattle.mx_stations.specs.Turns.{Goes, Station}
use Rattle.mx_stations.specs.Works.{IsWithin, IsWorkers, MayLeave, Serves, SettlesIfDue}
use Rattle.mx_stations.proofs.Going.{goes_keep}
use Rattle.mx_stations.proofs.Leaving.{none_on, none_resting, none_trying}

-- each act but to ask
abbrev pub AsksNot : {M : Type 0} → Act M → Type 0
AsksNot act.Ask = ⊥
AsksNot _ = Unit {0}

module _ {H S M : Type 0} (core : Core H S M) (phases : KeepsPhases core) where
  abbrev IsIdle : MemberState S → Type 0
  IsIdle m = core.phase m.core ≡ Idle

  entered_idle : (m : MemberState S) (r : Result ℕ EnterFault) → (core.enter m.core).answer ≡ r → IsIdle m → IsIdle (entered r (with_core (core.enter m.core).state m))
  entered_idle m (Ok n) is idle = let wrong : Idle ≡ Waiting = sym idle ∙ phases.can_enter_waiting m.core (phases.enter_ok m.core n is).0 in cc
  entered_idle m (Err e) is idle = ap core.phase (phases.enter_err m.core e is) ∙ idle

  cancelled_idle : (m : MemberState S) (r : Result (Unit {0}) CancelFault) → (core.cancel m.core).answer ≡ r → IsIdle m → core.phase (core.cancel m.core).state ≡ Idle
  cancelled_idle m (Ok done) is idle = (phases.cancel_ok m.core is).1
  cancelled_idle m (Err e) is idle = ap core.phase (phases.cancel_err m.core e is).0 ∙ idle

  settled_idle : (k : ℕ) (m : MemberState S) → IsIdle m → IsIdle (settle_of k m).state
  settled_idle k m idle =
      let done : Quiet (MemberState S) (Result (Unit {0}) SettleFault) = record { state = with_journal (settled k m.journal) m; answer = Ok tt } in
      let gap = if nat_le (first_gap m.journal) k then refusing m (settle.Gap (first_gap m.journal)) else done in
      cond_case (λ (q : Quiet (MemberState S) (Result (Unit {0}) SettleFault)). IsIdle q.state) (nat_lt k m.journal.base.upto) (refusing m (settle.Below m.journal.base.upto)) gap (λ _. idle)
      (λ _. cond_case (λ (q : Quiet (MemberState S) (Result (Unit {0}) SettleFault)). IsIdle q.state) (nat_le (first_gap m.journal) k) (refusing m (settle.Gap (first_gap m.journal))) done (λ _. idle) (λ _. idle))

  taken_idle : (from : ℕ) (p : Parcel M) (m : MemberState S) → IsIdle m → IsIdle (take_of core from p m).state
  taken_idle from (Guard letter) m idle = phases.deliver_phase from letter m.core ∙ idle
  taken_idle from (Want ranges) m idle = idle
  taken_idle from (Base base) m idle = idle
  taken_idle from (Records records) m idle = idle

  -- an idle node stays idle by each act but to ask
  stays_idle : (a : Act M) → AsksNot a → (m : MemberState S) → IsIdle m → IsIdle (act_of core a m).state
  stays_idle act.Ask other m idle = absurd other
  stays_idle act.Enter other m idle = entered_idle m (core.enter m.core).answer refl idle
  stays_idle (act.Read register) other m idle = subst (λ (p : Phase). IsIdle (read_at core register m p).state) (sym idle) idle
  stays_idle (act.Write register value) other m idle = subst (λ (p : Phase). IsIdle (write_at core register value m p).state) (sym idle) idle
  stays_idle act.Leave other m idle = subst (λ (p : Phase). IsIdle (leave_at core m p).state) (sym idle) idle
  stays_idle act.Cancel other m idle = cancelled_idle m (core.cancel m.core).answer refl idle
  stays_idle (act.Settle k) other m idle = settled_idle k m idle
  stays_idle act.Tick other m idle = phases.tick_phase m.core ∙ idle
  stays_idle (act.Want to) other m idle = idle
  stays_idle (act.Deliver from p) other m idle = taken_idle from p m idle
  stays_idle act.Restart other m idle = idle

module _ {H S M : Type 0} (core : Core H S M) (phases : KeepsPhases core) (most : ℕ) where
  pub same_within : (s t : Station core) → t ≡ s → IsWithin core most s → IsWithin core most t
  same_within s t same is = subst (λ (z : Station core). IsWithin core most z) (sym same) is

  -- a move that leaves receipts and member
  kept_within : (s t : Station core) → t.me.receipts ≡ s.me.receipts → t.me.member ≡ s.me.member → IsWithin core most s → IsWithin core most t
  kept_within s t receipts member (inl low) = inl (subst (λ (rs : List Receipt). length rs < most) (sym receipts) low)
  kept_within s t receipts member (inr full) = inr (ap (λ (rs : List Receipt). length rs) receipts ∙ full.0, ap (λ (m : MemberState S). core.phase m.core) member ∙ full.1)

  same_count : (a : Act M) (s : Station core) → closed_by (act_of core a s.me.member).answer ≡ [] → length (s.me.receipts ++ closed_by (act_of core a s.me.member).answer) ≡ length s.me.receipts
  same_count a s none = ap (λ (rs : List Receipt). length (s.me.receipts ++ rs)) none ∙ ap (λ (rs : List Receipt). length rs) (append-nil s.me.receipts)

  acted_within : (a : Act M) → AsksNot a → (hand : Option (ℕ × Parcel M)) (s : Station core) → closed_by (act_of core a s.me.member).answer ≡ [] → IsWithin core most s → IsWithin core most (after_act core a hand s)
  acted_within a other hand s none (inl low) = inl (subst (λ (n : ℕ). n < most) (sym (same_count a s none)) low)
  acted_within a other hand s none (inr full) = inr (same_count a s none ∙ full.0, stays_idle core phases a other s.me.member full.1)

  -- an act that leaves no section, and may be refused
  pub trying_within : {A F : Type 0} (a : Act M) (r : Result A F) (s t : Station core) → AsksNot a → closed_by (act_of core a s.me.member).answer ≡ [] → OnOk r (t ≡ does core a s) → OnErr r (t ≡ s) → IsWithin core most s → IsWithin core most t
  trying_within a (Ok x) s t other none did same is = same_within (does core a s) t did (acted_within a other s.me.hand s none is)
  trying_within a (Err e) s t other none did same is = same_within s t same is

  pub doing_within : (a : Act M) (s t : Station core) → AsksNot a → closed_by (act_of core a s.me.member).answer ≡ [] → t ≡ does core a s → IsWithin core most s → IsWithin core most t
  doing_within a s t other none did is = same_within (does core a s) t did (acted_within a other s.me.hand s none is)

  -- it asks where sections are lacking
  pub asking_within : {A F : Type 0} (r : Result A F) (s t : Station core) → length s.me.receipts < most → OnOk r (t ≡ does core act.Ask s) → OnErr r (t ≡ s) → IsWithin core most t
  asking_within (Ok x) s t low did same = same_within (does core act.Ask s) t did (inl (subst (λ (n : ℕ). n < most) (sym (same_count act.Ask s refl)) low))
  asking_within (Err e) s t low did same = same_within s t same (inl low)

  -- one receipt more
  closed_within : (rs : List Receipt) (r : Receipt) (p : Phase) → p ≡ Idle → length rs < most → (length (rs ++ r ∷ []) < most) ⊎ ((length (rs ++ r ∷ []) ≡ most) × (p ≡ Idle))
  closed_within rs r p idle low =
      let more : length (rs ++ r ∷ []) ≡ length rs + 1 = length-append rs (r ∷ []) in
      elim (compared (length (rs ++ r ∷ [])) most) [
        | inl less ↦ inl less
        | inr (inl same) ↦ inr (same, idle)
        | inr (inr high) ↦ absurd (omega (arith, more, low, high))
      ]

  left_within : (rs : List Receipt) (m : MemberState S) (p : Phase) → core.phase m.core ≡ p → (length rs < most) ⊎ ((length rs ≡ most) × (core.phase m.core ≡ Idle))
      → (length (rs ++ closed_by (answer.Left (leave_at core m p).answer)) < most)
      ⊎ ((length (rs ++ closed_by (answer.Left (leave_at core m p).answer)) ≡ most) × (core.phase (leave_at core m p).state.core ≡ Idle))
  left_within rs m Idle is within =
      subst (λ (l : List Receipt). (length l < most) ⊎ ((length l ≡ most) × (core.phase m.core ≡ Idle))) (sym (append-nil rs)) within
  left_within rs m Waiting is within =
      subst (λ (l : List Receipt). (length l < most) ⊎ ((length l ≡ most) × (core.phase m.core ≡ Idle))) (sym (append-nil rs)) within
  left_within rs m (Inside n) is (inl low) = closed_within rs _ (core.phase (core.leave m.core).state) (phases.leave_ok m.core n ((phases.leave_inside m.core n).1 is)) low
  left_within rs m (Inside n) is (inr full) = let wrong : Idle ≡ Inside n = sym full.1 ∙ is in cc

  -- it may leave its section
  pub leaving_within : (s t : Station core) → MayLeave core s t → IsWithin core most s → IsWithin core most t
  leaving_within s t (inl same) is = same_within s t same is
  leaving_within s t (inr did) is = same_within (does core act.Leave s) t did (left_within s.me.receipts s.me.member (core.phase s.me.member.core) refl is)

  -- a turn of its station
  pub turned_within : (s t : Station core) → Goes core s t → IsWithin core most s → IsWithin core most t
  turned_within = goes_keep core (λ s t. IsWithin core most s → IsWithin core most t) (λ s t u a b is. b (a is)) (λ s t home member receipts is. kept_within s t receipts member is)
      (λ from p hand s is. acted_within (act.Deliver from p) tt hand s refl is) (λ s is. acted_within act.Tick tt s.me.hand s refl is)

  -- and its settling
  pub settling_within : (every before : ℕ) (s t : Station core) → SettlesIfDue core every before s t → IsWithin core most s → IsWithin core most t
  settling_within every before s t (inl did) is = doing_within (act.Settle (first_gap s.me.member.journal - 1)) s t tt refl did.1 is
  settling_within every before s t (inr did) is = same_within s t did.1 is

module _ {H S M : Type 0} (core : Core H S M) (phases : KeepsPhases core) (register most : ℕ) where
  pub serves_none : (s t : Station core) → t ≡ s → Serves core register most s t
  serves_none s t same = (none_resting core register s t same, same_within core phases most s t same)

  pub serves_on : (s t u : Station core) → Serves core register most s t → Serves core register most t u → Serves core register most s u
  serves_on s t u a b = (none_on core register s t u a.0 b.0, λ is. b.1 (a.1 is))

  -- an act of a worker but to ask or to leave, which may be refused
  pub serves_trying : {A F : Type 0} (a : Act M) (r : Result A F) (s t : Station core) → IsWorkers register s.nodes a → AsksNot a → closed_by (act_of core a s.me.member).answer ≡ [] → OnOk r (t ≡ does core a s) → OnErr r (t ≡ s) → Serves core register most s t
  serves_trying a r s t own other none did same = (none_trying core register a r s t own none did same, trying_within core phases most a r s t other none did same)
