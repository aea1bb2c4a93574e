-- Where a node is not refused for want of a section number: inside, after leaving, and after an enter that was not.
use Rattle.std.proofs.Common.{◌≡◌, ◌∙◌, false, ℕ, Result, Ok, Err, OnOk, OnErr, ap, sym}
use Rattle.mx_nodelaws.specs.Core.{Core, KeepsPhases}
use Rattle.mx_nodelaws.specs.declared.faults.EnterFault.{EnterFault}
use Rattle.mx_nodelaws.specs.declared.faults.EnterFault.TheVariants.{NotGranted, NotWaiting, NumbersSpent}
use Rattle.mx_nodelaws.specs.declared.phase.Phase.{Phase}
use Rattle.mx_nodelaws.specs.declared.phase.Phase.TheVariants.{Idle, Waiting, Inside}
use Rattle.mx_member.specs.declared.acts.Act.TheVariants.{Enter, Leave}
use Rattle.mx_member.specs.Member.{with_core}
use Rattle.mx_member.specs.Steps.{enter_of, entered, leave_at}
use Rattle.mx_stations.specs.Posts.{does}
use Rattle.mx_stations.specs.Turns.{Station}
use Rattle.mx_jobs.specs.Sections.{IsSpent}

module _ {H S M : Type 0} (core : Core H S M) (phases : KeepsPhases core) where
  only_waiting : (s : S) (p : Phase) → core.phase s ≡ p → (p ≡ Waiting → ⊥) → (core.enter s).answer ≡ Err NumbersSpent → ⊥
  only_waiting s p is not spent =
      let wrong : ◌≡◌ {A = Result ℕ EnterFault} (Err NotWaiting) (Err NumbersSpent) = sym ((phases.enter_not_waiting s).1 (λ waits. not (sym is ∙ waits))) ∙ spent in cc

  pub inside_able : (n : ℕ) (s : Station core) → core.phase s.me.member.core ≡ Inside n → IsSpent core s → ⊥
  inside_able n s is spent = only_waiting s.me.member.core (Inside n) is (λ e. cc) spent

  pub waiting_able : (s : Station core) → core.phase s.me.member.core ≡ Waiting → core.can_enter s.me.member.core ≡ false → IsSpent core s → ⊥
  waiting_able s waits not spent =
      let wrong : ◌≡◌ {A = Result ℕ EnterFault} (Err NotGranted) (Err NumbersSpent) = sym ((phases.enter_not_granted s.me.member.core).1 (waits, not)) ∙ spent in cc

  pub left_able : (n : ℕ) (s t : Station core) → core.phase s.me.member.core ≡ Inside n → t ≡ does core Leave s → IsSpent core t → ⊥
  left_able n s t is did spent =
      let m = s.me.member in
      let idle : core.phase t.me.member.core ≡ Idle = ap (λ (z : Station core). core.phase z.me.member.core) did ∙ ap (λ (p : Phase). core.phase (leave_at core m p).state.core) is ∙ phases.leave_ok m.core n ((phases.leave_inside m.core n).1 is) in
      only_waiting t.me.member.core Idle idle (λ e. cc) spent

  pub entered_able : (r : Result ℕ EnterFault) (s t : Station core) → r ≡ (enter_of core s.me.member).answer → (r ≡ Err NumbersSpent → ⊥) → OnOk r (t ≡ does core Enter s) → OnErr r (t ≡ s) → IsSpent core t → ⊥
  entered_able (Ok n) s t is not did same spent =
      let m = s.me.member in
      let inside : core.phase t.me.member.core ≡ Inside n = ap (λ (z : Station core). core.phase z.me.member.core) did ∙ ap (λ (a : Result ℕ EnterFault). core.phase (entered a (with_core (core.enter m.core).state m)).core) (sym is) ∙ (phases.enter_ok m.core n (sym is)).1 in
      inside_able n t inside spent
  entered_able (Err e) s t is not did same spent = not (is ∙ ap (λ (z : Station core). (core.enter z.me.member.core).answer) (sym same) ∙ spent)

  -- a phase and a core that stay
  pub same_able : (s t : Station core) → t.me.member.core ≡ s.me.member.core → (IsSpent core s → ⊥) → IsSpent core t → ⊥
  same_able s t same able spent = able (ap (λ (z : S). (core.enter z).answer) (sym same) ∙ spent)

  -- the same station
  pub refused_spent : (r : Result ℕ EnterFault) (s t : Station core) → r ≡ (enter_of core s.me.member).answer → r ≡ Err NumbersSpent → OnErr r (t ≡ s) → IsSpent core t
  refused_spent (Ok n) s t is spent same = absurd (let wrong : ◌≡◌ {A = Result ℕ EnterFault} (Ok n) (Err NumbersSpent) = spent in cc)
  refused_spent (Err e) s t is spent same = ap (λ (z : Station core). (core.enter z.me.member.core).answer) same ∙ sym is ∙ spent
