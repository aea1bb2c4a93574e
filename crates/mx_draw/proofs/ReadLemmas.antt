-- The reads of a walk: none is refused for a gap.
use Rattle.std.proofs.Common.{◌≡◌, ◌∙◌, ◌-◌, ◌%◌, ◌||◌, ◌++◌, ℕ, zero, suc, Bool, true, false, nat_eq, nat_le, nat_lt, if◌then◌else◌, List, [], ◌∷◌, Option, Some, None, Result, Ok, Err, IfSome, length, slice_get, ap, subst, sym, refl, inl, inr}
use Rattle.std.proofs.lemmas.Bool.{true≢false}
use Rattle.std.specs.Prelude.{OnOk}
use Rattle.std.specs.Option.{option_map_or}
use Rattle.rand_pcg.specs.Lcg.{Lcg}
use Rattle.mx_stamps.specs.Lists.{IsIn}
use Rattle.mx_stamps.proofs.Lists.{cond_case, in_append}
use Rattle.mx_nodelaws.specs.Core.{Core}
use Rattle.mx_nodelaws.specs.World.{Quiet}
use Rattle.mx_nodelaws.specs.declared.phase.Phase.{Phase}
use Rattle.mx_nodelaws.specs.declared.phase.Phase.TheVariants.{Idle, Waiting, Inside}
use Rattle.mx_journal.specs.Drafted.{with_read}
use Rattle.mx_member.specs.declared.acts.Act.TheVariants as act
use Rattle.mx_member.specs.declared.acts.Answer.TheVariants as answer
use Rattle.mx_member.specs.declared.faults.ReadFault.{ReadFault}
use Rattle.mx_member.specs.declared.faults.ReadFault.TheVariants as read
use Rattle.mx_member.specs.Acts.{act_of}
use Rattle.mx_member.specs.Member.{MemberState, first_gap, with_draft}
use Rattle.mx_member.specs.Steps.{read_at, read_of, refusing, shown_inside}
use Rattle.mx_events.specs.declared.event.Event.{Event}
use Rattle.mx_events.specs.declared.event.Event.TheVariants as event
use Rattle.mx_trace.specs.declared.cause.Cause.{Cause}
use Rattle.mx_trace.specs.declared.cause.Cause.TheVariants as cause
use Rattle.mx_trace.specs.declared.outcome.Entry.{Entry}
use Rattle.mx_trace.specs.declared.outcome.Outcome.{Outcome}
use Rattle.mx_trace.specs.declared.outcome.Outcome.TheVariants.{Refused}
use Rattle.mx_network.specs.declared.faults.StepFault.{StepFault}
use Rattle.mx_network.specs.declared.faults.StepFault.TheVariants.{NoNode}
use Rattle.mx_network.specs.Outcome.{outcome_of}
use Rattle.mx_network.specs.Step.{ClusterState, answer_of, at_member, grown, step_of}
use Rattle.mx_network.proofs.EventParts.{err_no_ok, same_Ok}
use Rattle.mx_network.proofs.Happening.{noted}
use Rattle.mx_explorer.specs.Drawn.{after_words, word}
use Rattle.mx_cli.specs.declared.request.Conditions.{Conditions}
use Rattle.mx_draw.specs.Walk.{StepperState, act_by, acted, actor, byte_of, idle_by, inside_by, is_delivery, is_empty, looked, member_act, next_step, waiting_by, with_words}
use Rattle.mx_draw.specs.Reads.{AddsNoVainRead, HasNoVainRead, IsVainRead}
use Rattle.mx_draw.specs.Runs.{after_placed, next_of, or_stay, ran}
use Rattle.mx_draw.proofs.StepLemmas.{either, either_event, either_step}

-- with this first gap, a read in this phase is not refused for a gap
abbrev IsReadable : Phase → ℕ → Type 0
IsReadable Idle gap = Unit {0}
IsReadable Waiting gap = Unit {0}
IsReadable (Inside n) gap = nat_lt gap n ≡ false

-- the items that make two lists longer are the same
last_same : {X : Type 0} (xs : List X) (x y : X) → xs ++ x ∷ [] ≡ xs ++ y ∷ [] → x ≡ y
last_same [] x y e = cc
last_same (z ∷ zs) x y e = last_same zs x y (let tail : zs ++ x ∷ [] ≡ zs ++ y ∷ [] = cc in tail)

-- a read whose outcome tells of a gap was refused for that
gap_told : (r : Result ℕ ReadFault) (k n : ℕ) → outcome_of (answer.Read r) k ≡ Refused (cause.Gap n) → r ≡ Err (read.Gap n)
gap_told (Ok value) k n e = let bad : ⊥ = cc in absurd bad
gap_told (Err read.NotInside) k n e = let bad : ⊥ = cc in absurd bad
gap_told (Err read.NoRegister) k n e = let bad : ⊥ = cc in absurd bad
gap_told (Err (read.Gap m)) k n e = ap (λ i. Err (read.Gap i)) (let q : m ≡ n = cc in q)
gap_told (Err read.Full) k n e = let bad : ⊥ = cc in absurd bad
gap_told (Err (read.Settled m)) k n e = let bad : ⊥ = cc in absurd bad

module _ {H S M : Type 0} (core : Core H S M) where
  abbrev IsReadableBy : Option (MemberState S) → Type 0
  IsReadableBy None = Unit {0}
  IsReadableBy (Some m) = IsReadable (core.phase m.core) (first_gap m.journal)

  -- ---- what a walk reads

  module _ (g : ClusterState S M) where
    -- the event is no read, or that of a node that may read
    abbrev IsKnown : Event → Type 0
    IsKnown (event.Read i register) = IsReadableBy (slice_get g.members i)
    IsKnown _ = Unit {0}

    idle_known : (k nodes i gapless : ℕ) (x : Lcg) → IfSome (idle_by k nodes i gapless x).0 IsKnown
    idle_known k nodes i gapless x =
        either IsKnown (nat_lt k 2) _ _ tt (either IsKnown (nat_eq k 2) _ _ tt (either IsKnown (nat_eq k 3) _ _ tt tt))

    waiting_known : (k i : ℕ) (may_enter is_calm : Bool) → IfSome (waiting_by k i may_enter is_calm) IsKnown
    waiting_known k i may_enter is_calm =
        either_event IsKnown (nat_eq k 0) _ _ tt (either_event IsKnown may_enter _ _ tt (either_event IsKnown (nat_lt k 4 || is_calm) _ _ tt tt))

    inside_known : (k nodes registers i : ℕ) (has_gap : Bool) (x : Lcg) → (has_gap ≡ false → IsReadableBy (slice_get g.members i))
        → IfSome (inside_by k nodes registers i has_gap x).0 IsKnown
    inside_known k nodes registers i true x known = tt
    inside_known k nodes registers i false x known = either IsKnown (nat_lt k 5) _ _ (known refl) (either IsKnown (nat_lt k 10) _ _ tt tt)

    act_known : (phase : Phase) (nodes registers i gap : ℕ) (may_enter is_calm : Bool) (x : Lcg) → (IsReadable phase gap → IsReadableBy (slice_get g.members i))
        → IfSome (act_by phase nodes registers i gap may_enter is_calm x).0 IsKnown
    act_known Idle nodes registers i gap may_enter is_calm x known = idle_known (word x % 16) nodes i (gap - 1) (after_words 1 x)
    act_known Waiting nodes registers i gap may_enter is_calm x known = waiting_known (word x % 64) i may_enter is_calm
    act_known (Inside n) nodes registers i gap may_enter is_calm x known =
        inside_known (word x % 16) nodes registers i (nat_lt gap n) (after_words 1 x) known

    member_known : (o : Option (MemberState S)) (nodes registers i : ℕ) (is_calm : Bool) (x : Lcg) → slice_get g.members i ≡ o
        → IfSome (option_map_or (member_act core nodes registers is_calm i x) o (None, x)).0 IsKnown
    member_known None nodes registers i is_calm x at = tt
    member_known (Some m) nodes registers i is_calm x at =
        act_known (core.phase m.core) nodes registers i (first_gap m.journal) (core.can_enter m.core) is_calm x
        (λ known. subst (λ (o : Option (MemberState S)). IsReadableBy o) (sym at) known)

    acted_known : (nodes registers : ℕ) (is_calm : Bool) (chance : ℕ) (x : Lcg) → IfSome (acted core g.members nodes registers is_calm chance x).0 IsKnown
    acted_known nodes registers is_calm chance x =
        let i = actor core g.members nodes chance (word x % nodes) in
        member_known (slice_get g.members i) nodes registers i is_calm (after_words 1 x) refl

    next_known : (conditions : Conditions) (nodes registers : ℕ) (w : StepperState) → IfSome (next_step core conditions g nodes registers w).event IsKnown
    next_known conditions nodes registers w =
        let after = with_words (after_words 1 w.words) w in
        let k = word w.words in
        either_step IsKnown (nat_lt (byte_of k) conditions.repeat) _ _
        (either_step IsKnown (nat_eq w.seen 0) _ _ tt tt)
        (either_step IsKnown (is_delivery (k % 64) (is_empty w.flying)) _ _
        (either_event IsKnown (nat_lt (byte_of (word (after_words 1 after.words))) conditions.loss) _ _ tt tt)
        (acted_known nodes registers (is_empty w.flying) (k % 64) after.words))

  -- ---- what comes of a read

  no_gap : (phase : Phase) (m : MemberState S) (register k : ℕ) → IsReadable phase (first_gap m.journal) → (read_at core register m phase).answer ≡ Err (read.Gap k) → ⊥
  no_gap Idle m register k known e = let bad : ⊥ = cc in bad
  no_gap Waiting m register k known e = let bad : ⊥ = cc in bad
  no_gap (Inside n) m register k known was =
      let done : Quiet (MemberState S) (Result ℕ ReadFault) = record { state = with_draft (with_read register (shown_inside register n m) m.draft) m; answer = Ok (shown_inside register n m) } in
      let free = if nat_le n m.journal.base.upto then refusing m (read.Settled m.journal.base.upto) else done in
      let room = if nat_le 8 (length m.draft.reads) then refusing m read.Full else free in
      let gap = if nat_lt (first_gap m.journal) n then refusing m (read.Gap (first_gap m.journal)) else room in
      cond_case (λ q. q.answer ≡ Err (read.Gap k) → ⊥) (nat_le m.setting.registers register) (refusing m read.NoRegister) gap
      (λ _ e. let bad : ⊥ = cc in bad)
      (λ _. cond_case (λ q. q.answer ≡ Err (read.Gap k) → ⊥) (nat_lt (first_gap m.journal) n) (refusing m (read.Gap (first_gap m.journal))) room
      (λ t _. true≢false (sym t ∙ known))
      (λ _. cond_case (λ q. q.answer ≡ Err (read.Gap k) → ⊥) (nat_le 8 (length m.draft.reads)) (refusing m read.Full) free
      (λ _ e. let bad : ⊥ = cc in bad)
      (λ _. cond_case (λ q. q.answer ≡ Err (read.Gap k) → ⊥) (nat_le n m.journal.base.upto) (refusing m (read.Settled m.journal.base.upto)) done
      (λ _ e. let bad : ⊥ = cc in bad)
      (λ _ e. let bad : ⊥ = cc in bad)))) was

  module _ (g new : ClusterState S M) where
    read_answered : (i register n : ℕ) (o : Option (MemberState S)) → IsReadableBy o → at_member core g (event.Read i register) i (act.Read register) o ≡ Ok new
        → new.trace ≡ g.trace ++ (record { event = event.Read i register; outcome = Refused (cause.Gap n) }) ∷ [] → ⊥
    read_answered i register n None known step told = absurd (err_no_ok NoNode new step)
    read_answered i register n (Some m) known step told =
        let done = answer_of core (act.Read register) m in
        let is : grown g (event.Read i register) i done ≡ new = same_Ok (grown g (event.Read i register) i done) new step in
        let entry : Entry = record { event = event.Read i register; outcome = done.answer } in
        let item : entry ≡ record { event = event.Read i register; outcome = Refused (cause.Gap n) } =
        last_same g.trace entry (record { event = event.Read i register; outcome = Refused (cause.Gap n) }) (ap (λ (x : ClusterState S M). x.trace) is ∙ told) in
        no_gap (core.phase m.core) m register n known
        (gap_told (read_of core register m).answer (length (act_of core (act.Read register) m).letters) n (ap (λ (x : Entry). x.outcome) item))

    answered : (e : Event) (why : Cause) → IsVainRead e why → IsKnown g e → step_of core g e ≡ Ok new
        → new.trace ≡ g.trace ++ (record { event = e; outcome = Refused why }) ∷ [] → ⊥
    answered (event.Read i register) (cause.Gap n) vain known step told = read_answered i register n (slice_get g.members i) known step told
    answered _ _ vain known step told = absurd vain

    -- one event more
    step_kept : (e : Event) → IsKnown g e → step_of core g e ≡ Ok new → HasNoVainRead g.trace → HasNoVainRead new.trace
    step_kept e known step before entry why h is vain =
        let note = noted core g e new step in
        elim (in_append entry g.trace ((record { event = e; outcome = note.0 }) ∷ []) (subst (λ (t : List Entry). IsIn entry t) note.1 h)) [
          | inl old ↦ before entry why old is vain
          | inr (inl same) ↦
              let refused : note.0 ≡ Refused why = ap (λ (x : Entry). x.outcome) (sym same) ∙ is in
              answered e why (subst (λ (x : Entry). IsVainRead x.event why) same vain) known step
              (subst (λ (x : Outcome). new.trace ≡ g.trace ++ (record { event = e; outcome = x }) ∷ []) refused note.1)
          | inr (inr bad) ↦ absurd bad
        ]

  -- ---- a whole walk

  stay_kept : (g : ClusterState S M) (e : Event) (s : Result (ClusterState S M) StepFault) → step_of core g e ≡ s → IsKnown g e → HasNoVainRead g.trace
      → HasNoVainRead (or_stay g s).trace
  stay_kept g e (Err fault) is known before = before
  stay_kept g e (Ok new) is known before = step_kept g new e known is before

  placed_kept : (g : ClusterState S M) (o : Option Event) → IfSome o (IsKnown g) → HasNoVainRead g.trace → HasNoVainRead (after_placed core g o).trace
  placed_kept g None known before = before
  placed_kept g (Some e) known before = stay_kept g e (step_of core g e) refl known before

  module _ (nodes registers : ℕ) where
    walk_kept : (conditions : Conditions) (steps : ℕ) (w : StepperState) (g : ClusterState S M) → HasNoVainRead g.trace
        → HasNoVainRead (ran core (Some conditions) nodes registers steps w g).trace
    unfolding ran
    walk_kept conditions zero w g before = before
    walk_kept conditions (suc steps) w g before =
        let s = next_of core (Some conditions) g nodes registers w in
        walk_kept conditions steps s.after (after_placed core g s.event)
        (placed_kept g s.event (next_known g conditions nodes registers (looked (length g.sent) w)) before)

    run_kept : (conditions : Option Conditions) (steps : ℕ) (w : StepperState) (g new : ClusterState S M) → ran core conditions nodes registers steps w g ≡ new
        → AddsNoVainRead conditions g.trace new.trace
    run_kept None steps w g new is = tt
    run_kept (Some conditions) steps w g new is = λ before. subst (λ (x : ClusterState S M). HasNoVainRead x.trace) is (walk_kept conditions steps w g before)

    -- the same of a run that may have failed
    pub reads_if : {A E : Type 0} (conditions : Option Conditions) (steps : ℕ) (w : StepperState) (g new : ClusterState S M) (r : Result A E)
        → OnOk r (ran core conditions nodes registers steps w g ≡ new) → OnOk r (AddsNoVainRead conditions g.trace new.trace)
    reads_if conditions steps w g new (Ok done) is = run_kept conditions steps w g new is
    reads_if conditions steps w g new (Err fault) is = tt
