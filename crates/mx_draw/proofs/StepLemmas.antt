-- The steps of a walk: whom they name, and the next one.
use Rattle.std.proofs.Common.{◌≡◌, ◌∙◌, ◌<◌, ◌+◌, ◌-◌, ◌%◌, ◌||◌, ◌≤◌, ◌≢◌, max, min, ℕ, zero, suc, Bool, true, false, nat_lt, nat_eq, Option, Some, None, IfSome, List, ap, arith, length, refl, slice_get, sym}
use Rattle.std.proofs.Math.Nat.{mod-lt}
use Rattle.std.specs.Option.{option_map_or}
use Rattle.std.specs.Prelude.{if◌then◌else◌, slice_index_or}
use Rattle.std.proofs.lemmas.Bool.Decides.{nat_tests}
use Rattle.rand_pcg.specs.Lcg.{Lcg}
use Rattle.rand_pcg.specs.Pcg.{pcg32}
use Rattle.mx_stamps.proofs.Choices.{cond_false, cond_true}
use Rattle.mx_nodelaws.specs.Core.{Core}
use Rattle.mx_nodelaws.specs.declared.phase.Phase.{Phase}
use Rattle.mx_nodelaws.specs.declared.phase.Phase.TheVariants.{Idle, Waiting, Inside}
use Rattle.mx_member.specs.Member.{MemberState}
use Rattle.mx_events.specs.declared.event.Event.{Event}
use Rattle.mx_events.specs.declared.event.Event.TheVariants.{Deliver}
use Rattle.mx_network.specs.Step.{ClusterState}
use Rattle.mx_events.specs.Arguments.{IsWithin}
use Rattle.mx_explorer.specs.Drawn.{after_words, word}
use Rattle.mx_cli.specs.declared.request.Conditions.{Conditions}
use Rattle.mx_draw.specs.Walk.{Draw, Step, StepperState, act_by, acted, actor, byte_of, chosen, is_delivery, idle_by, is_empty, with_words, inside_by, is_ready_at, member_act, next_step, own_step, repeated, step_by, taken_up, without, ready_from, waiting_by}

-- what holds of both holds of the one that is chosen
module _ (P : Event → Type 0) where
  pub either : (b : Bool) (x y : Draw) → IfSome x.0 P → IfSome y.0 P → IfSome (if b then x else y).0 P
  either true x y first second = first
  either false x y first second = second

  pub either_event : (b : Bool) (x y : Option Event) → IfSome x P → IfSome y P → IfSome (if b then x else y) P
  either_event true x y first second = first
  either_event false x y first second = second

  pub either_step : (b : Bool) (x y : Step) → IfSome x.event P → IfSome y.event P → IfSome (if b then x else y).event P
  either_step true x y first second = first
  either_step false x y first second = second

module _ (nodes registers : ℕ) where
  abbrev Within : Event → Type 0
  Within = IsWithin nodes registers

  abbrev Named : Option Event → Type 0
  Named o = IfSome o Within

  either_node : (b : Bool) (i j : ℕ) → i < nodes → j < nodes → (if b then i else j) < nodes
  either_node true i j first second = first
  either_node false i j first second = second

  module _ (n : 0 < nodes) (r : 0 < registers) where
    idle_named : (k i gapless : ℕ) (g : Lcg) → i < nodes → Named (idle_by k nodes i gapless g).0
    idle_named k i gapless g lt =
        either Within (nat_lt k 2) _ _ (lt, tt) (either Within (nat_eq k 2) _ _ (lt, (mod-lt (word g) n, tt)) (either Within (nat_eq k 3) _ _ (lt, (tt, tt)) tt))

    waiting_named : (k i : ℕ) (may_enter is_calm : Bool) → i < nodes → Named (waiting_by k i may_enter is_calm)
    waiting_named k i may_enter is_calm lt =
        either_event Within (nat_eq k 0) _ _ (lt, tt) (either_event Within may_enter _ _ (lt, tt) (either_event Within (nat_lt k 4 || is_calm) _ _ (lt, tt) tt))

    inside_named : (k i : ℕ) (has_gap : Bool) (g : Lcg) → i < nodes → Named (inside_by k nodes registers i has_gap g).0
    inside_named k i has_gap g lt =
        either Within has_gap _ _ (lt, (mod-lt (i + 1 + word g % max (nodes - 1) 1) n, tt))
        (either Within (nat_lt k 5) _ _ (lt, (mod-lt (word g) r, tt))
        (either Within (nat_lt k 10) _ _ (lt, (mod-lt (word g) r, (tt, tt))) (lt, tt)))

    act_named : (phase : Phase) (i gap : ℕ) (may_enter is_calm : Bool) (g : Lcg) → i < nodes → Named (act_by phase nodes registers i gap may_enter is_calm g).0
    act_named Idle i gap may_enter is_calm g lt = idle_named (word g % 16) i (gap - 1) (after_words 1 g) lt
    act_named Waiting i gap may_enter is_calm g lt = waiting_named (word g % 64) i may_enter is_calm lt
    act_named (Inside k) i gap may_enter is_calm g lt = inside_named (word g % 16) i (nat_lt gap k) (after_words 1 g) lt

    module _ {H S M : Type 0} (core : Core H S M) where
      node_named : (o : Option (MemberState S)) (is_calm : Bool) (i : ℕ) (g : Lcg) → i < nodes
          → Named (option_map_or (member_act core nodes registers is_calm i g) o (None, g)).0
      node_named None is_calm i g lt = tt
      node_named (Some m) is_calm i g lt = act_named (core.phase m.core) i _ (core.can_enter m.core) is_calm g lt

      ready_below : (members : List (MemberState S)) (any offset left : ℕ) → any < nodes → ready_from core members nodes any offset left < nodes
      unfolding ready_from
      ready_below members any offset zero lt = lt
      ready_below members any offset (suc left) lt =
          either_node (is_ready_at core members ((any + offset) % nodes)) _ _ (mod-lt (any + offset) n) (ready_below members any (offset + 1) left lt)

      acted_named : (members : List (MemberState S)) (is_calm : Bool) (chance : ℕ) (g : Lcg) → Named (acted core members nodes registers is_calm chance g).0
      acted_named members is_calm chance g =
          let any : word g % nodes < nodes = mod-lt (word g) n in
          let node : actor core members nodes chance (word g % nodes) < nodes = either_node (nat_lt chance 4) _ _ any (ready_below members (word g % nodes) 0 nodes any) in
          node_named (slice_get members (actor core members nodes chance (word g % nodes))) is_calm _ (after_words 1 g) node

      -- the event of the next step names nodes and registers that are there
      pub next_named : (conditions : Conditions) (g : ClusterState S M) (w : StepperState) → IfSome (next_step core conditions g nodes registers w).event (IsWithin nodes registers)
      next_named conditions g w =
          let after = with_words (after_words 1 w.words) w in
          let k = word w.words in
          either_step Within (nat_lt (byte_of k) conditions.repeat) _ _
          (either_step Within (nat_eq w.seen 0) _ _ tt (tt, tt))
          (either_step Within (is_delivery (k % 64) (is_empty w.flying)) _ _
          (either_event Within (nat_lt (byte_of (word (after_words 1 after.words))) conditions.loss) _ _ tt (tt, tt))
          (acted_named g.members (is_empty w.flying) (k % 64) after.words))

-- where a parcel is delivered, one is under way
pub is_there : (chance : ℕ) (is_calm : Bool) → is_delivery chance is_calm ≡ true → is_calm ≡ false
is_there chance true is = cc
is_there chance false is = refl

-- the nodes of a ring, one after another
module _ {H S M : Type 0} (core : Core H S M) (members : List (MemberState S)) (nodes any offset : ℕ) where
  pub ready_more : offset < nodes → is_ready_at core members ((any + offset) % nodes) ≡ false
      → ready_from core members nodes any (offset + 1) (nodes - (offset + 1)) ≡ ready_from core members nodes any offset (nodes - offset)
  unfolding ready_from
  ready_more lt out =
      let left : nodes - offset ≡ suc (nodes - (offset + 1)) = omega (arith, lt) in
      sym (ap (λ (k : ℕ). ready_from core members nodes any offset k) left ∙ cond_false (is_ready_at core members ((any + offset) % nodes)) _ _ out)

  pub ready_there : offset < nodes → is_ready_at core members ((any + offset) % nodes) ≡ true
      → (any + offset) % nodes ≡ ready_from core members nodes any offset (nodes - offset)
  unfolding ready_from
  ready_there lt in_place =
      let left : nodes - offset ≡ suc (nodes - (offset + 1)) = omega (arith, lt) in
      sym (ap (λ (k : ℕ). ready_from core members nodes any offset k) left ∙ cond_true (is_ready_at core members ((any + offset) % nodes)) _ _ in_place)

  pub ready_end : nodes ≤ offset → any ≡ ready_from core members nodes any offset (nodes - offset)
  unfolding ready_from
  ready_end le =
      let over : nodes - offset ≡ 0 = omega (arith, le) in
      sym (ap (λ (k : ℕ). ready_from core members nodes any offset k) over)

-- the state of a walk, by its parts
abbrev pub with_flying : Lcg → List ℕ → ℕ → StepperState
with_flying words flying seen = record { words = words; flying = flying; seen = seen }

-- nothing happens
abbrev pub nothing : StepperState → Step
nothing w = record { event = None; after = w }

-- a parcel is delivered
abbrev pub delivers : ℕ → Lcg → StepperState → Step
delivers k x w = record { event = Some (Deliver k); after = with_words x w }

-- what the next step is, by the words that are drawn
module _ {H S M : Type 0} (core : Core H S M) (conditions : Conditions) (g : ClusterState S M) where
  module _ (nodes registers n : ℕ) (x : Lcg) (w : StepperState) (drawn : (n, x) ≡ pcg32 w.words) where
    next_by : next_step core conditions g nodes registers w ≡ step_by core conditions g nodes registers n (with_words x w)
    next_by = sym (ap (λ (p : ℕ × Lcg). step_by core conditions g nodes registers p.0 (with_words p.1 w)) drawn)

    pub next_repeats : byte_of n < conditions.repeat → next_step core conditions g nodes registers w ≡ repeated core conditions g.sent (with_words x w)
    next_repeats lt =
        let more : nat_lt (byte_of n) conditions.repeat ≡ true = grind (arith, nat_tests, lt) in
        next_by ∙ cond_true (nat_lt (byte_of n) conditions.repeat) _ _ more

    pub next_takes : conditions.repeat ≤ byte_of n → is_delivery (n % 64) (is_empty w.flying) ≡ true
        → next_step core conditions g nodes registers w ≡ taken_up core conditions g.sent (with_words x w)
    next_takes le there =
        let less : nat_lt (byte_of n) conditions.repeat ≡ false = grind (arith, nat_tests, le) in
        next_by ∙ cond_false (nat_lt (byte_of n) conditions.repeat) _ _ less ∙ cond_true (is_delivery (n % 64) (is_empty w.flying)) _ _ there

    pub next_acts : conditions.repeat ≤ byte_of n → is_delivery (n % 64) (is_empty w.flying) ≡ false
        → next_step core conditions g nodes registers w ≡ own_step core conditions (acted core g.members nodes registers (is_empty w.flying) (n % 64) x) (with_words x w)
    next_acts le out =
        let less : nat_lt (byte_of n) conditions.repeat ≡ false = grind (arith, nat_tests, le) in
        next_by ∙ cond_false (nat_lt (byte_of n) conditions.repeat) _ _ less ∙ cond_false (is_delivery (n % 64) (is_empty w.flying)) _ _ out

  -- a parcel is repeated, or there is none
  pub repeats_nothing : (w : StepperState) → w.seen ≡ 0 → repeated core conditions g.sent w ≡ nothing w
  repeats_nothing w zeroed = cond_true (nat_eq w.seen 0) _ _ (grind (arith, nat_tests, zeroed))

  pub repeats_one : (w : StepperState) (n number : ℕ) (x : Lcg) → (n, x) ≡ pcg32 w.words → w.seen ≢ 0
      → number ≡ chosen core conditions g.sent w.flying (w.seen - 1 - n % min w.seen 64) → repeated core conditions g.sent w ≡ delivers number x w
  repeats_one w n number x drawn more is =
      let less : nat_eq w.seen 0 ≡ false = grind (arith, nat_tests, more) in
      cond_false (nat_eq w.seen 0) _ _ less
      ∙ sym (ap (λ (p : ℕ × Lcg). delivers (chosen core conditions g.sent w.flying (w.seen - 1 - p.0 % min w.seen 64)) p.1 w) drawn)
      ∙ ap (λ (k : ℕ). delivers k x w) (sym is)

  -- a parcel is taken up
  abbrev pub lands : StepperState → ℕ → ℕ × Lcg → Step
  lands w k q = record {
    event = if nat_lt (byte_of q.0) conditions.loss then None else Some (Deliver k);
    after = record { words = q.1; flying = without k w.flying; seen = w.seen };
  }

  pub takes_up : (w : StepperState) (n m number : ℕ) (x y : Lcg) → (n, x) ≡ pcg32 w.words → (m, y) ≡ pcg32 x
      → number ≡ chosen core conditions g.sent w.flying (slice_index_or w.flying (n % length w.flying) 0) → taken_up core conditions g.sent w ≡ lands w number (m, y)
  takes_up w n m number x y first second is =
      sym (ap (λ (p : ℕ × Lcg). lands w (chosen core conditions g.sent w.flying (slice_index_or w.flying (p.0 % length w.flying) 0)) (pcg32 p.1)) first)
      ∙ sym (ap (λ (p : ℕ × Lcg). lands w (chosen core conditions g.sent w.flying (slice_index_or w.flying (n % length w.flying) 0)) p) second)
      ∙ ap (λ (k : ℕ). lands w k (m, y)) (sym is)

  pub is_lost : (w : StepperState) (k : ℕ) (q : ℕ × Lcg) → byte_of q.0 < conditions.loss → None ≡ (lands w k q).event
  is_lost w k q lt =
      let more : nat_lt (byte_of q.0) conditions.loss ≡ true = grind (arith, nat_tests, lt) in
      sym (cond_true (nat_lt (byte_of q.0) conditions.loss) _ _ more)

  pub is_landed : (w : StepperState) (k : ℕ) (q : ℕ × Lcg) → conditions.loss ≤ byte_of q.0 → Some (Deliver k) ≡ (lands w k q).event
  is_landed w k q le =
      let less : nat_lt (byte_of q.0) conditions.loss ≡ false = grind (arith, nat_tests, le) in
      sym (cond_false (nat_lt (byte_of q.0) conditions.loss) _ _ less)
