-- A walk: what happens next in a cluster, by the words (32-bit numbers) of a generator.
use Rattle.std.specs.Prelude.{ℕ, zero, suc, ◌+◌, ◌-◌, ◌*◌, ◌/◌, ◌%◌, ◌&&◌, ◌||◌, Bool, false, not, List, [], ◌∷◌, ◌++◌, Option, Some, None, length, max, min, nat_eq, nat_lt, position, slice_get, slice_index_or, if◌then◌else◌}
use Rattle.std.specs.List.{range_with_len, swap_remove}
use Rattle.std.specs.Option.{option_map_or}
use Rattle.rand_pcg.specs.Lcg.{Lcg}
use Rattle.mx_nodelaws.specs.Core.{Core}
use Rattle.mx_nodelaws.specs.declared.phase.Phase.{Phase}
use Rattle.mx_nodelaws.specs.declared.phase.Phase.TheVariants.{Idle, Waiting, Inside}
use Rattle.mx_member.specs.Member.{MemberState, first_gap}
use Rattle.mx_member.specs.declared.parcel.Parcel.{Parcel}
use Rattle.mx_events.specs.declared.event.Event.{Event}
use Rattle.mx_events.specs.declared.event.Event.TheVariants.{Ask, Enter, Read, Write, Leave, Cancel, Tick, Want, Settle, Deliver}
use Rattle.mx_network.specs.Step.{ClusterState}
use Rattle.mx_explorer.specs.Drawn.{after_words, word}
use Rattle.mx_explorer.specs.Weather.{generator_of}
use Rattle.mx_cli.specs.declared.request.Conditions.{Conditions}
use Rattle.mx_driver.specs.Standstill.{is_ready}
use Rattle.mx_draw.specs.declared.stepper.Stepper.{Stepper}

-- ---- what a node does by itself

-- an event, if there is one, and the generator after it
abbrev pub Draw : Type 0
Draw = Option Event × Lcg

-- what an idle node does, by the number n: it asks, wants a node's records, settles up to its first
-- gap, or does nothing
abbrev pub idle_by : ℕ → ℕ → ℕ → ℕ → Lcg → Draw
idle_by n nodes i gapless g =
    if nat_lt n 2 then (Some (Ask i), g)
    else if nat_eq n 2 then (Some (Want i (word g % nodes)), after_words 1 g)
    else if nat_eq n 3 then (Some (Settle i gapless), g)
    else (None, g)

-- what a waiting node does, by the number n: it cancels; or else enters, if it may; or else ticks,
-- always if no parcel is under way; or else does nothing
abbrev pub waiting_by : ℕ → ℕ → Bool → Bool → Option Event
waiting_by n i may_enter is_calm =
    if nat_eq n 0 then Some (Cancel i)
    else if may_enter then Some (Enter i)
    else if nat_lt n 4 || is_calm then Some (Tick i)
    else None

-- a node other than node i, by the number n; node i itself, if it is alone
abbrev pub other_by : ℕ → ℕ → ℕ → ℕ
other_by n nodes i = (i + 1 + n % max (nodes - 1) 1) % nodes

-- what a node inside does, by the number n: while its journal lacks an earlier section, it wants
-- another node's records; or else it reads, writes or leaves
abbrev pub inside_by : ℕ → ℕ → ℕ → ℕ → Bool → Lcg → Draw
inside_by n nodes registers i has_gap g =
    if has_gap then (Some (Want i (other_by (word g) nodes i)), after_words 1 g)
    else if nat_lt n 5 then (Some (Read i (word g % registers)), after_words 1 g)
    else if nat_lt n 10 then
    (Some (Write i (word g % registers) (word (after_words 1 g) % 1000)), after_words 2 g)
    else (Some (Leave i), g)

-- what a node does, by its phase, by the first section that its journal lacks, and by a word of the
-- generator
abbrev pub act_by : Phase → ℕ → ℕ → ℕ → ℕ → Bool → Bool → Lcg → Draw
act_by Idle nodes registers i gap may_enter is_calm g =
    idle_by (word g % 16) nodes i (gap - 1) (after_words 1 g)
act_by Waiting nodes registers i gap may_enter is_calm g =
    (waiting_by (word g % 64) i may_enter is_calm, after_words 1 g)
act_by (Inside n) nodes registers i gap may_enter is_calm g =
    inside_by (word g % 16) nodes registers i (nat_lt gap n) (after_words 1 g)

-- ---- parcels

-- the k-th parcel goes from node `from` to node `to`
abbrev pub is_on : {P : Type 0} → List (ℕ × ℕ × P) → ℕ → ℕ → ℕ → Bool
is_on sent from to k =
    option_map_or (λ p. nat_eq p.0 from && nat_eq p.1 to) (slice_get sent k) false

-- the least of a number and of the numbers of the parcels under way from one node to another
unfoldable pub oldest_on : {P : Type 0} → List (ℕ × ℕ × P) → ℕ → ℕ → ℕ → List ℕ → ℕ
oldest_on sent from to number [] = number
oldest_on sent from to number (k ∷ ks) =
    let older = oldest_on sent from to number ks in
    if is_on sent from to k then min k older else older

-- the oldest of this parcel and of those under way from and to the same nodes
abbrev pub oldest_beside : {P : Type 0} → List (ℕ × ℕ × P) → List ℕ → ℕ → ℕ
oldest_beside sent flying number =
    option_map_or (λ p. oldest_on sent p.0 p.1 number flying) (slice_get sent number) number

-- the list without this number, if it has the number. The last number takes the empty place
abbrev pub without : ℕ → List ℕ → List ℕ
without number flying =
    option_map_or (λ i. swap_remove flying i (slice_index_or flying i 0))
    (position (nat_eq number) flying) flying

-- the lowest eight bits of a word as a number below 256. The lowest six bits become its highest six
abbrev pub byte_of : ℕ → ℕ
byte_of n = n % 64 * 4 + n / 64 % 4

-- ---- steps

-- what the next event is drawn by: a generator; and, in a walk, the numbers of the parcels under
-- way, and how many parcels were sent at the last look
pub record StepperState : Type 0 where
  pub words : Lcg
  pub flying : List ℕ
  pub seen : ℕ

abbrev pub state_of : Stepper → StepperState
state_of w = record { words = w.words; flying = w.flying.items; seen = w.seen }

-- before the first step
abbrev pub at_first : ℕ → StepperState
at_first seed = record { words = generator_of seed; flying = []; seen = 0 }

-- the walk after a look at the parcels sent: those sent since the last look are under way too
abbrev pub looked : ℕ → StepperState → StepperState
looked sent w =
    record {
      words = w.words;
      flying = w.flying ++ range_with_len w.seen (sent - w.seen);
      seen = sent;
    }

-- the next event, if a step has one, and what the event after it is drawn by
pub record Step : Type 0 where
  pub event : Option Event
  pub after : StepperState

abbrev pub with_words : Lcg → StepperState → StepperState
with_words g w = record { words = g; flying = w.flying; seen = w.seen }

-- no parcel is under way
abbrev pub is_empty : List ℕ → Bool
is_empty flying = nat_eq (length flying) 0

-- a step takes a parcel under way: there is one, and the chance is 4 to 51
abbrev pub is_delivery : ℕ → Bool → Bool
is_delivery chance is_calm = not is_calm && (not (nat_lt chance 4) && nat_lt chance 52)

module _ {H S M : Type 0} (core : Core H S M) where
  abbrev pub is_ready_at : List (MemberState S) → ℕ → Bool
  is_ready_at members i = option_map_or (is_ready core) (slice_get members i) false

  -- the first ready node among this many, from `any + offset` on in cyclic order; or `any`, if
  -- none is ready
  unfoldable pub ready_from : List (MemberState S) → ℕ → ℕ → ℕ → ℕ → ℕ
  ready_from members nodes any offset zero = any
  ready_from members nodes any offset (suc left) =
      if is_ready_at members ((any + offset) % nodes) then (any + offset) % nodes
      else ready_from members nodes any (offset + 1) left

  abbrev pub member_act : ℕ → ℕ → Bool → ℕ → Lcg → MemberState S → Draw
  member_act nodes registers is_calm i g m =
      act_by (core.phase m.core) nodes registers i (first_gap m.journal) (core.can_enter m.core)
      is_calm g

  abbrev pub node_act : List (MemberState S) → ℕ → ℕ → Bool → ℕ → Lcg → Draw
  node_act members nodes registers is_calm i g =
      option_map_or (member_act nodes registers is_calm i g) (slice_get members i) (None, g)

  -- the node that acts: `any` if the chance is below 4, else the first ready one from `any` on
  abbrev pub actor : List (MemberState S) → ℕ → ℕ → ℕ → ℕ
  actor members nodes chance any =
      if nat_lt chance 4 then any else ready_from members nodes any 0 nodes

  -- what the node that acts does: `actor` finds this node from the one that a word draws
  abbrev pub acted : List (MemberState S) → ℕ → ℕ → Bool → ℕ → Lcg → Draw
  acted members nodes registers is_calm chance g =
      node_act members nodes registers is_calm
      (actor members nodes chance (word g % nodes)) (after_words 1 g)

  module _ (conditions : Conditions) where
    -- this parcel; with `in_order`, the oldest of it and those under way from and to the same nodes
    abbrev pub chosen : List (ℕ × ℕ × Parcel M) → List ℕ → ℕ → ℕ
    chosen sent flying number =
        if conditions.in_order then oldest_beside sent flying number else number

    -- a step that delivers one of the newest 64 parcels, perhaps again, or the one `chosen` in its
    -- place; without an event, if no parcel was sent
    abbrev pub repeated : List (ℕ × ℕ × Parcel M) → StepperState → Step
    repeated sent w =
        if nat_eq w.seen 0 then record { event = None; after = w }
        else record {
          event = Some (Deliver
              (chosen sent w.flying (w.seen - 1 - word w.words % min w.seen 64)));
          after = with_words (after_words 1 w.words) w;
        }

    -- a step after which this parcel is not under way: by a word, it is lost or delivered
    abbrev pub landed : ℕ → Lcg → StepperState → Step
    landed number g w = record {
      event =
          if nat_lt (byte_of (word g)) conditions.loss then None else Some (Deliver number);
      after =
          record { words = after_words 1 g; flying = without number w.flying; seen = w.seen };
    }

    -- a step that loses or delivers a parcel under way: one that a word draws, or the one `chosen`
    -- in its place
    abbrev pub taken_up : List (ℕ × ℕ × Parcel M) → StepperState → Step
    taken_up sent w =
        landed
        (chosen sent w.flying (slice_index_or w.flying (word w.words % length w.flying) 0))
        (after_words 1 w.words) w

    -- what a node does by itself, as a step
    abbrev pub own_step : Draw → StepperState → Step
    own_step d w = record { event = d.0; after = with_words d.1 w }

    -- the step for the word n
    abbrev pub step_by : ClusterState S M → ℕ → ℕ → ℕ → StepperState → Step
    step_by g nodes registers n w =
        if nat_lt (byte_of n) conditions.repeat then repeated g.sent w
        else if is_delivery (n % 64) (is_empty w.flying) then taken_up g.sent w
        else own_step
        (acted g.members nodes registers (is_empty w.flying) (n % 64) w.words) w

    abbrev pub next_step : ClusterState S M → ℕ → ℕ → StepperState → Step
    next_step g nodes registers w =
        step_by g nodes registers (word w.words) (with_words (after_words 1 w.words) w)
