-- Fail and Grant keep a world sound, by an induction over their parts.
use Rattle.std.proofs.Common.{ℕ, zero, suc, ◌<◌, ◌≤◌, ◌≡◌, ◌≢◌, inl, inr, true, List, [], ◌++◌, Option, Some, None, slice_set, nat_lt, refl, sym, ◌∙◌, ap, subst, arith}
use Rattle.std.proofs.lemmas.Option.{same_Some}
use Rattle.std.proofs.lemmas.List.{length-set}
use Rattle.mx_stamps.specs.declared.stamp.Stamp.{Stamp}
use Rattle.mx_stamps.specs.Lists.{IsIn}
use Rattle.mx_stamps.proofs.Lists.{dec_eq, get_set_same, none_is_no_some}
use Rattle.mx_stamps.proofs.Choices.{cond_case}
use Rattle.mx_stamps.specs.Numbers.{last_number}
use Rattle.mx_letters.specs.declared.maekawa.MaekawaMsg.{MaekawaMsg}
use Rattle.mx_nodelaws.specs.World.{Done, becoming, IsNode, after}
use Rattle.mx_nodelaws.proofs.Worlds.{nothing_kept, after_twice}
use Rattle.mx_nodelaws.specs.declared.phase.Phase.TheVariants.{Waiting}
use Rattle.mx_nodelaws.specs.Phases.{is_busy}
use Rattle.mx_maekawa.specs.declared.lock.Lock.{Lock}
use Rattle.mx_maekawa.specs.Node.{RequesterState, Node}
use Rattle.mx_maekawa.specs.RequesterStep.{held_at, remembered_at, giving, give_remembered, give_below, failing, fail}
use Rattle.mx_maekawa.specs.ArbiterStep.{locked, least_of, waiting_at, grant_to, grant_in, grant}
use Rattle.mx_maekawa.specs.Step.{by_requester, by_arbiter}
use Rattle.mx_maekawa.specs.Good.{NodeWorld, HasNoOverdueInquiry, IsSound}
use Rattle.mx_maekawa.specs.laws.Places.{get_or_other, get_or_set_none, emptied}
use Rattle.mx_maekawa.specs.laws.Parts.{aside_sound}
use Rattle.mx_maekawa.specs.laws.Changes.{IsSendable}
use Rattle.mx_maekawa.specs.laws.LockParts.{granted_sound}
use Rattle.mx_maekawa.specs.laws.GrantParts.{gave_sound}

-- parts of the state that giving back does not change
giving_phase : (o : Option ℕ) (r : RequesterState) (b : ℕ) → (giving o r b).state.phase ≡ r.phase
giving_phase None r b = refl
giving_phase (Some g) r b = refl

giving_count : (o : Option ℕ) (r : RequesterState) (b : ℕ) → (giving o r b).state.count ≡ r.count
giving_count None r b = refl
giving_count (Some g) r b = refl

remembered_gone : (o : Option ℕ) (r : RequesterState) (b : ℕ) → remembered_at r b ≡ o
    → remembered_at (giving o r b).state b ≡ None
remembered_gone None r b h = h
remembered_gone (Some g) r b h = get_or_set_none r.remembered b

remembered_other : (o : Option ℕ) (r : RequesterState) (b c : ℕ) → c ≢ b
    → remembered_at (giving o r b).state c ≡ remembered_at r c
remembered_other None r b c ne = refl
remembered_other (Some g) r b c ne = get_or_other r.remembered b c None None ne

pub give_phase : (n : ℕ) (r : RequesterState) → (give_below n r).state.phase ≡ r.phase
give_phase zero r = refl
give_phase (suc n) r =
    let x = (give_below n r).state in giving_phase (remembered_at x n) x n ∙ give_phase n r

pub give_count : (n : ℕ) (r : RequesterState) → (give_below n r).state.count ≡ r.count
give_count zero r = refl
give_count (suc n) r =
    let x = (give_below n r).state in giving_count (remembered_at x n) x n ∙ give_count n r

-- no inquiry of the arbiters below n is remembered any more
give_clears : (n : ℕ) (r : RequesterState) (b : ℕ) → b < n → remembered_at (give_below n r).state b
    ≡ None
give_clears zero r b lt = absurd (omega arith)
give_clears (suc n) r b lt =
    let x = (give_below n r).state in
    elim (dec_eq b n) [
      | inl e ↦ subst (λ k. remembered_at (giving (remembered_at x n) x n).state k ≡ None) (sym e)
          (remembered_gone (remembered_at x n) x n refl)
      | inr ne ↦ remembered_other (remembered_at x n) x n b ne ∙ give_clears n r b (omega arith)
    ]

module _ (i : ℕ) where
  pub now_is : {A : Type 0} (w : NodeWorld) (s : Node) (done : Done Node A MaekawaMsg)
      → IsNode w i s → IsNode (after w i done) i done.state
  now_is w s done at = get_set_same w.nodes i s done.state at

  still_sound : (w : NodeWorld) (s : Node) → IsSound w → IsNode w i s
      → IsSound (after w i (becoming s))
  still_sound w s good at = nothing_kept {A = Unit {0}} IsSound w i s tt good at

  -- two parts, one after the other
  pub both_sound : {A B : Type 0} (w : NodeWorld) (first : Done Node A MaekawaMsg)
      (second : Done Node B MaekawaMsg) → IsSound (after (after w i first) i second)
      → IsSound (after w i (record {
        state = second.state;
        answer = second.answer;
        letters = first.letters ++ second.letters;
      }))
  both_sound w first second sound = subst (λ x. IsSound x) (after_twice w i first second) sound

  giving_sound : (w : NodeWorld) (s : Node) (b : ℕ) (o : Option ℕ) → IsSound w → IsNode w i s
      → s.requester.phase ≡ Waiting → b < 21 → remembered_at s.requester b ≡ o
      → IsSound (after w i (by_requester s (giving o s.requester b)))
  giving_sound w s b None good at waiting lt was = still_sound w s good at
  giving_sound w s b (Some g) good at waiting lt was =
      let ok = good.nodes i s at in
      let has : held_at s.requester b ≡ Some g = ok.remembered_held b g was in
      let held = ok.held (ap is_busy waiting) b g has in
      gave_sound w i s good at {A = Unit {0}} tt b g g (slice_set s.requester.held b None)
      (slice_set s.requester.remembered b None) (slice_set s.requester.failed b true) lt waiting
      (length-set s.requester.held b None ∙ ok.held_places)
      (λ c y h. emptied s.requester.held b c y h)
      (λ c y h ne. get_or_other s.requester.held b c None None ne ∙ h)
      (λ c y h. let p = emptied s.requester.remembered b c y h in
      get_or_other s.requester.held b c None None p.1 ∙ ok.remembered_held c y p.0)
      (let k = held.back in omega arith)
      (λ h was_h. let k : h ≡ g = same_Some h g (sym was_h ∙ has) in omega arith)
      (omega arith)

  give_sound : (n : ℕ) (w : NodeWorld) (s : Node) → IsSound w → IsNode w i s → s.requester.phase
      ≡ Waiting → n ≤ 21 → IsSound (after w i (by_requester s (give_below n s.requester)))
  give_sound zero w s good at waiting few = still_sound w s good at
  give_sound (suc n) w s good at waiting few =
      let first = by_requester s (give_below n s.requester) in
      let x = first.state in
      let before : IsSound (after w i first) = give_sound n w s good at waiting (omega arith) in
      let second = by_requester x (give_remembered n x.requester) in
      both_sound w first second (giving_sound (after w i first) x n
      (remembered_at x.requester n) before (now_is w s first at)
      (give_phase n s.requester ∙ waiting) (omega arith) refl)

  pub failed_sound : (w : NodeWorld) (s : Node) (a : ℕ) → IsSound w → IsNode w i s
      → s.requester.phase ≡ Waiting → IsSound (after w i (by_requester s (fail a s.requester)))
  failed_sound w s a good at waiting =
      let ok = good.nodes i s at in
      let first = by_requester s (becoming (failing s.requester a)) in
      let sound : IsSound (after w i first) =
      aside_sound w i s good at {A = Unit {0}} tt
      (slice_set s.requester.failed a true) s.requester.remembered s.requester.highest s.arbiter.waiting s.arbiter.ended s.arbiter.last [] ok.remembered_held (omega arith) (omega arith) ok.last_reached (λ b m none. absurd none) in
      let second = by_requester first.state (give_below s.requester.count first.state.requester) in
      both_sound w first second (give_sound s.requester.count (after w i first) first.state sound
      (now_is w s first at) waiting ok.placed.few)

  -- after Fail no inquiry is remembered
  pub failed_none_overdue : (w : NodeWorld) (s : Node) (n : ℕ) → IsSound w → IsNode w i s
      → s.requester.phase ≡ Waiting → (r : RequesterState) → n ≡ s.requester.count → s.requester
      ≡ (give_below n r).state → HasNoOverdueInquiry s.requester
  failed_none_overdue w s n good at waiting r count is a g b lt was =
      let ok = good.nodes i s at in
      let own = (ok.held (ap is_busy waiting) a g (ok.remembered_held a g was)).own in
      let few : a < s.requester.count = ok.placed.own_few a own in
      absurd (none_is_no_some g (sym (give_clears n r a (omega arith))
      ∙ subst (λ x. remembered_at x a ≡ Some g) is was))

  grant_to_sound : (w : NodeWorld) (s : Node) (o : Option Stamp) → IsSound w → IsNode w i s
      → s.arbiter.lock ≡ None → IsSound (after w i (by_arbiter s (grant_to o s.arbiter)))
  grant_to_sound w s None good at free = still_sound w s good at
  grant_to_sound w s (Some u) good at free =
      cond_case (λ d. IsSound (after w i (by_arbiter s d))) (nat_lt s.arbiter.granted last_number)
      (locked s.arbiter u) (becoming s.arbiter)
      (λ _. granted_sound w i s good at {A = Unit {0}} tt u free) (λ _. still_sound w s good at)

  grant_in_sound : (w : NodeWorld) (s : Node) (o : Option Lock) → IsSound w → IsNode w i s
      → s.arbiter.lock ≡ o → IsSound (after w i (by_arbiter s (grant_in o s.arbiter)))
  grant_in_sound w s None good at is =
      grant_to_sound w s (least_of (waiting_at s.arbiter) s.arbiter.count) good at is
  grant_in_sound w s (Some lock) good at is = still_sound w s good at

  pub grant_sound : (w : NodeWorld) (s : Node) → IsSound w → IsNode w i s
      → IsSound (after w i (by_arbiter s (grant s.arbiter)))
  grant_sound w s good at = grant_in_sound w s s.arbiter.lock good at refl

  -- a part that only sends letters
  pub sends_sound : {A : Type 0} (w : NodeWorld) (s : Node) (answer : A)
      (letters : List (ℕ × MaekawaMsg)) (good : IsSound w) (at : IsNode w i s)
      → ((b : ℕ) (m : MaekawaMsg) → IsIn {X = ℕ × MaekawaMsg} (b, m) letters
      → IsSendable w i s s b m) → IsSound (after w i
      (record { state = s; answer = answer; letters = letters }))
  sends_sound {A} w s answer letters good at may =
      let ok = good.nodes i s at in
      aside_sound w i s good at {A =
      A} answer s.requester.failed s.requester.remembered s.requester.highest s.arbiter.waiting s.arbiter.ended s.arbiter.last letters ok.remembered_held (omega arith) (omega arith) ok.last_reached may
