-- Each row of the requester keeps a world safe.
use Rattle.std.proofs.Common.{ℕ, ◌<◌, ◌≤◌, ◌+◌, ◌≡◌, inl, inr, true, false, not, ◌&&◌, [], ◌∷◌, Option, Some, None, max, slice_set, nat_eq, nat_lt, refl, sym, ◌∙◌, ap, subst, arith}
use Rattle.std.proofs.lemmas.Option.{same_Some}
use Rattle.std.proofs.lemmas.List.{length-set}
use Rattle.mx_stamps.specs.declared.stamp.Stamp.{Stamp}
use Rattle.mx_stamps.specs.Stamp.{is_same_as}
use Rattle.mx_stamps.proofs.Lists.{dec_eq, get_after, none_is_no_some, get_or_after}
use Rattle.mx_stamps.proofs.Choices.{lt_true, lt_false, eq_true, eq_false, eq_is, not_both, not_true, both_true, and_true, cond_case}
use Rattle.mx_stamps.proofs.Stamps.{same_stamp}
use Rattle.mx_letters.specs.declared.maekawa.MaekawaMsg.{MaekawaMsg}
use Rattle.mx_letters.specs.declared.maekawa.MaekawaMsg.TheVariants.{Locked, Inquire, Relinquish, Release}
use Rattle.mx_nodelaws.specs.World.{Done, becoming, IsNode, WasSent, after}
use Rattle.mx_nodelaws.proofs.Worlds.{nothing_kept}
use Rattle.mx_nodelaws.specs.declared.phase.Phase.TheVariants.{Waiting}
use Rattle.mx_nodelaws.specs.Phases.{is_busy, is_waiting}
use Rattle.mx_nodelaws.proofs.Phases.{waiting_is}
use Rattle.mx_maekawa.specs.Node.{Node}
use Rattle.mx_maekawa.specs.RequesterStep.{RequesterDone, saying, held_at, remembered_at, back_at, has_failed, is_own, holds, has_ended, failing, fail, release_ended, holding, is_current_wait, locked_fresh, locked_current, take_locked, take_failed, has_failed_below, giving_now, remembering, declining, inquired_held, inquired_missing, inquired, take_inquire}
use Rattle.mx_maekawa.specs.Step.{by_requester}
use Rattle.mx_maekawa.specs.Good.{NodeWorld, IsEnded, IsGiven, IsNodeOk, HasNoOverdueInquiry, IsSound, IsSafe}
use Rattle.mx_maekawa.specs.laws.Places.{get_or_other, emptied, set_false}
use Rattle.mx_maekawa.specs.laws.Tests.{some_failed, none_failed, none_of}
use Rattle.mx_maekawa.specs.laws.Safety.{held_lock}
use Rattle.mx_maekawa.specs.laws.Parts.{aside_sound, one_letter}
use Rattle.mx_maekawa.specs.laws.Cascades.{give_phase, give_count, now_is, both_sound, failed_sound, failed_none_overdue, sends_sound}
use Rattle.mx_maekawa.specs.laws.Changes.{IsSendable}
use Rattle.mx_maekawa.specs.laws.GrantParts.{held_sound, gave_sound}

module _ (w : NodeWorld) (i : ℕ) (s : Node) (good : IsSafe w) (at : IsNode w i s) where
  ok_s : IsNodeOk w i s
  ok_s = good.sound.nodes i s at

  none_overdue_s : HasNoOverdueInquiry s.requester
  none_overdue_s = good.none_overdue i s at

  pub safe_of : {A : Type 0} (done : Done Node A MaekawaMsg) → IsSound (after w i done)
      → HasNoOverdueInquiry done.state.requester → IsSafe (after w i done)
  safe_of done sound none_overdue = record {
    sound = sound;
    none_overdue = λ j t tat. elim (get_after w.nodes i j s done.state t at tat) [
      | inl p ↦ subst (λ x. HasNoOverdueInquiry x.requester) (sym p.1) none_overdue
      | inr p ↦ good.none_overdue j t p.1
    ];
  }

  pub still_safe : IsSafe (after w i (becoming s))
  still_safe = nothing_kept {A = Unit {0}} IsSafe w i s tt good at

  -- a step that only sends one letter
  says_safe : (a : ℕ) (m : MaekawaMsg) → IsSendable w i s s a m
      → IsSafe (after w i (by_requester s (saying s.requester a m)))
  says_safe a m may = safe_of {A = Unit {0}} (by_requester s (saying s.requester a m))
      (sends_sound i {A = Unit {0}} w s tt ((a, m) ∷ []) good.sound at
      (one_letter w i s good.sound at s a m may)) none_overdue_s

  -- a letter for an ended stamp

  ended_means : (stamp : Stamp) → stamp.node ≡ i → has_ended s.requester stamp ≡ true
      → IsEnded s.requester stamp.number
  ended_means stamp node h =
      let r = s.requester in
      let p = and_true (not (is_busy r.phase && is_same_as stamp r.ours))
      (nat_lt stamp.number (r.issued + 1)) h in
      let lt = lt_true stamp.number (r.issued + 1) p.1 in (
        omega arith,
        λ busy. elim (dec_eq stamp.number r.issued) [
          | inl e ↦
              let same : is_same_as stamp r.ours ≡ true =
              both_true (nat_eq stamp.number r.ours.number) (nat_eq stamp.node r.ours.node)
              (eq_is stamp.number r.ours.number (e ∙ sym (ok_s.ours_number busy)))
              (eq_is stamp.node r.ours.node (node ∙ sym (ok_s.ours_node busy))) in
              absurd (not_both (is_busy r.phase && is_same_as stamp r.ours)
              (both_true (is_busy r.phase) (is_same_as stamp r.ours) busy same)
              (not_true (is_busy r.phase && is_same_as stamp r.ours) p.0))
          | inr ne ↦ omega arith
        ],
      )

  released_safe : (stamp : Stamp) (a : ℕ) → stamp.node ≡ i
      → IsSafe (after w i (by_requester s (release_ended s.requester stamp a)))
  released_safe stamp a node =
      cond_case (λ d. IsSafe (after w i (by_requester s d))) (has_ended s.requester stamp)
      (saying s.requester a (Release stamp s.requester.top)) (becoming s.requester)
      (λ e. says_safe a (Release stamp s.requester.top)
      (record {
        node = node;
        ended = ended_means stamp node e;
        mine = ok_s.mine_top;
        reached = ok_s.top_reached;
      }))
      (λ _. still_safe)

  current_means : (stamp : Stamp) → is_current_wait s.requester stamp ≡ true
      → (s.requester.phase ≡ Waiting) × (stamp ≡ s.requester.ours)
  current_means stamp e = let p = and_true (is_waiting s.requester.phase)
      (is_same_as stamp s.requester.ours) e in
      (waiting_is s.requester.phase p.0, same_stamp stamp s.requester.ours p.1)

  gives_back : (a : ℕ) (stamp : Stamp) (g : ℕ) → stamp.node ≡ i → s.requester.phase ≡ Waiting
      → stamp ≡ s.requester.ours → IsGiven s.requester a stamp g
      → IsSendable w i s s a (Relinquish stamp g)
  gives_back a stamp g node waiting same given =
      record {
        node = node;
        waiting = waiting;
        number = ap (λ x. x.number) same
            ∙ ok_s.ours_number (ap is_busy waiting);
        given = given;
      }

  -- LOCKED

  fresh_safe : (a : ℕ) (stamp : Stamp) (g c : ℕ) → is_own s.requester a ≡ true → stamp.node ≡ i
      → WasSent w a i (Locked stamp g c) → s.requester.phase ≡ Waiting → stamp ≡ s.requester.ours
      → holds s.requester a ≡ false → IsSafe
      (after w i (by_requester s (locked_fresh a stamp g c s.requester)))
  fresh_safe a stamp g c own node sent waiting same none =
      let r = s.requester in
      let taken = becoming (holding r a g c) in
      cond_case (λ d. IsSafe (after w i (by_requester s d)))
      (nat_lt (back_at r a) g) taken (saying r a (Relinquish stamp g))
      (λ above. safe_of {A = Unit {0}} (by_requester s taken)
      (held_sound w i s good.sound at {A = Unit {0}} tt a g c waiting own
      (none_of (held_at r a) none) (lt_true (back_at r a) g above)
      (subst (λ x. WasSent w a i (Locked x g c)) same sent))
      (λ b h d lt was. set_false r.failed a d (none_overdue_s b h d lt was)))
      (λ old. says_safe a (Relinquish stamp g)
      (gives_back a stamp g node waiting same (inr (inl (lt_false (back_at r a) g old)))))

  pub locked_safe : (a : ℕ) (stamp : Stamp) (g c : ℕ) → is_own s.requester a ≡ true → stamp.node ≡ i
      → WasSent w a i (Locked stamp g c) → IsSafe
      (after w i (by_requester s (take_locked a stamp g c s.requester)))
  locked_safe a stamp g c own node sent =
      let r = s.requester in
      let P : RequesterDone (Unit {0}) → Type 0 = λ d. IsSafe (after w i (by_requester s d)) in
      cond_case P (is_current_wait r stamp) (locked_current a stamp g c r) (release_ended r stamp a)
      (λ e. let p = current_means stamp e in
      cond_case P (holds r a) (becoming r) (locked_fresh a stamp g c r)
      (λ _. still_safe)
      (λ none. fresh_safe a stamp g c own node sent p.0 p.1 none))
      (λ _. released_safe stamp a node)

  -- FAILED

  fail_safe : (a : ℕ) → s.requester.phase ≡ Waiting
      → IsSafe (after w i (by_requester s (fail a s.requester)))
  fail_safe a waiting =
      let done = by_requester s (fail a s.requester) in
      let r = failing s.requester a in
      let sound : IsSound (after w i done) = failed_sound i w s a good.sound at waiting in
      safe_of {A = Unit {0}} done sound
      (failed_none_overdue i (after w i done) done.state s.requester.count sound
      (now_is i w s done at) (give_phase s.requester.count r ∙ waiting) r
      (sym (give_count s.requester.count r)) refl)

  pub failed_safe : (a : ℕ) (stamp : Stamp)
      → IsSafe (after w i (by_requester s (take_failed a stamp s.requester)))
  failed_safe a stamp =
      let r = s.requester in
      cond_case (λ d. IsSafe (after w i (by_requester s d)))
      (is_current_wait r stamp && not (holds r a)) (fail a r) (becoming r)
      (λ e. fail_safe a (current_means stamp
      (and_true (is_current_wait r stamp) (not (holds r a)) e).0).0)
      (λ _. still_safe)

  -- INQUIRE

  missing_safe : (a : ℕ) (stamp : Stamp) (g : ℕ) → s.requester.phase ≡ Waiting → stamp
      ≡ s.requester.ours → is_own s.requester a ≡ true → held_at s.requester a ≡ None
      → IsSafe (after w i (by_requester s (inquired_missing a stamp g s.requester)))
  missing_safe a stamp g waiting same own none =
      let x = max (back_at s.requester a) g in
      let first = by_requester s (saying (declining s.requester a g) a (Relinquish stamp g)) in
      let mid = first.state in
      let few : a < s.requester.count = ok_s.placed.own_few a own in
      let small : s.requester.count ≤ 21 = ok_s.placed.few in
      let none_held : (h : ℕ) → held_at s.requester a ≡ Some h → ⊥ =
      λ h has. none_is_no_some h (sym none ∙ has) in
      let sound : IsSound (after w i first) =
      subst (λ st. IsSound (after w i
      (by_requester s (saying (declining s.requester a g) a (Relinquish st g))))) (sym same)
      (gave_sound w i s good.sound at {A =
      Unit {0}} tt a g x s.requester.held s.requester.remembered s.requester.failed
      (omega arith) waiting ok_s.held_places
      (λ b y h. (h, λ e. none_held y (subst (λ k. held_at s.requester k ≡ Some y) e h)))
      (λ b y h ne. h)
      ok_s.remembered_held
      (omega arith) (λ h has. absurd (none_held h has)) (omega arith)) in
      let mid_at = now_is i w s first at in
      let second = by_requester mid (fail a mid.requester) in
      let sound2 : IsSound (after (after w i first) i second) =
      failed_sound i (after w i first) mid a sound mid_at waiting in
      let done = by_requester s (inquired_missing a stamp g s.requester) in
      let all : IsSound (after w i done) =
      both_sound i {A = Unit {0}} {B = Unit {0}} w first second sound2 in
      let r = failing mid.requester a in
      safe_of {A = Unit {0}} done all
      (failed_none_overdue i (after w i done) done.state s.requester.count all
      (now_is i w s done at) (give_phase s.requester.count r ∙ waiting) r
      (sym (give_count s.requester.count r)) refl)

  gave_now_safe : (a : ℕ) (stamp : Stamp) (g : ℕ) → s.requester.phase ≡ Waiting → stamp
      ≡ s.requester.ours → is_own s.requester a ≡ true → held_at s.requester a ≡ Some g
      → has_failed_below s.requester s.requester.count ≡ true
      → IsSafe (after w i (by_requester s
      (saying (giving_now s.requester a g) a (Relinquish stamp g))))
  gave_now_safe a stamp g waiting same own has failed =
      let few : a < s.requester.count = ok_s.placed.own_few a own in
      let small : s.requester.count ≤ 21 = ok_s.placed.few in
      let some = some_failed s.requester s.requester.count failed in
      let none_remembered : (b y : ℕ) → remembered_at s.requester b ≡ Some y → ⊥ =
      λ b y was. not_both (has_failed s.requester some.0) some.2
      (none_overdue_s b y some.0 some.1 was) in
      let held = ok_s.held (ap is_busy waiting) a g has in
      safe_of {A = Unit {0}} (by_requester s
      (saying (giving_now s.requester a g) a (Relinquish stamp g)))
      (subst (λ st. IsSound (after w i
      (by_requester s (saying (giving_now s.requester a g) a (Relinquish st g))))) (sym same)
      (gave_sound w i s good.sound at {A = Unit {0}} tt a g g
      (slice_set s.requester.held a None) s.requester.remembered
      (slice_set s.requester.failed a true) (omega arith) waiting
      (length-set s.requester.held a None ∙ ok_s.held_places)
      (λ c y h. emptied s.requester.held a c y h)
      (λ c y h ne. get_or_other s.requester.held a c None None ne ∙ h)
      (λ b y was. absurd (none_remembered b y was))
      (let k = held.back in omega arith)
      (λ h was. let k : h ≡ g = same_Some h g (sym was ∙ has) in omega arith)
      (omega arith)))
      (λ b y d lt was. absurd (none_remembered b y was))

  remembered_safe : (a g : ℕ) → held_at s.requester a ≡ Some g
      → has_failed_below s.requester s.requester.count ≡ false
      → IsSafe (after w i (by_requester s (becoming (remembering s.requester a g))))
  remembered_safe a g has none =
      safe_of {A = Unit {0}} (by_requester s (becoming (remembering s.requester a g)))
      (aside_sound w i s good.sound at {A = Unit {0}} tt s.requester.failed
      (slice_set s.requester.remembered a
      (Some g)) s.requester.highest s.arbiter.waiting s.arbiter.ended s.arbiter.last []
      (λ b y was. elim (get_or_after s.requester.remembered a b (Some g) None (Some y) was) [
        | inl p ↦ subst (λ k. held_at s.requester k ≡ Some y) (sym p.0) (has ∙ p.1)
        | inr old ↦ ok_s.remembered_held b y old
      ])
      (omega arith) (omega arith) ok_s.last_reached (λ b m no_letter. absurd no_letter))
      (λ b y d lt was. none_failed s.requester s.requester.count none d lt)

  -- a grant that is asked back is no later than the one that is held
  asked_below : (a : ℕ) (stamp : Stamp) (g h : ℕ) → s.requester.phase ≡ Waiting
      → is_own s.requester a ≡ true → held_at s.requester a ≡ Some h
      → WasSent w a i (Inquire stamp g) → g ≤ h
  asked_below a stamp g h waiting own has sent =
      let node = ok_s.placed.own_node a own in
      let l = held_lock w i s a h node.0 good.sound at (ap is_busy waiting) has node.1 in
      let last = (good.sound.nodes a node.0 node.1).lock_last
      (record { stamp = s.requester.ours; grant = h; last = l.0 }) l.2 in
      let e : h ≡ node.0.arbiter.granted = last.0 in
      let inquiry = good.sound.letters a i (Inquire stamp g) sent in
      let le : g ≤ node.0.arbiter.granted =
      (good.sound.letters a i (Locked stamp g inquiry.0) inquiry.1).granted node.0 node.1 in
      omega arith

  held_safe : (a : ℕ) (stamp : Stamp) (g : ℕ) → s.requester.phase ≡ Waiting → stamp
      ≡ s.requester.ours → is_own s.requester a ≡ true → held_at s.requester a ≡ Some g
      → IsSafe (after w i (by_requester s (inquired_held a stamp g s.requester)))
  held_safe a stamp g waiting same own has =
      let r = s.requester in
      cond_case (λ d. IsSafe (after w i (by_requester s d))) (has_failed_below r r.count)
      (saying (giving_now r a g) a (Relinquish stamp g)) (becoming (remembering r a g))
      (λ failed. gave_now_safe a stamp g waiting same own has failed)
      (λ none. remembered_safe a g has none)

  inquired_safe : (o : Option ℕ) (a : ℕ) (stamp : Stamp) (g : ℕ) → held_at s.requester a ≡ o
      → s.requester.phase ≡ Waiting → stamp ≡ s.requester.ours → is_own s.requester a ≡ true
      → stamp.node ≡ i → WasSent w a i (Inquire stamp g)
      → IsSafe (after w i (by_requester s (inquired o a stamp g s.requester)))
  inquired_safe None a stamp g is waiting same own node sent =
      missing_safe a stamp g waiting same own is
  inquired_safe (Some h) a stamp g is waiting same own node sent =
      let r = s.requester in
      cond_case (λ d. IsSafe (after w i (by_requester s d))) (nat_eq h g)
      (inquired_held a stamp g r) (saying r a (Relinquish stamp g))
      (λ e. held_safe a stamp g waiting same own (is ∙ ap Some (eq_true h g e)))
      (λ f. let le = asked_below a stamp g h waiting own is sent in let ne = eq_false h g f in
      says_safe a (Relinquish stamp g) (gives_back a stamp g node waiting same
      (inr (inr (h, is, omega arith)))))

  pub inquire_safe : (a : ℕ) (stamp : Stamp) (g : ℕ) → is_own s.requester a ≡ true → stamp.node ≡ i
      → WasSent w a i (Inquire stamp g) → IsSafe
      (after w i (by_requester s (take_inquire a stamp g s.requester)))
  inquire_safe a stamp g own node sent =
      let r = s.requester in
      cond_case (λ d. IsSafe (after w i (by_requester s d))) (is_current_wait r stamp)
      (inquired (held_at r a) a stamp g r) (release_ended r stamp a)
      (λ e. let p = current_means stamp e in
      inquired_safe (held_at r a) a stamp g refl p.0 p.1 own node sent)
      (λ _. released_safe stamp a node)
