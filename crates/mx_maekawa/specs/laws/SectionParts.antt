-- Parts of steps by which a node asks, enters, leaves and cancels keep a world sound.
use Rattle.std.proofs.Common.{ℕ, ◌<◌, ◌≤◌, ◌+◌, ◌≡◌, inl, inr, true, [], Option, Some, None, refl, sym, ◌∙◌, ap, subst, arith}
use Rattle.std.proofs.lemmas.Option.{same_Some}
use Rattle.mx_stamps.specs.Lists.{IsIn}
use Rattle.mx_stamps.proofs.Lists.{get_set_same, in_left, in_append, none_is_no_some, get_or_replicate, length_replicate}
use Rattle.mx_letters.specs.declared.maekawa.MaekawaMsg.{MaekawaMsg}
use Rattle.mx_letters.specs.declared.maekawa.MaekawaMsg.TheVariants.{Request, Locked, Relinquish, Release}
use Rattle.mx_nodelaws.specs.World.{Done, IsNode, WasSent, after, addressed}
use Rattle.mx_nodelaws.proofs.Worlds.{in_addressed}
use Rattle.mx_nodelaws.specs.declared.phase.Phase.{Phase}
use Rattle.mx_nodelaws.specs.declared.phase.Phase.TheVariants.{Idle, Waiting, Inside}
use Rattle.mx_nodelaws.specs.Phases.{is_busy}
use Rattle.mx_nodelaws.proofs.Phases.{waiting_not_inside, idle_not_inside, idle_not_busy}
use Rattle.mx_nodelaws.proofs.Sent.{sent_if}
use Rattle.mx_maekawa.specs.Node.{Node}
use Rattle.mx_maekawa.specs.RequesterStep.{held_at, is_own, holds_all, to_own, asking, entering, ending}
use Rattle.mx_maekawa.specs.Good.{NodeWorld, IsBusy, IsLockedFor, IsEntered, IsHeldOk, IsNodeOk, IsSound}
use Rattle.mx_maekawa.specs.laws.Frame.{sound_after, node_ok_after}
use Rattle.mx_maekawa.specs.laws.Safety.{holds_own, held_lock}
use Rattle.mx_maekawa.specs.laws.Parts.{held_as, entered_as}
use Rattle.mx_maekawa.specs.laws.Changes.{MovesForward, IsReleasing, IsSendable}

-- the grant that is held, or 0 if there is none
value_or_zero : Option ℕ → ℕ
value_or_zero None = 0
value_or_zero (Some g) = g

value_of_some : (o : Option ℕ) (g : ℕ) → o ≡ Some g → o ≡ Some (value_or_zero o)
unfolding value_or_zero
value_of_some None g h = absurd (none_is_no_some g h)
value_of_some (Some x) g h = refl

module _ (w : NodeWorld) (i : ℕ) (s : Node) (good : IsSound w) (at : IsNode w i s) where
  was_ok : IsNodeOk w i s
  was_ok = good.nodes i s at

  -- ask

  pub asked_sound : {A : Type 0} (answer : A) → s.requester.phase ≡ Idle →
      IsSound (after w i (record {
        state = record s { requester = asking s.requester };
        answer = answer;
        letters = addressed (to_own s.requester
            (Request (asking s.requester).ours)) s.requester.count;
      }))
  asked_sound {A} answer idle =
      let new : Node = record s { requester = asking s.requester } in
      let letter : MaekawaMsg = Request (asking s.requester).ours in
      let done : Done Node A MaekawaMsg = record {
        state = new;
        answer = answer;
        letters = addressed (to_own s.requester letter) s.requester.count;
      } in
      let up : s.requester.issued ≤ s.requester.highest = was_ok.issued in
      let moves : MovesForward w i s new = record {
        own = refl;
        issued = omega arith;
        mine = omega arith;
        ended = λ n e. let k : n ≤ s.requester.issued = e.0 in (omega arith, λ busy. omega arith);
        given = λ b stamp y le given. inl (omega arith, λ busy. omega arith);
        granted = omega arith;
        last = omega arith;
        lock = λ stamp g c l. inl l;
      } in
      let may : (b : ℕ) (m : MaekawaMsg) → IsIn (b, m) done.letters → IsSendable w i s new b m =
      λ b m sent.
      let r = in_addressed (to_own s.requester letter) s.requester.count b m sent in
      subst (λ x. IsSendable w i s new b x)
      (sym (sent_if (is_own s.requester b) letter m r.1).1) tt in
      let kept = node_ok_after w i s done good at moves may i s at in
      let no_held : (a g : ℕ) → held_at new.requester a ≡ Some g → ⊥ =
      λ a g has. none_is_no_some g (sym (get_or_replicate 21 a None) ∙ has) in
      sound_after w i s done good at moves may
      (record {
        placed = kept.placed;
        back_places = kept.back_places;
        held_places = length_replicate {X = Option ℕ} 21 None;
        issued = omega arith;
        ours_node = λ busy. kept.placed.me;
        ours_number = λ busy. refl;
        mine_top = kept.mine_top;
        top_reached = kept.top_reached;
        last_reached = kept.last_reached;
        lock_last = kept.lock_last;
        held = λ _ a g has. absurd (no_held a g has);
        inside_holds = λ n inside. absurd (waiting_not_inside Waiting n refl inside);
        remembered_held =
            λ a g was. absurd (none_is_no_some g (sym (get_or_replicate 21 a None) ∙ was));
        entered = λ some. let en = kept.entered some in
            entered_as (after w i done) i s new refl refl en
            (λ n inside. absurd (waiting_not_inside Waiting n refl inside))
            (λ _. moves.ended en.stamp.number (en.ended
            (λ n inside. let bad : Idle ≡ Inside n = sym idle ∙ inside in cc)));
      })

  -- enter

  pub entered_sound : {A : Type 0} (answer : A) → s.requester.phase ≡ Waiting
      → holds_all s.requester ≡ true →
      IsSound (after w i (record {
        state = record s { requester = entering s.requester };
        answer = answer;
        letters = [];
      }))
  entered_sound {A} answer waiting all =
      let new : Node = record s { requester = entering s.requester } in
      let done : Done Node A MaekawaMsg = record { state = new; answer = answer; letters = [] } in
      let busy : IsBusy s.requester = ap is_busy waiting in
      let number : s.requester.ours.number ≡ s.requester.issued = was_ok.ours_number busy in
      let low : s.requester.mine ≤ s.requester.top = was_ok.mine_top in
      let moves : MovesForward w i s new = record {
        own = refl;
        issued = omega arith;
        mine = omega arith;
        ended = λ n e. (e.0, λ _. e.1 busy);
        given =
            λ b stamp y le given. elim given [ inl e ↦ inl (e.0, λ _. e.1 busy) | inr q ↦ inr q ];
        granted = omega arith;
        last = omega arith;
        lock = λ stamp g c l. inl l;
      } in
      let may : (b : ℕ) (m : MaekawaMsg) → IsIn (b, m) done.letters → IsSendable w i s new b m =
      λ b m none. absurd none in
      let kept = node_ok_after w i s done good at moves may i s at in
      let sound_w : (a b : ℕ) (m : MaekawaMsg) → WasSent (after w i done) a b m → WasSent w a b m =
      λ a b m sent. elim (in_append (a, b, m) w.sent [] sent) [
        | inl old ↦ old
        | inr none ↦
            absurd none
      ] in
      let grant_of : ℕ → ℕ = λ a. value_or_zero (held_at s.requester a) in
      let has : (a : ℕ) → is_own s.requester a ≡ true → held_at s.requester a ≡ Some (grant_of a) =
      λ a own. let g = holds_own w i s was_ok all a own in
      value_of_some (held_at s.requester a) g.0 g.1 in
      -- the lock at each of its arbiters, before the step
      let lock : (a : ℕ) (own : is_own s.requester a ≡ true) (t : Node) → IsNode w a t → (c : ℕ)
      × (c ≤ s.requester.top) × IsLockedFor t s.requester.ours (grant_of a) c =
      λ a own t tat. held_lock w i s a (grant_of a) t good at busy (has a own) tat in
      sound_after w i s done good at moves may
      (record {
        placed = kept.placed;
        back_places = kept.back_places;
        held_places = kept.held_places;
        issued = kept.issued;
        ours_node = λ _. kept.ours_node busy;
        ours_number = λ _. number;
        mine_top = omega arith;
        top_reached = (i, new, get_set_same w.nodes i s new at, omega arith);
        last_reached = kept.last_reached;
        lock_last = kept.lock_last;
        held = λ _ a g h. held_as (after w i done) s new a g refl refl (omega arith) refl
            (kept.held busy a g h);
        inside_holds = λ n inside a own. (grant_of a, has a own);
        remembered_held =
            λ a g was. absurd (none_is_no_some g (sym (get_or_replicate 21 a None) ∙ was));
        entered = λ some. record {
          stamp = s.requester.ours;
          grant_of = grant_of;
          node = was_ok.ours_node busy;
          inside = λ n inside. (refl, has);
          ended = λ outside. absurd (outside (s.requester.top + 1) refl);
          sent = λ a own.
              let node = was_ok.placed.own_node a own in
              let l = lock a own node.0 node.1 in
              let last = (good.nodes a node.0 node.1).lock_last
              (record { stamp = s.requester.ours; grant = grant_of a; last = l.0 }) l.2 in (
                l.0,
                in_left (a, i, Locked s.requester.ours (grant_of a) l.0) w.sent []
                    (subst (λ x. WasSent w a x (Locked s.requester.ours (grant_of a) l.0))
                    (was_ok.ours_node busy) last.1),
              );
          kept = λ a own sent.
              let ok : IsHeldOk w s a (grant_of a) = was_ok.held busy a (grant_of a) (has a own) in
              elim ((good.letters i a (Relinquish s.requester.ours (grant_of a))
              (sound_w i a (Relinquish s.requester.ours (grant_of a)) sent)).given s at) [
                | inl ended ↦ let k : s.requester.ours.number < s.requester.issued = ended.1 busy in
                    omega arith
                | inr q ↦ elim q [
                  | inl le ↦ let k = ok.back in omega arith
                  | inr (h, was, lt) ↦ let k : h ≡ grant_of a =
                      same_Some h (grant_of a) (sym was ∙ has a own) in omega arith
                ]
              ];
          released = λ a later t sent le.
              let k : later.number < s.requester.issued =
              ((good.letters i a (Release later t)
              (sound_w i a (Release later t) sent)).ended s at).1 busy in absurd (omega arith);
          locked = λ a t own tat. let ok = kept.held busy a (grant_of a) (has a own) in
              inl (ok.c, ok.lock t tat);
          after = λ a b other g c own sent lt.
              let node = was_ok.placed.own_node a own in
              let l = lock a own node.0 node.1 in
              let last = (good.nodes a node.0 node.1).lock_last
              (record { stamp = s.requester.ours; grant = grant_of a; last = l.0 }) l.2 in
              let e : grant_of a ≡ node.0.arbiter.granted = last.0 in
              let le : g ≤ node.0.arbiter.granted =
              (good.letters a b (Locked other g c)
              (sound_w a b (Locked other g c) sent)).granted node.0 node.1 in
              absurd (omega arith);
        };
      })

  -- leave and cancel

  -- the stamp of the last entry is no later than the node's latest stamp
  entry_issued : (v : NodeWorld) (p : Phase) → s.requester.phase ≡ p → s.requester.ours.number
      ≡ s.requester.issued → (en : IsEntered v i s) → en.stamp.number ≤ s.requester.issued
  entry_issued v Idle e number en =
      (en.ended (λ n inside. idle_not_inside s.requester.phase n e inside)).0
  entry_issued v Waiting e number en =
      (en.ended (λ n inside. waiting_not_inside s.requester.phase n e inside)).0
  entry_issued v (Inside n) e number en = let k : en.stamp.number ≡ s.requester.ours.number =
      ap (λ x. x.number) (en.inside n e).0 in omega arith

  pub ended_sound : {A : Type 0} (answer : A) → IsBusy s.requester →
      IsSound (after w i (record {
        state = record s { requester = ending s.requester };
        answer = answer;
        letters = addressed (to_own s.requester
            (Release s.requester.ours s.requester.top)) s.requester.count;
      }))
  ended_sound {A} answer busy =
      let new : Node = record s { requester = ending s.requester } in
      let letter : MaekawaMsg = Release s.requester.ours s.requester.top in
      let done : Done Node A MaekawaMsg = record {
        state = new;
        answer = answer;
        letters = addressed (to_own s.requester letter) s.requester.count;
      } in
      let number : s.requester.ours.number ≡ s.requester.issued = was_ok.ours_number busy in
      let moves : MovesForward w i s new = record {
        own = refl;
        issued = omega arith;
        mine = omega arith;
        ended = λ k e. (e.0, λ b. absurd (idle_not_busy Idle refl b));
        given = λ b stamp y le given. inl (le, λ b. absurd (idle_not_busy Idle refl b));
        granted = omega arith;
        last = omega arith;
        lock = λ stamp g c l. inl l;
      } in
      let releases : IsReleasing w i new s.requester.ours s.requester.top =
      record {
        node = was_ok.ours_node busy;
        ended =
            (omega arith, λ b. absurd (idle_not_busy Idle refl b));
        mine = was_ok.mine_top;
        reached = was_ok.top_reached;
      } in
      let may : (b : ℕ) (m : MaekawaMsg) → IsIn (b, m) done.letters → IsSendable w i s new b m =
      λ b m sent.
      let r = in_addressed (to_own s.requester letter) s.requester.count b m sent in
      subst (λ x. IsSendable w i s new b x)
      (sym (sent_if (is_own s.requester b) letter m r.1).1) releases in
      let kept = node_ok_after w i s done good at moves may i s at in
      sound_after w i s done good at moves may
      (record {
        placed = kept.placed;
        back_places = kept.back_places;
        held_places = length_replicate {X = Option ℕ} 21 None;
        issued = kept.issued;
        ours_node = λ b. absurd (idle_not_busy Idle refl b);
        ours_number = λ b. absurd (idle_not_busy Idle refl b);
        mine_top = kept.mine_top;
        top_reached = kept.top_reached;
        last_reached = kept.last_reached;
        lock_last = kept.lock_last;
        held = λ b. absurd (idle_not_busy Idle refl b);
        inside_holds =
            λ k now. let bad : Idle ≡ Inside k = now in let no_way : ⊥ = cc in absurd no_way;
        remembered_held =
            λ a g was. absurd (none_is_no_some g (sym (get_or_replicate 21 a None) ∙ was));
        entered = λ some. let en = kept.entered some in
            entered_as (after w i done) i s new refl refl en
            (λ k now. let bad : Idle ≡ Inside k = now in let no_way : ⊥ = cc in absurd no_way)
            (λ _. (
              entry_issued (after w i done) s.requester.phase refl number en,
              λ b. absurd (idle_not_busy Idle refl b),
            ));
      })
