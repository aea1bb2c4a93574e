-- Parts of steps that end a lock or set one keep a world sound.
use Rattle.std.proofs.Common.{ℕ, ◌≤◌, ◌+◌, ◌≡◌, inl, inr, List, [], ◌∷◌, Option, Some, None, refl, sym, ◌∙◌, subst, arith}
use Rattle.std.proofs.lemmas.Option.{same_Some}
use Rattle.mx_stamps.specs.declared.stamp.Stamp.{Stamp}
use Rattle.mx_stamps.specs.Lists.{IsIn}
use Rattle.mx_stamps.proofs.Lists.{in_right, none_is_no_some}
use Rattle.mx_letters.specs.declared.maekawa.MaekawaMsg.{MaekawaMsg}
use Rattle.mx_letters.specs.declared.maekawa.MaekawaMsg.TheVariants.{Locked}
use Rattle.mx_nodelaws.specs.World.{Done, IsNode, WasSent, after}
use Rattle.mx_maekawa.specs.declared.lock.Lock.{Lock}
use Rattle.mx_maekawa.specs.Node.{Node}
use Rattle.mx_maekawa.specs.ArbiterStep.{locking}
use Rattle.mx_maekawa.specs.Good.{NodeWorld, IsReached, IsSound}
use Rattle.mx_maekawa.specs.laws.Frame.{sound_after, node_ok_after, reached_after}
use Rattle.mx_maekawa.specs.laws.Parts.{held_as, entered_as, one_letter}
use Rattle.mx_maekawa.specs.laws.Changes.{IsToEnd, MovesForward, IsGranted, IsSendable}

module _ (w : NodeWorld) (i : ℕ) (s : Node) (good : IsSound w) (at : IsNode w i s) where
  -- a lock ends

  abbrev pub unlocked : List (Option Stamp) → List ℕ → ℕ → Node
  unlocked waiting ended last = record s {
    arbiter =
        record (s.arbiter) { lock = None; waiting = waiting; ended = ended; last = last };
  }

  pub unlocked_sound : {A : Type 0} (answer : A) (waiting : List (Option Stamp)) (ended : List ℕ)
      (last : ℕ) (lock : Lock) → s.arbiter.lock ≡ Some lock → IsToEnd w i lock.stamp lock.grant last
      → s.arbiter.last ≤ last → IsReached w last →
      IsSound (after w i (record {
        state = unlocked waiting ended last;
        answer = answer;
        letters =
            [];
      }))
  unlocked_sound {A} answer waiting ended last lock was end more reached =
      let new : Node = unlocked waiting ended last in
      let done : Done Node A MaekawaMsg = record { state = new; answer = answer; letters = [] } in
      let moves : MovesForward w i s new = record {
        own = refl;
        issued = omega arith;
        mine = omega arith;
        ended = λ n e. e;
        given = λ a stamp g le x. x;
        granted = omega arith;
        last = more;
        lock = λ stamp g c l. let e = same_Some {A = Lock} lock
            (record { stamp = stamp; grant = g; last = c }) (sym was ∙ l) in
            inr (subst (λ x. IsToEnd w i x.stamp x.grant last) e end);
      } in
      let may : (b : ℕ) (m : MaekawaMsg) → IsIn (b, m) done.letters → IsSendable w i s new b m =
      λ b m none. absurd none in
      let kept = node_ok_after w i s done good at moves may i s at in
      sound_after w i s done good at moves may
      (record {
        placed = kept.placed;
        back_places = kept.back_places;
        held_places = kept.held_places;
        issued = kept.issued;
        ours_node = kept.ours_node;
        ours_number = kept.ours_number;
        mine_top = kept.mine_top;
        top_reached = kept.top_reached;
        last_reached = reached_after w i s done good at moves may last reached;
        lock_last = λ l none. absurd (none_is_no_some l none);
        held = λ busy a g has. held_as (after w i done) s new a g refl refl (omega arith) refl
            (kept.held busy a g has);
        inside_holds = kept.inside_holds;
        remembered_held = kept.remembered_held;
        entered = λ some. let en = kept.entered some in
            entered_as (after w i done) i s new refl refl en en.inside en.ended;
      })

  -- a new lock

  pub granted_sound : {A : Type 0} (answer : A) (u : Stamp) → s.arbiter.lock ≡ None →
      IsSound (after w i (record {
        state = record s { arbiter = locking s.arbiter u };
        answer = answer;
        letters = (u.node, Locked u (s.arbiter.granted + 1) s.arbiter.last) ∷ [];
      }))
  granted_sound {A} answer u free =
      let new : Node = record s { arbiter = locking s.arbiter u } in
      let letter : MaekawaMsg = Locked u (s.arbiter.granted + 1) s.arbiter.last in
      let done : Done Node A MaekawaMsg = record {
        state = new;
        answer = answer;
        letters =
            (u.node, letter) ∷ [];
      } in
      let moves : MovesForward w i s new = record {
        own = refl;
        issued = omega arith;
        mine = omega arith;
        ended = λ n e. e;
        given = λ a stamp g le x. x;
        granted = omega arith;
        last = omega arith;
        lock = λ stamp g c l. absurd (none_is_no_some
            (record { stamp = stamp; grant = g; last = c }) (sym free ∙ l));
      } in
      let grant : IsGranted s new u.node u (s.arbiter.granted + 1) s.arbiter.last =
      record {
        node = refl;
        free = free;
        lock = refl;
        above = omega arith;
        granted = refl;
        last = refl;
      } in
      let may = one_letter w i s good at new u.node letter (inr grant) in
      let kept = node_ok_after w i s done good at moves may i s at in
      sound_after w i s done good at moves may
      (record {
        placed = kept.placed;
        back_places = kept.back_places;
        held_places = kept.held_places;
        issued = kept.issued;
        ours_node = kept.ours_node;
        ours_number = kept.ours_number;
        mine_top = kept.mine_top;
        top_reached = kept.top_reached;
        last_reached = kept.last_reached;
        lock_last = λ l has. subst (λ x. (x.grant ≡ s.arbiter.granted + 1)
            × WasSent (after w i done) i x.stamp.node (Locked x.stamp x.grant x.last))
            (same_Some {A = Lock} (record {
              stamp = u;
              grant = s.arbiter.granted + 1;
              last = s.arbiter.last;
            }) l has)
            (refl, in_right (i, u.node, letter) w.sent ((i, u.node, letter) ∷ []) (inl refl));
        held = λ busy a g has. held_as (after w i done) s new a g refl refl (omega arith) refl
            (kept.held busy a g has);
        inside_holds = kept.inside_holds;
        remembered_held = kept.remembered_held;
        entered = λ some. let en = kept.entered some in
            entered_as (after w i done) i s new refl refl en en.inside en.ended;
      })
