-- Parts of steps that change nothing that a lock or a grant relies on keep a world sound.
use Rattle.std.proofs.Common.{ℕ, ◌≤◌, ◌≡◌, inl, inr, Bool, true, false, List, [], ◌∷◌, Option, Some, None, slice_index_or, get_or, refl, sym, ◌∙◌, ap, subst, arith}
use Rattle.mx_stamps.specs.declared.stamp.Stamp.{Stamp}
use Rattle.mx_stamps.specs.Lists.{IsIn}
use Rattle.mx_letters.specs.declared.maekawa.MaekawaMsg.{MaekawaMsg}
use Rattle.mx_nodelaws.specs.World.{Done, IsNode, after}
use Rattle.mx_nodelaws.specs.declared.phase.Phase.TheVariants.{Inside}
use Rattle.mx_maekawa.specs.Node.{Node}
use Rattle.mx_maekawa.specs.RequesterStep.{held_at, back_at, is_own}
use Rattle.mx_maekawa.specs.Good.{NodeWorld, IsEnded, IsReached, IsLockedFor, IsEntered, IsHeldOk, IsSound}
use Rattle.mx_maekawa.specs.laws.Frame.{sound_after, node_ok_after, reached_after}
use Rattle.mx_maekawa.specs.laws.Changes.{MovesForward, IsSendable}

pub held_as : (w : NodeWorld) (s new : Node) (a g : ℕ) → new.requester.own ≡ s.requester.own
    → back_at new.requester a ≡ back_at s.requester a → s.requester.top ≤ new.requester.top
    → new.requester.ours ≡ s.requester.ours → IsHeldOk w s a g → IsHeldOk w new a g
held_as w s new a g own back top ours ok = record {
  own = ap (λ x. slice_index_or x a false) own ∙ ok.own;
  back = (let k = ok.back in omega arith);
  c = ok.c;
  top = (let k = ok.top in omega arith);
  lock = λ t tat. subst (λ x. IsLockedFor t x g ok.c) (sym ours) (ok.lock t tat);
}

pub entered_as : (w : NodeWorld) (i : ℕ) (s new : Node) → new.requester.own ≡ s.requester.own
    → new.requester.mine ≡ s.requester.mine → (en : IsEntered w i s) →
    ((n : ℕ) → new.requester.phase ≡ Inside n → (en.stamp ≡ new.requester.ours)
    × ((a : ℕ) → is_own new.requester a ≡ true → held_at new.requester a
    ≡ Some (en.grant_of a)))
    → (((n : ℕ) → new.requester.phase ≡ Inside n → ⊥) → IsEnded new.requester en.stamp.number)
    → IsEntered w i new
entered_as w i s new own mine en inside ended =
    let back : (a : ℕ) → is_own new.requester a ≡ true → is_own s.requester a ≡ true =
    λ a o. sym (ap (λ x. slice_index_or x a false) own) ∙ o in record {
      stamp = en.stamp;
      grant_of = en.grant_of;
      node = en.node;
      inside = inside;
      ended = ended;
      sent = λ a o. en.sent a (back a o);
      kept = λ a o. en.kept a (back a o);
      released = λ a later t sent le. let k = en.released a later t sent le in omega arith;
      locked = λ a t o tat. elim (en.locked a t (back a o) tat) [
        | inl l ↦ inl l
        | inr le ↦
            inr (omega arith)
      ];
      after = λ a b other g c o sent lt. let k = en.after a b other g c (back a o) sent lt in
          omega arith;
    }

module _ (w : NodeWorld) (i : ℕ) (s : Node) (good : IsSound w) (at : IsNode w i s) where
  pub one_letter : (new : Node) (b : ℕ) (m : MaekawaMsg) → IsSendable w i s new b m
      → (c : ℕ) (n : MaekawaMsg) → IsIn {X = ℕ × MaekawaMsg} (c, n) ((b, m) ∷ [])
      → IsSendable w i s new c n
  one_letter new b m ok c n (inl e) = subst (λ x. IsSendable w i s new x.0 x.1) (sym e) ok
  one_letter new b m ok c n (inr none) = absurd none

  -- such a part

  abbrev pub aside : List Bool → List (Option ℕ) → ℕ → List (Option Stamp) → List ℕ → ℕ → Node
  aside failed remembered highest waiting ended last = record s {
    requester =
        record (s.requester) { failed = failed; remembered = remembered; highest = highest };
    arbiter = record (s.arbiter) { waiting = waiting; ended = ended; last = last };
  }

  pub aside_sound : {A : Type 0} (answer : A) (failed : List Bool) (remembered : List (Option ℕ))
      (highest : ℕ) (waiting : List (Option Stamp)) (ended : List ℕ) (last : ℕ)
      (letters : List (ℕ × MaekawaMsg)) →
      ((a g : ℕ) → get_or remembered a None ≡ Some g → held_at s.requester a ≡ Some g)
      → s.requester.highest ≤ highest → s.arbiter.last ≤ last → IsReached w last →
      ((b : ℕ) (m : MaekawaMsg) → IsIn (b, m) letters
      → IsSendable w i s (aside failed remembered highest waiting ended last) b m) →
      IsSound (after w i (record {
        state = aside failed remembered highest waiting ended last;
        answer = answer;
        letters = letters;
      }))
  aside_sound {A} answer failed remembered highest waiting ended last letters held up more reached may =
      let new : Node = aside failed remembered highest waiting ended last in
      let done : Done Node A MaekawaMsg = record {
        state = new;
        answer = answer;
        letters = letters;
      } in
      let moves : MovesForward w i s new =
      record {
        own = refl;
        issued = omega arith;
        mine = omega arith;
        ended = λ n e. e;
        given = λ a stamp g le x. x;
        granted = omega arith;
        last = more;
        lock = λ stamp g c l. inl l;
      } in
      let kept = node_ok_after w i s done good at moves may i s at in
      sound_after w i s done good at moves may
      (record {
        placed = kept.placed;
        back_places = kept.back_places;
        held_places = kept.held_places;
        issued = (let k = kept.issued in omega arith);
        ours_node = kept.ours_node;
        ours_number = kept.ours_number;
        mine_top = kept.mine_top;
        top_reached = kept.top_reached;
        last_reached = reached_after w i s done good at moves may last reached;
        lock_last = kept.lock_last;
        held = λ busy a g has. held_as (after w i done) s new a g refl refl (omega arith) refl
            (kept.held busy a g has);
        inside_holds = kept.inside_holds;
        remembered_held = held;
        entered = λ some. let en = kept.entered some in
            entered_as (after w i done) i s new refl refl en en.inside en.ended;
      })
