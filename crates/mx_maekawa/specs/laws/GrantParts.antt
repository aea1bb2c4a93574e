-- Parts of steps that take a grant or give one back keep a world sound.
use Rattle.std.proofs.Common.{ℕ, ◌<◌, ◌≤◌, ◌≡◌, ◌≢◌, inl, inr, Bool, true, List, [], ◌∷◌, Option, Some, None, max, slice_set, length, get_or, refl, sym, ◌∙◌, ap, subst, arith}
use Rattle.std.proofs.lemmas.Option.{same_Some}
use Rattle.std.proofs.lemmas.List.{length-set}
use Rattle.mx_stamps.specs.Lists.{IsIn}
use Rattle.mx_stamps.proofs.Lists.{dec_eq, get_after, none_is_no_some, get_or_after}
use Rattle.mx_letters.specs.declared.maekawa.MaekawaMsg.{MaekawaMsg}
use Rattle.mx_letters.specs.declared.maekawa.MaekawaMsg.TheVariants.{Locked, Relinquish, Release}
use Rattle.mx_nodelaws.specs.World.{Done, IsNode, WasSent, after}
use Rattle.mx_nodelaws.specs.declared.phase.Phase.TheVariants.{Waiting}
use Rattle.mx_nodelaws.specs.Phases.{is_busy}
use Rattle.mx_nodelaws.proofs.Phases.{waiting_not_inside}
use Rattle.mx_nodelaws.proofs.Frame.{reached_max}
use Rattle.mx_maekawa.specs.Node.{Node}
use Rattle.mx_maekawa.specs.RequesterStep.{held_at, back_at, is_own, holding}
use Rattle.mx_maekawa.specs.Good.{NodeWorld, IsBusy, IsGiven, IsLockedFor, IsHeldOk, IsNodeOk, IsLockedOk, IsSound}
use Rattle.mx_maekawa.specs.laws.Places.{get_or_other, get_or_same}
use Rattle.mx_maekawa.specs.laws.Frame.{sound_after, node_ok_after, reached_after}
use Rattle.mx_maekawa.specs.laws.Parts.{held_as, entered_as, one_letter}
use Rattle.mx_maekawa.specs.laws.Changes.{MovesForward, IsGivingBack, IsSendable}

module _ (w : NodeWorld) (i : ℕ) (s : Node) (good : IsSound w) (at : IsNode w i s) where
  was_ok : IsNodeOk w i s
  was_ok = good.nodes i s at

  -- a LOCKED comes

  pub lock_there : (a g c : ℕ) → IsBusy s.requester → WasSent w a i (Locked s.requester.ours g c)
      → (IsGiven s.requester a s.requester.ours g → ⊥) → (t : Node) → IsNode w a t
      → IsLockedFor t s.requester.ours g c
  lock_there a g c busy sent not_given t tat =
      let e : s.requester.ours.number ≡ s.requester.issued = was_ok.ours_number busy in
      elim ((good.letters a i (Locked s.requester.ours g c) sent).ends t tat) [
        | inl l ↦ l
        | inr over ↦ elim over [
          | inl back ↦ absurd (not_given
              ((good.letters i a (Relinquish s.requester.ours g) back).given s at))
          | inr (later, u, released, le) ↦
              let k : later.number < s.requester.issued =
              ((good.letters i a (Release later u) released).ended s at).1 busy in
              absurd (omega arith)
        ]
      ]

  pub held_sound : {A : Type 0} (answer : A) (a g c : ℕ) → s.requester.phase ≡ Waiting
      → is_own s.requester a ≡ true → held_at s.requester a ≡ None → back_at s.requester a < g
      → WasSent w a i (Locked s.requester.ours g c) →
      IsSound (after w i (record {
        state = record s { requester = holding s.requester a g c };
        answer = answer;
        letters = [];
      }))
  held_sound {A} answer a g c waiting own none above sent =
      let new : Node = record s { requester = holding s.requester a g c } in
      let done : Done Node A MaekawaMsg = record { state = new; answer = answer; letters = [] } in
      let busy : IsBusy s.requester = ap is_busy waiting in
      let number : s.requester.ours.number ≡ s.requester.issued = was_ok.ours_number busy in
      let not_given : IsGiven s.requester a s.requester.ours g → ⊥ = λ given. elim given [
        | inl ended ↦ let k : s.requester.ours.number < s.requester.issued = ended.1 busy in
            omega arith
        | inr q ↦ elim q [
          | inl le ↦ omega arith
          | inr (h, has, lt) ↦ none_is_no_some h (sym none ∙ has)
        ]
      ] in
      let other : (b h : ℕ) → held_at s.requester b ≡ Some h → held_at new.requester b ≡ Some h =
      λ b h has. elim (dec_eq b a) [
        | inl e ↦ absurd (none_is_no_some h (sym none
            ∙ subst (λ x. held_at s.requester x ≡ Some h) e has))
        | inr ne ↦ get_or_other s.requester.held a b (Some g) None ne ∙ has
      ] in
      let moves : MovesForward w i s new = record {
        own = refl;
        issued = omega arith;
        mine = omega arith;
        ended = λ n e. e;
        given = λ b stamp x le given. elim given [
          | inl ended ↦ inl ended
          | inr q ↦ elim q [
            | inl le ↦ inr (inl le)
            | inr (h, has, lt) ↦ inr (inr (h, other b h has, lt))
          ]
        ];
        granted = omega arith;
        last = omega arith;
        lock = λ stamp g c l. inl l;
      } in
      let may : (b : ℕ) (m : MaekawaMsg) → IsIn (b, m) done.letters → IsSendable w i s new b m =
      λ b m none. absurd none in
      let kept = node_ok_after w i s done good at moves may i s at in
      let letter : IsLockedOk w a i s.requester.ours g c =
      good.letters a i (Locked s.requester.ours g c) sent in
      let there = lock_there a g c busy sent not_given in
      sound_after w i s done good at moves may
      (record {
        placed = kept.placed;
        back_places = kept.back_places;
        held_places = length-set s.requester.held a (Some g) ∙ kept.held_places;
        issued = kept.issued;
        ours_node = kept.ours_node;
        ours_number = kept.ours_number;
        mine_top = (let k = kept.mine_top in omega arith);
        top_reached = reached_after w i s done good at moves may (max s.requester.top c)
            (reached_max (λ x. x.requester.mine) w s.requester.top c was_ok.top_reached letter.reached);
        last_reached = kept.last_reached;
        lock_last = kept.lock_last;
        held = λ _ b x has. elim (get_or_after s.requester.held a b (Some g) None (Some x) has) [
          | inl p ↦
              let e : g ≡ x = same_Some g x p.1 in
              subst (λ k. IsHeldOk (after w i done) new k x) (sym p.0)
              (subst (λ k. IsHeldOk (after w i done) new a k) e (record {
                own = own;
                back = above;
                c = c;
                top = omega arith;
                lock = λ t tat. elim (get_after w.nodes i a s new t at tat) [
                  | inl q ↦ subst (λ y. IsLockedFor y s.requester.ours g c) (sym q.1)
                      (there s (subst (λ y. IsNode w y s) (sym q.0) at))
                  | inr q ↦ there t q.1
                ];
              }))
          | inr old ↦ held_as (after w i done) s new b x refl refl (omega arith) refl
              (kept.held busy b x old)
        ];
        inside_holds = λ n inside. absurd (waiting_not_inside s.requester.phase n waiting inside);
        remembered_held = λ b x was. other b x (kept.remembered_held b x was);
        entered = λ some. let en = kept.entered some in
            entered_as (after w i done) i s new refl refl en
            (λ n inside. absurd (waiting_not_inside s.requester.phase n waiting inside)) en.ended;
      })

  -- a grant is given back

  pub gave_sound : {A : Type 0} (answer : A) (a g x : ℕ) (held : List (Option ℕ))
      (remembered : List (Option ℕ)) (failed : List Bool) → a < 21 → s.requester.phase ≡ Waiting
      → length held ≡ 21 →
      ((b y : ℕ) → get_or held b None ≡ Some y → (held_at s.requester b ≡ Some y) × (b ≢ a)) →
      ((b y : ℕ) → held_at s.requester b ≡ Some y → b ≢ a → get_or held b None ≡ Some y) →
      ((b y : ℕ) → get_or remembered b None ≡ Some y → get_or held b None ≡ Some y) →
      back_at s.requester a ≤ x → ((h : ℕ) → held_at s.requester a ≡ Some h → h ≤ x) → g ≤ x →
      IsSound (after w i (record {
        state =
            record s {
              requester = record (s.requester) {
                back = slice_set s.requester.back a x;
                held = held;
                remembered = remembered;
                failed = failed;
              };
            };
        answer = answer;
        letters = (a, Relinquish s.requester.ours g) ∷ [];
      }))
  gave_sound {A} answer a g x held remembered failed few waiting places from to remembered_held back_le held_le g_le =
      let new : Node = record s {
        requester =
            record (s.requester) {
              back = slice_set s.requester.back a x;
              held = held;
              remembered = remembered;
              failed = failed;
            };
      } in
      let letter : MaekawaMsg = Relinquish s.requester.ours g in
      let done : Done Node A MaekawaMsg = record {
        state = new;
        answer = answer;
        letters =
            (a, letter) ∷ [];
      } in
      let busy : IsBusy s.requester = ap is_busy waiting in
      let places_back : length s.requester.back ≡ 21 = was_ok.back_places in
      let at_a : back_at new.requester a ≡ x = get_or_same s.requester.back a x 0 (omega arith) in
      let moves : MovesForward w i s new = record {
        own = refl;
        issued = omega arith;
        mine = omega arith;
        ended = λ n e. e;
        given = λ b stamp y le given. elim given [
          | inl ended ↦ inl ended
          | inr q ↦ elim (dec_eq b a) [
            | inl e ↦ let here : back_at new.requester b ≡ x = ap (λ k. back_at new.requester k) e
                ∙ at_a in elim q [
                  | inl small ↦ let k : back_at s.requester b ≡ back_at s.requester a =
                      ap (λ k. back_at s.requester k) e in inr (inl (omega arith))
                  | inr (h, has, lt) ↦ let k : h ≤ x =
                      held_le h (subst (λ k. held_at s.requester k ≡ Some h) e has) in
                      inr (inl (omega arith))
                ]
            | inr ne ↦ elim q [
              | inl small ↦ let k : back_at new.requester b ≡ back_at s.requester b =
                  get_or_other s.requester.back a b x 0 ne in inr (inl (omega arith))
              | inr (h, has, lt) ↦ inr (inr (h, to b h has ne, lt))
            ]
          ]
        ];
        granted = omega arith;
        last = omega arith;
        lock = λ stamp g c l. inl l;
      } in
      let gives : IsGivingBack i s new a s.requester.ours g =
      record {
        node = was_ok.ours_node busy;
        waiting = waiting;
        number = was_ok.ours_number busy;
        given = inr (inl (omega arith));
      } in
      let may = one_letter w i s good at new a letter gives in
      let kept = node_ok_after w i s done good at moves may i s at in
      sound_after w i s done good at moves may
      (record {
        placed = kept.placed;
        back_places = length-set s.requester.back a x ∙ kept.back_places;
        held_places = places;
        issued = kept.issued;
        ours_node = kept.ours_node;
        ours_number = kept.ours_number;
        mine_top = kept.mine_top;
        top_reached = kept.top_reached;
        last_reached = kept.last_reached;
        lock_last = kept.lock_last;
        held = λ _ b y has. let p = from b y has in
            held_as (after w i done) s new b y refl (get_or_other s.requester.back a b x 0 p.1)
            (omega arith) refl (kept.held busy b y p.0);
        inside_holds = λ n inside. absurd (waiting_not_inside s.requester.phase n waiting inside);
        remembered_held = remembered_held;
        entered = λ some. let en = kept.entered some in
            entered_as (after w i done) i s new refl refl en
            (λ n inside. absurd (waiting_not_inside s.requester.phase n waiting inside)) en.ended;
      })
