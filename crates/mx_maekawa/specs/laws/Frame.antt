-- What a step of one node does not change.
use Rattle.std.proofs.Common.{ℕ, ◌<◌, ◌≤◌, ◌≡◌, ◌⊎◌, inl, inr, true, false, Some, slice_index_or, refl, sym, ◌∙◌, ap, subst, arith, Bool, List}
use Rattle.std.proofs.lemmas.Option.{same_Some}
use Rattle.mx_stamps.specs.declared.stamp.Stamp.{Stamp}
use Rattle.mx_stamps.specs.Lists.{IsIn}
use Rattle.mx_stamps.proofs.Lists.{none_is_no_some}
use Rattle.mx_letters.specs.declared.maekawa.MaekawaMsg.{MaekawaMsg}
use Rattle.mx_letters.specs.declared.maekawa.MaekawaMsg.TheVariants.{Request, Locked, Failed, Inquire, Relinquish, Release}
use Rattle.mx_nodelaws.specs.World.{Done, IsNode, WasSent, after}
use Rattle.mx_nodelaws.proofs.Frame.{was, is_new, node_cases, each_after, node_after, sent_after, sent_before, still_reached, at_as}
use Rattle.mx_nodelaws.proofs.Each.{each_after_step}
use Rattle.mx_nodelaws.specs.declared.phase.Phase.TheVariants.{Waiting, Inside}
use Rattle.mx_nodelaws.specs.Phases.{is_busy}
use Rattle.mx_maekawa.specs.declared.lock.Lock.{Lock}
use Rattle.mx_maekawa.specs.Node.{Node}
use Rattle.mx_maekawa.specs.RequesterStep.{held_at, back_at, is_own}
use Rattle.mx_maekawa.specs.Good.{NodeWorld, IsBusy, IsEnded, IsGiven, IsReached, IsOver, IsLockedFor, IsEntered, IsHeldOk, IsPlaced, IsNodeOk, IsLockedOk, IsLetterOk, IsSound}
use Rattle.mx_maekawa.specs.laws.Changes.{IsToEnd, MovesForward, IsGranted, IsGivingBack, IsSendable}

module _ {A : Type 0} (w : NodeWorld) (i : ℕ) (s : Node) (done : Done Node A MaekawaMsg)
    (good : IsSound w) (at : IsNode w i s) (moves : MovesForward w i s done.state)
    (may : (b : ℕ) (m : MaekawaMsg) → IsIn (b, m) done.letters
    → IsSendable w i s done.state b m) where
  pub reached_after : (n : ℕ) → IsReached w n → IsReached (after w i done) n
  reached_after n h = still_reached w i s done at (λ x. x.requester.mine) moves.mine n h

  sent_cases : (a b : ℕ) (m : MaekawaMsg) → WasSent (after w i done) a b m → WasSent w a b m
      ⊎ ((a ≡ i) × IsSendable w i s done.state b m)
  sent_cases a b m sent = elim (sent_before w i s done at a b m sent) [
    | inl old ↦ inl old
    | inr new ↦ inr (new.0, may b m new.1)
  ]

  -- a LOCKED that was sent is an old one, or that of a new lock
  sent_locked : (a b : ℕ) (stamp : Stamp) (g c : ℕ)
      → WasSent (after w i done) a b (Locked stamp g c) → WasSent w a b (Locked stamp g c)
      ⊎ ((a ≡ i) × IsGranted s done.state b stamp g c)
  sent_locked a b stamp g c sent = elim (sent_cases a b (Locked stamp g c) sent) [
    | inl old ↦ inl old
    | inr p ↦ elim p.1 [
      | inl again ↦ inl (subst (λ x. WasSent w x b (Locked stamp g c)) (sym p.0) again)
      | inr new ↦ inr (p.0, new)
    ]
  ]

  over_after : (a b : ℕ) (stamp : Stamp) (g : ℕ) → IsOver w a b stamp g
      → IsOver (after w i done) a b stamp g
  over_after a b stamp g (inl sent) = inl (sent_after w i s done at b a (Relinquish stamp g) sent)
  over_after a b stamp g (inr (later, t, sent, le)) =
      inr (later, t, sent_after w i s done at b a (Release later t) sent, le)

  over_from : (b : ℕ) (stamp : Stamp) (g last : ℕ) → stamp.node ≡ b → IsToEnd w i stamp g last
      → IsOver w i b stamp g
  over_from b stamp g last node (inl sent) =
      inl (subst (λ x. WasSent w x i (Relinquish stamp g)) node sent)
  over_from b stamp g last node (inr (later, t, sent, le, _)) =
      inr (later, t, subst (λ x. WasSent w x i (Release later t)) node sent, le)

  -- the lock of a held grant does not end
  held_lasts : (j : ℕ) (t : Node) (g last : ℕ) → IsNode w j t → IsBusy t.requester
      → back_at t.requester i < g → held_at t.requester i ≡ Some g
      → IsToEnd w i t.requester.ours g last → ⊥
  held_lasts j t g last tat busy back has end =
      let ok = good.nodes j t tat in
      let e : t.requester.ours.number ≡ t.requester.issued = ok.ours_number busy in
      elim (over_from j t.requester.ours g last (ok.ours_node busy) end) [
        | inl sent ↦ elim ((good.letters j i (Relinquish t.requester.ours g) sent).given t tat) [
          | inl ended ↦ let k : t.requester.ours.number < t.requester.issued = ended.1 busy in
              omega arith
          | inr q ↦ elim q [
            | inl le ↦ omega arith
            | inr (h, was, lt) ↦ let k : h ≡ g = same_Some h g (sym was ∙ has) in omega arith
          ]
        ]
        | inr (later, u, sent, le) ↦
            let k : later.number < t.requester.issued =
            ((good.letters j i (Release later u) sent).ended t tat).1 busy in omega arith
      ]

  held_after : (j : ℕ) (t : Node) (a g : ℕ) → IsNode w j t → IsBusy t.requester
      → held_at t.requester a ≡ Some g → IsHeldOk w t a g → IsHeldOk (after w i done) t a g
  held_after j t a g tat busy has ok = record {
    own = ok.own;
    back = ok.back;
    c = ok.c;
    top = ok.top;
    lock = each_after w i s done at (λ x. IsLockedFor x t.requester.ours g ok.c) a ok.lock
        (λ e was. elim (moves.lock t.requester.ours g ok.c was) [
          | inl stays ↦ stays
          | inr end ↦ absurd (held_lasts j t g done.state.arbiter.last tat busy
              (subst (λ x. back_at t.requester x < g) e ok.back)
              (subst (λ x. held_at t.requester x ≡ Some g) e has) end)
        ]);
  }

  -- a node gives back no grant of its last entry
  kept_here : (j a : ℕ) (t : Node) (en : IsEntered w j t) → IsNode w j t → j ≡ i
      → IsGivingBack i s done.state a en.stamp (en.grant_of a) → ⊥
  kept_here j a t en tat e back =
      let same = was w i s at j t e tat in
      let waiting : t.requester.phase ≡ Waiting = ap (λ x. x.requester.phase) same ∙ back.waiting in
      let ended = en.ended (λ n inside. let bad : Waiting ≡ Inside n = sym waiting ∙ inside in
      cc) in
      let lt : en.stamp.number < t.requester.issued = ended.1 (ap is_busy waiting) in
      let k : en.stamp.number ≡ s.requester.issued = back.number in
      let l : t.requester.issued ≡ s.requester.issued = ap (λ x. x.requester.issued) same in
      omega arith

  locked_here : (j : ℕ) (t : Node) (en : IsEntered w j t) → is_own t.requester i ≡ true
      → ((c : ℕ) × IsLockedFor done.state en.stamp (en.grant_of i) c)
      ⊎ (t.requester.mine ≤ done.state.arbiter.last)
  locked_here j t en own = elim (en.locked i s own at) [
    | inl (c, was) ↦ elim (moves.lock en.stamp (en.grant_of i) c was) [
      | inl stays ↦ inl (c, stays)
      | inr end ↦ elim end [
        | inl sent ↦ absurd (en.kept i own (subst
            (λ x. WasSent w x i (Relinquish en.stamp (en.grant_of i))) en.node sent))
        | inr (later, u, sent, le, ule) ↦
            let k : t.requester.mine ≤ u = en.released i later u
            (subst (λ x. WasSent w x i (Release later u)) en.node sent) le in
            inr (omega arith)
      ]
    ]
    | inr le ↦ let l = moves.last in inr (omega arith)
  ]

  after_here : (j b : ℕ) (t : Node) (en : IsEntered w j t) (other : Stamp) (g c : ℕ)
      → is_own t.requester i ≡ true → IsGranted s done.state b other g c → t.requester.mine ≤ c
  after_here j b t en other g c own new = elim (en.locked i s own at) [
    | inl (d, was) ↦ absurd (none_is_no_some
        (record { stamp = en.stamp; grant = en.grant_of i; last = d }) (sym new.free ∙ was))
    | inr le ↦ let e = new.last in omega arith
  ]

  entered_after : (j : ℕ) (t : Node) → IsNode w j t → IsEntered w j t
      → IsEntered (after w i done) j t
  entered_after j t tat en = record {
    stamp = en.stamp;
    grant_of = en.grant_of;
    node = en.node;
    inside = en.inside;
    ended = en.ended;
    sent = λ a own. let r = en.sent a own in
        (r.0, sent_after w i s done at a j (Locked en.stamp (en.grant_of a) r.0) r.1);
    kept = λ a own sent. elim (sent_cases j a (Relinquish en.stamp (en.grant_of a)) sent) [
      | inl old ↦ en.kept a own old
      | inr p ↦ kept_here j a t en tat p.0 p.1
    ];
    released = λ a later u sent le. elim (sent_cases j a (Release later u) sent) [
      | inl old ↦ en.released a later u old le
      | inr p ↦
          let same : t.requester.mine ≡ s.requester.mine =
          ap (λ x. x.requester.mine) (was w i s at j t p.0 tat) in
          let k : done.state.requester.mine ≤ u = p.1.mine in let l = moves.mine in omega arith
    ];
    locked = λ a arbiter own aat. elim (node_cases w i s done at a arbiter aat) [
      | inl p ↦ subst (λ x. ((c : ℕ) × IsLockedFor arbiter en.stamp (en.grant_of x) c)
          ⊎ (t.requester.mine ≤ arbiter.arbiter.last)) (sym p.0)
          (subst (λ x. ((c : ℕ) × IsLockedFor x en.stamp (en.grant_of i) c)
          ⊎ (t.requester.mine ≤ x.arbiter.last)) (sym p.1)
          (locked_here j t en (subst (λ x. is_own t.requester x ≡ true) p.0 own)))
      | inr p ↦ en.locked a arbiter own p.1
    ];
    after = λ a b other g c own sent lt. elim (sent_locked a b other g c sent) [
      | inl old ↦ en.after a b other g c own old lt
      | inr p ↦ after_here j b t en other g c (subst (λ x. is_own t.requester x ≡ true) p.0 own) p.1
    ];
  }

  placed_after : (j name count : ℕ) (row : List Bool) → IsPlaced w j name count row
      → IsPlaced (after w i done) j name count row
  placed_after j name count row ok = record {
    me = ok.me;
    few = ok.few;
    own_few = ok.own_few;
    own_node = λ a own. let r = ok.own_node a own in node_after w i s done at a r.0 r.1;
    meet = λ k u uat. each_after w i s done at
        (λ x. (a : ℕ) × (slice_index_or row a false ≡ true) × (is_own x.requester a ≡ true)) k
        (ok.meet k)
        (λ e p. (p.0, p.1, ap (λ x. slice_index_or x p.0 false) moves.own ∙ p.2)) u uat;
  }

  -- what holds for a state of a node before the step holds for this state after it
  pub node_ok_after : (j : ℕ) (t : Node) → IsNode w j t → IsNodeOk (after w i done) j t
  node_ok_after j t tat =
      let ok = good.nodes j t tat in record {
        placed = placed_after j t.requester.me t.requester.count t.requester.own ok.placed;
        back_places = ok.back_places;
        held_places = ok.held_places;
        issued = ok.issued;
        ours_node = ok.ours_node;
        ours_number = ok.ours_number;
        mine_top = ok.mine_top;
        top_reached = reached_after t.requester.top ok.top_reached;
        last_reached = reached_after t.arbiter.last ok.last_reached;
        lock_last = λ lock has. let r = ok.lock_last lock has in (
          r.0,
          sent_after w i s done at j lock.stamp.node
              (Locked lock.stamp lock.grant lock.last) r.1,
        );
        held = λ busy a g has. held_after j t a g tat busy has (ok.held busy a g has);
        inside_holds = ok.inside_holds;
        remembered_held = ok.remembered_held;
        entered = λ some. entered_after j t tat (ok.entered some);
      }

  locked_old : (a b : ℕ) (stamp : Stamp) (g c : ℕ) → IsLockedOk w a b stamp g c
      → IsLockedOk (after w i done) a b stamp g c
  locked_old a b stamp g c ok = record {
    node = ok.node;
    granted = each_after w i s done at (λ x. g ≤ x.arbiter.granted) a ok.granted
        (λ e le. let l = moves.granted in omega arith);
    reached = reached_after c ok.reached;
    same = λ ob other oc sent. elim (sent_locked a ob other g oc sent) [
      | inl old ↦ ok.same ob other oc old
      | inr p ↦ let le : g ≤ s.arbiter.granted = ok.granted s (at_as w i s at a p.0) in
          absurd (omega arith)
    ];
    ends = each_after w i s done at (λ x. IsLockedFor x stamp g c
        ⊎ IsOver (after w i done) a b stamp g) a
        (λ t tat. elim (ok.ends t tat) [ inl l ↦ inl l | inr o ↦ inr (over_after a b stamp g o) ])
        (λ e was. elim was [
          | inl l ↦ elim (moves.lock stamp g c l) [
            | inl stays ↦ inl stays
            | inr end ↦ inr (over_after a b stamp g
                (subst (λ x. IsOver w x b stamp g) (sym e)
                (over_from b stamp g done.state.arbiter.last ok.node end)))
          ]
          | inr o ↦ inr o
        ]);
  }

  locked_new : (b : ℕ) (stamp : Stamp) (g c : ℕ) → IsGranted s done.state b stamp g c
      → IsLockedOk (after w i done) i b stamp g c
  locked_new b stamp g c new = record {
    node = new.node;
    granted = λ t tat. let e : t.arbiter.granted ≡ done.state.arbiter.granted =
        ap (λ x. x.arbiter.granted) (is_new w i s done at i t refl tat) in let f = new.granted in
        omega arith;
    reached = subst (λ x. IsReached (after w i done) x) (sym new.last)
        (reached_after s.arbiter.last (good.nodes i s at).last_reached);
    same = λ ob other oc sent. elim (sent_locked i ob other g oc sent) [
      | inl old ↦ let le : g ≤ s.arbiter.granted =
          (good.letters i ob (Locked other g oc) old).granted s at in let lt = new.above in
          absurd (omega arith)
      | inr p ↦
          let lock = p.1.lock in let mine = new.lock in
          let e : record { stamp = other; grant = g; last = oc }
          ≡ record { stamp = stamp; grant = g; last = c } =
          same_Some {A = Lock} (record { stamp = other; grant = g; last = oc })
          (record { stamp = stamp; grant = g; last = c }) (sym lock ∙ mine) in
          (ap (λ x. x.stamp) e, ap (λ x. x.last) e)
    ];
    ends = λ t tat. inl (subst (λ x. IsLockedFor x stamp g c)
        (sym (is_new w i s done at i t refl tat)) new.lock);
  }

  letter_old : (a b : ℕ) (m : MaekawaMsg) → IsLetterOk w a b m → IsLetterOk (after w i done) a b m
  letter_old a b (Request stamp) ok = tt
  letter_old a b (Locked stamp g c) ok = locked_old a b stamp g c ok
  letter_old a b (Failed stamp) ok = tt
  letter_old a b (Inquire stamp g) ok =
      (ok.0, sent_after w i s done at a b (Locked stamp g ok.0) ok.1)
  letter_old a b (Relinquish stamp g) ok = record {
    node = ok.node;
    issued = each_after w i s done at (λ x. stamp.number ≤ x.requester.issued) a ok.issued
        (λ e le. let l = moves.issued in omega arith);
    given = each_after w i s done at (λ x. IsGiven x.requester b stamp g) a ok.given
        (λ e was. moves.given b stamp g (ok.issued s (at_as w i s at a e)) was);
  }
  letter_old a b (Release stamp t) ok = record {
    node = ok.node;
    ended = each_after w i s done at (λ x. IsEnded x.requester stamp.number) a ok.ended
        (λ e was. moves.ended stamp.number was);
    reached = reached_after t ok.reached;
  }

  letter_new : (b : ℕ) (m : MaekawaMsg) → IsSendable w i s done.state b m
      → IsLetterOk (after w i done) i b m
  letter_new b (Request stamp) new = tt
  letter_new b (Locked stamp g c) (inl old) =
      locked_old i b stamp g c (good.letters i b (Locked stamp g c) old)
  letter_new b (Locked stamp g c) (inr new) = locked_new b stamp g c new
  letter_new b (Failed stamp) new = tt
  letter_new b (Inquire stamp g) new =
      (new.0, sent_after w i s done at i b (Locked stamp g new.0) new.1)
  letter_new b (Relinquish stamp g) new = record {
    node = new.node;
    issued = λ t tat. let e : t.requester.issued ≡ done.state.requester.issued =
        ap (λ x. x.requester.issued) (is_new w i s done at i t refl tat) in let f = new.number in
        let l = moves.issued in omega arith;
    given = λ t tat. subst (λ x. IsGiven x.requester b stamp g)
        (sym (is_new w i s done at i t refl tat)) new.given;
  }
  letter_new b (Release stamp t) new = record {
    node = new.node;
    ended = λ u uat. subst (λ x. IsEnded x.requester stamp.number)
        (sym (is_new w i s done at i u refl uat)) new.ended;
    reached = reached_after t new.reached;
  }

  -- a world is sound after a step if the node's new state is as it should be
  pub sound_after : IsNodeOk (after w i done) i done.state → IsSound (after w i done)
  sound_after node = each_after_step IsNodeOk IsLetterOk w i s done at good
      (λ j t tat _. node_ok_after j t tat) (λ a b m _ ok. letter_old a b m ok) node
      (λ b m sent. letter_new b m (may b m sent))
