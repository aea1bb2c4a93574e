-- The promises on phases, and all laws together.
use Rattle.std.proofs.Common.{ℕ, ◌<◌, ◌+◌, ◌≡◌, ◌⊎◌, ◌↔◌, inl, inr, List, Option, Some, None, nat_eq, nat_lt, refl, sym, ◌∙◌, ap, subst, arith}
use Rattle.mx_stamps.specs.declared.stamp.Stamp.{Stamp}
use Rattle.mx_stamps.specs.Lists.{IsIn}
use Rattle.mx_stamps.proofs.Lists.{dec_eq, get_each_below, length_each_below, none_is_no_some}
use Rattle.mx_stamps.proofs.Choices.{cond_case}
use Rattle.mx_letters.specs.declared.raymond.RaymondMsg.{RaymondMsg}
use Rattle.mx_letters.specs.declared.raymond.RaymondMsg.TheVariants.{Request, Privilege, Got}
use Rattle.mx_nodelaws.specs.World.{World, answering, becoming, IsNode}
use Rattle.mx_nodelaws.specs.Core.{KeepsPhases}
use Rattle.mx_nodelaws.specs.Laws.{KeepsGood, started}
use Rattle.mx_nodelaws.specs.Rows.{course_of}
use Rattle.mx_nodelaws.proofs.Rows.{phases_of, laws_of}
use Rattle.mx_trees.specs.Tree.{Rooted, IsRooted}
use Rattle.mx_raymond.specs.Queue.{head_of}
use Rattle.mx_raymond.specs.Node.{Node}
use Rattle.mx_raymond.specs.Step.{NodeDone, start_of, can_pass, passed, assign_privilege_to, assign_privilege, must_request, requested, make_request, serving, asking, take_holders_request, heard_from, queueing, take_others_request, take_request, holding, acknowledging, take_privilege, is_unacked, take_got, is_neighbour, deliver_of, leaving, withdrawing, raymond_rows, raymond_core}
use Rattle.mx_raymond.specs.Good.{IsLast, IsNodeOk, IsLetterOk, IsHeld, IsUnderWay, IsSafe, IsGood, BoundedLetter, BoundedNode}
use Rattle.mx_raymond.specs.laws.Keeps.{asked_safe, deliver_safe, entering_safe, left_safe, cancelled_safe, tick_safe}
use Rattle.mx_raymond.specs.laws.Safety.{one_inside, nobody_inside, top_greatest}
use Rattle.mx_raymond.specs.laws.Bounds.{start_bounded, asked_bounded, deliver_bounded, entering_bounded, left_bounded, cancelled_bounded, tick_bounded}

-- phases

-- the two states have the same phase, `mine` and limit
abbrev IsSteady : Node → Node → Type 0
IsSteady s new = course_of raymond_rows new ≡ course_of raymond_rows s

assign_to_steady : (o : Option ℕ) (s : Node) → IsSteady s (assign_privilege_to o s).state
assign_to_steady None s = refl
assign_to_steady (Some next) s =
    let P : NodeDone (Unit {0}) → Type 0 = λ d. IsSteady s d.state in
    cond_case P (can_pass s next) (passed s next) (becoming s) (λ _. refl) (λ _. refl)

make_steady : (s : Node) → IsSteady s (make_request s).state
make_steady s =
    let P : NodeDone (Unit {0}) → Type 0 = λ d. IsSteady s d.state in
    cond_case P (must_request s) (requested s) (becoming s) (λ _. refl) (λ _. refl)

serving_steady : {A : Type 0} (step : NodeDone A) → IsSteady step.state (serving step).state
serving_steady step = make_steady (assign_privilege step.state).state
    ∙ assign_to_steady (head_of step.state.queue) step.state

-- a delivery

request_steady : (from number : ℕ) (s : Node) → IsSteady s (take_request from number s).state
request_steady from number s =
    let P : NodeDone (Unit {0}) → Type 0 = λ d. IsSteady s d.state in
    let first : NodeDone (Unit {0}) = becoming (queueing s from number) in
    cond_case P (nat_eq from s.holder) (take_holders_request s) (take_others_request from number s)
    (λ _. refl)
    (λ _. cond_case P (nat_lt (heard_from s from) number) (serving first) (becoming s)
    (λ _. serving_steady first) (λ _. refl))

privilege_steady : (from hop last : ℕ) (s : Node)
    → IsSteady s (take_privilege from hop last s).state
privilege_steady from hop last s =
    let P : NodeDone (Unit {0}) → Type 0 = λ d. IsSteady s d.state in
    let first : NodeDone (Unit {0}) = acknowledging (holding s hop last) from hop in
    cond_case P (nat_lt s.hop hop) (serving first) (acknowledging s from hop)
    (λ _. serving_steady first) (λ _. refl)

got_steady : (from hop : ℕ) (s : Node) → IsSteady s (take_got from hop s).state
got_steady from hop s =
    let P : NodeDone (Unit {0}) → Type 0 = λ d. IsSteady s d.state in
    cond_case P (is_unacked s.unacked from hop) (becoming (record s { unacked = None }))
    (becoming s)
    (λ _. refl) (λ _. refl)

deliver_steady : (from : ℕ) (m : RaymondMsg) (s : Node) → IsSteady s (deliver_of from m s).state
deliver_steady from (Request number) s =
    let P : NodeDone (Unit {0}) → Type 0 = λ d. IsSteady s d.state in
    cond_case P (is_neighbour s from) (take_request from number s) (becoming s)
    (λ _. request_steady from number s) (λ _. refl)
deliver_steady from (Privilege hop last) s =
    let P : NodeDone (Unit {0}) → Type 0 = λ d. IsSteady s d.state in
    cond_case P (is_neighbour s from) (take_privilege from hop last s) (becoming s)
    (λ _. privilege_steady from hop last s) (λ _. refl)
deliver_steady from (Got hop) s =
    let P : NodeDone (Unit {0}) → Type 0 = λ d. IsSteady s d.state in
    cond_case P (is_neighbour s from) (take_got from hop s) (becoming s)
    (λ _. got_steady from hop s) (λ _. refl)

pub raymond_phases : KeepsPhases raymond_core
raymond_phases = phases_of raymond_rows (record {
  start = λ tree i origin limit. refl;
  ask = λ s. let first : NodeDone Stamp =
      answering (becoming (asking s)) (record { number = s.asks + 1; node = s.me }) in
      serving_steady first;
  deliver = deliver_steady;
  enter = λ s. refl;
  leave = λ s. let first : NodeDone (Unit {0}) = becoming (leaving s) in serving_steady first;
  cancel = λ s. let first : NodeDone (Unit {0}) = becoming (withdrawing s) in serving_steady first;
  tick = λ s. refl;
})

-- the start

module _ (tree : Rooted) (origin limit : ℕ) (valid : IsRooted tree) where
  abbrev at_rest : World Node RaymondMsg
  at_rest = started raymond_core tree origin limit

  -- the state of a node at the start
  started_as : (i : ℕ) (s : Node) → IsNode at_rest i s → (i < tree.count)
      × (s ≡ start_of tree i origin limit)
  started_as i s at = get_each_below (λ k. start_of tree k origin limit) tree.count i s at

  -- a node that is its own holder at the start is the holder of the tree
  started_alone : (j : ℕ) (t : Node) → IsNode at_rest j t → t.holder ≡ j → j ≡ tree.holder
  started_alone j t at e =
      let r = started_as j t at in
      elim (dec_eq j tree.holder) [
        | inl same ↦ same
        | inr ne ↦ absurd (valid.toward_other j r.0 ne (sym (ap (λ x. x.holder) r.1) ∙ e))
      ]

  none_entered : (n : ℕ) → IsLast at_rest n
  none_entered n j t at = let e : t.mine ≡ 0 = ap (λ x. x.mine) (started_as j t at).1 in omega arith

  started_held : IsHeld at_rest origin
  started_held = record {
    node = tree.holder;
    here = subst (λ n. tree.holder < n) (sym
        (length_each_below (λ k. start_of tree k origin limit) tree.count)) valid.holder;
    holder = λ t at. ap (λ x. x.holder) (started_as tree.holder t at).1 ∙ valid.toward_holder;
    hop = λ t at. ap (λ x. x.hop) (started_as tree.holder t at).1;
    top = λ t at. none_entered t.top;
    alone = started_alone;
    seen = λ a b last none. absurd none;
  }

  started_safe : IsSafe at_rest
  started_safe = record {
    highest = origin;
    at = record {
      nodes = λ i s at.
          let r = started_as i s at in
          subst (λ x. IsNodeOk at_rest origin i x) (sym r.1) (record {
            me = refl;
            hop = omega arith;
            mine_top = omega arith;
            top_reached = (i, start_of tree i origin limit, at ∙ ap Some r.1, omega arith);
            inside_holds = λ n e. let bad : ⊥ = cc in absurd bad;
            unacked_sent = λ u e. absurd (none_is_no_some u e);
          });
      letters = λ a b m none. absurd none;
      privilege = inl started_held;
    };
  }

-- only the set of the letters that were sent matters, not how often or in which order

module _ (w : World Node RaymondMsg) (sent : List (ℕ × ℕ × RaymondMsg))
    (same : (x : ℕ × ℕ × RaymondMsg) → IsIn x w.sent ↔ IsIn x sent) where
  abbrev other : World Node RaymondMsg
  other = record { nodes = w.nodes; sent = sent }

  letter_by : (highest b : ℕ) (m : RaymondMsg) → IsLetterOk w highest b m
      → IsLetterOk other highest b m
  letter_by highest b (Request number) ok = tt
  letter_by highest b (Privilege hop last) ok =
      record { low = ok.low; reached = ok.reached; seen = ok.seen }
  letter_by highest b (Got hop) ok = tt

  privilege_by : (highest : ℕ) → IsHeld w highest ⊎ IsUnderWay w highest → IsHeld other highest
      ⊎ IsUnderWay other highest
  privilege_by highest (inl h) = inl (record {
    node = h.node;
    here = h.here;
    holder = h.holder;
    hop = h.hop;
    top = h.top;
    alone = h.alone;
    seen = λ a b last was. h.seen a b last ((same (a, b, Privilege highest last)).1 was);
  })
  privilege_by highest (inr u) = inr (record {
    from = u.from;
    to = u.to;
    last = u.last;
    sent = (same (u.from, u.to, Privilege highest u.last)).0 u.sent;
    only = λ a b c was. u.only a b c ((same (a, b, Privilege highest c)).1 was);
    unseen = u.unseen;
    top = u.top;
    nobody = u.nobody;
  })

  by_membership : IsSafe w → IsSafe other
  by_membership safe = record {
    highest = safe.highest;
    at = record {
      nodes = λ i s at. let ok = safe.at.nodes i s at in record {
        me = ok.me;
        hop = ok.hop;
        mine_top = ok.mine_top;
        top_reached = ok.top_reached;
        inside_holds = ok.inside_holds;
        unacked_sent = λ u e. (same (i, u.to, Privilege u.hop u.last)).0 (ok.unacked_sent u e);
      };
      letters =
          λ a b m was. letter_by safe.highest b m (safe.at.letters a b m ((same (a, b, m)).1 was));
      privilege = privilege_by safe.highest safe.at.privilege;
    };
  }

pub raymond_laws : KeepsGood raymond_core IsRooted IsGood
raymond_laws = laws_of raymond_rows IsRooted IsSafe BoundedNode BoundedLetter
    (record {
      start = started_safe;
      ask = λ w i s safe at idle. asked_safe w i s at safe;
      deliver = λ w i s safe at. deliver_safe w i s at safe;
      enter = λ w i s safe at waiting has. entering_safe w i s at safe has;
      leave = λ w i s safe at n inside. left_safe w i s at safe;
      cancel = λ w i s safe at waiting. cancelled_safe w i s at safe;
      tick = λ w i s safe at. tick_safe w i s at safe;
      by_membership = by_membership;
      one_inside = one_inside;
      nobody_inside = nobody_inside;
      top_greatest = top_greatest;
    })
    (record {
      start = start_bounded;
      ask = asked_bounded;
      deliver = deliver_bounded;
      enter = entering_bounded;
      leave = left_bounded;
      cancel = cancelled_bounded;
      tick = tick_bounded;
    })
