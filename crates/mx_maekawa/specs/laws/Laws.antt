-- The promises on phases, and all laws together.
use Rattle.std.proofs.Common.{ℕ, zero, suc, ◌<◌, ◌≡◌, ◌↔◌, inl, inr, cond, false, not, ◌&&◌, List, Option, Some, None, slice_index_or, get_or, nat_eq, nat_lt, refl, sym, ◌∙◌, ap, arith}
use Rattle.mx_stamps.specs.declared.stamp.Stamp.{Stamp}
use Rattle.mx_stamps.specs.Lists.{IsIn}
use Rattle.mx_stamps.proofs.Lists.{none_is_no_some, get_or_replicate, get_each_below, has_each_below, length_replicate}
use Rattle.mx_stamps.proofs.Choices.{cond_case}
use Rattle.mx_letters.specs.declared.maekawa.MaekawaMsg.{MaekawaMsg}
use Rattle.mx_letters.specs.declared.maekawa.MaekawaMsg.TheVariants.{Request, Locked, Failed, Inquire, Relinquish, Release}
use Rattle.mx_nodelaws.specs.World.{Done, becoming, IsNode, WasSent}
use Rattle.mx_nodelaws.specs.Core.{KeepsPhases}
use Rattle.mx_nodelaws.specs.Laws.{KeepsGood, started}
use Rattle.mx_nodelaws.specs.Phases.{is_busy}
use Rattle.mx_nodelaws.specs.Rows.{course}
use Rattle.mx_nodelaws.specs.declared.phase.Phase.TheVariants.{Idle}
use Rattle.mx_nodelaws.proofs.Phases.{idle_apart, idle_not_busy}
use Rattle.mx_nodelaws.proofs.Each.{each_at_start, each_again}
use Rattle.mx_nodelaws.proofs.Rows.{phases_of, laws_of}
use Rattle.mx_quorums.specs.Family.{Family, IsMeeting}
use Rattle.mx_maekawa.specs.Node.{RequesterState, Node}
use Rattle.mx_maekawa.specs.RequesterStep.{RequesterDone, saying, held_at, remembered_at, back_at, holds, has_ended, giving, give_below, failing, fail, release_ended, holding, is_current_wait, locked_fresh, locked_current, take_locked, take_failed, has_failed_below, giving_now, remembering, declining, inquired_held, inquired, take_inquire}
use Rattle.mx_maekawa.specs.ArbiterStep.{take_request, take_relinquish, take_release}
use Rattle.mx_maekawa.specs.Step.{by_requester, by_arbiter, seeing, is_answer, is_call, start_of, deliver_of, maekawa_rows, maekawa_core}
use Rattle.mx_maekawa.specs.Good.{NodeWorld, IsOver, IsEntered, IsHeldOk, IsNodeOk, IsLetterOk, IsSafe, IsGood, BoundedLetter, BoundedNode}
use Rattle.mx_maekawa.specs.laws.Keeps.{ask_safe, deliver_safe, enter_safe, ended_safe, tick_safe}
use Rattle.mx_maekawa.specs.laws.Bounds.{ask_done, deliver_done, enter_done, ended_done, tick_done, start_node}
use Rattle.mx_maekawa.specs.laws.Safety.{one_inside, nobody_inside, top_greatest}

-- a letter comes: the requester keeps its phase, `mine` and its limit

abbrev Stays : RequesterState → RequesterState → Type 0
Stays r new = course new.phase new.mine new.limit ≡ course r.phase r.mine r.limit

giving_stays : (o : Option ℕ) (r x : RequesterState) (b : ℕ) → Stays r x
    → Stays r (giving o x b).state
giving_stays None r x b h = h
giving_stays (Some g) r x b h = h

give_stays : (n : ℕ) (r x : RequesterState) → Stays r x → Stays r (give_below n x).state
give_stays zero r x h = h
give_stays (suc n) r x h =
    let y = (give_below n x).state in giving_stays (remembered_at y n) r y n (give_stays n r x h)

released_stays : (r : RequesterState) (stamp : Stamp) (a : ℕ)
    → Stays r (release_ended r stamp a).state
released_stays r stamp a = cond_case (λ d. Stays r d.state) (has_ended r stamp)
    (saying r a (Release stamp r.top)) (becoming r) (λ _. refl) (λ _. refl)

locked_stays : (a : ℕ) (stamp : Stamp) (g c : ℕ) (r : RequesterState)
    → Stays r (take_locked a stamp g c r).state
locked_stays a stamp g c r =
    let P : RequesterDone (Unit {0}) → Type 0 = λ d. Stays r d.state in
    cond_case P (is_current_wait r stamp) (locked_current a stamp g c r) (release_ended r stamp a)
    (λ _. cond_case P (holds r a) (becoming r) (locked_fresh a stamp g c r) (λ _. refl)
    (λ _. cond_case P (nat_lt (back_at r a) g) (becoming (holding r a g c))
    (saying r a (Relinquish stamp g)) (λ _. refl) (λ _. refl)))
    (λ _. released_stays r stamp a)

failed_stays : (a : ℕ) (stamp : Stamp) (r : RequesterState) → Stays r (take_failed a stamp r).state
failed_stays a stamp r =
    cond_case (λ d. Stays r d.state) (is_current_wait r stamp && not (holds r a)) (fail a r)
    (becoming r)
    (λ _. give_stays r.count r (failing r a) refl) (λ _. refl)

inquired_stays : (o : Option ℕ) (a : ℕ) (stamp : Stamp) (g : ℕ) (r : RequesterState)
    → Stays r (inquired o a stamp g r).state
inquired_stays None a stamp g r = give_stays r.count r (failing (declining r a g) a) refl
inquired_stays (Some h) a stamp g r =
    let P : RequesterDone (Unit {0}) → Type 0 = λ d. Stays r d.state in
    cond_case P (nat_eq h g) (inquired_held a stamp g r) (saying r a (Relinquish stamp g))
    (λ _. cond_case P (has_failed_below r r.count)
    (saying (giving_now r a g) a (Relinquish stamp g)) (becoming (remembering r a g))
    (λ _. refl) (λ _. refl))
    (λ _. refl)

inquire_stays : (a : ℕ) (stamp : Stamp) (g : ℕ) (r : RequesterState)
    → Stays r (take_inquire a stamp g r).state
inquire_stays a stamp g r =
    cond_case (λ d. Stays r d.state) (is_current_wait r stamp) (inquired (held_at r a) a stamp g r)
    (release_ended r stamp a)
    (λ _. inquired_stays (held_at r a) a stamp g r) (λ _. released_stays r stamp a)

abbrev NodeStays : Node → Done Node (Unit {0}) MaekawaMsg → Type 0
NodeStays s d = Stays s.requester d.state.requester

called : (s : Node) (from : ℕ) (stamp : Stamp) (done : Done Node (Unit {0}) MaekawaMsg)
    → NodeStays s done → NodeStays s (cond (is_call s from stamp) done (becoming s))
called s from stamp done h =
    cond_case (NodeStays s) (is_call s from stamp) done (becoming s) (λ _. h) (λ _. refl)

answered : (s : Node) (from : ℕ) (stamp : Stamp) (done : Done Node (Unit {0}) MaekawaMsg)
    → NodeStays s done → NodeStays s (cond (is_answer s from stamp) done (becoming s))
answered s from stamp done h =
    cond_case (NodeStays s) (is_answer s from stamp) done (becoming s) (λ _. h) (λ _. refl)

deliver_stays : (from : ℕ) (m : MaekawaMsg) (s : Node) → NodeStays s (deliver_of from m s)
deliver_stays from (Request stamp) s =
    called s from stamp (by_arbiter (seeing s stamp.number) (take_request stamp s.arbiter)) refl
deliver_stays from (Locked stamp g c) s =
    answered s from stamp (by_requester s (take_locked from stamp g c s.requester))
    (locked_stays from stamp g c s.requester)
deliver_stays from (Failed stamp) s =
    answered s from stamp (by_requester s (take_failed from stamp s.requester))
    (failed_stays from stamp s.requester)
deliver_stays from (Inquire stamp g) s =
    answered s from stamp (by_requester s (take_inquire from stamp g s.requester))
    (inquire_stays from stamp g s.requester)
deliver_stays from (Relinquish stamp g) s =
    called s from stamp (by_arbiter s (take_relinquish stamp g s.arbiter)) refl
deliver_stays from (Release stamp t) s =
    called s from stamp (by_arbiter s (take_release stamp t s.arbiter)) refl

pub maekawa_phases : KeepsPhases maekawa_core
maekawa_phases = phases_of maekawa_rows (record {
  start = λ shape i origin limit. refl;
  ask = λ s. refl;
  deliver = deliver_stays;
  enter = λ s. refl;
  leave = λ s. refl;
  cancel = λ s. refl;
  tick = λ s. refl;
})

-- the start

start_ok : (shape : Family) (origin limit : ℕ) → IsMeeting shape → (i : ℕ) → i < shape.count
    → IsNode (started maekawa_core shape origin limit) i (start_of shape i origin limit)
    → IsNodeOk (started maekawa_core shape origin limit) i (start_of shape i origin limit)
start_ok shape origin limit valid i lt at = record {
  placed = record {
    me = refl;
    few = valid.few;
    own_few = λ a own. valid.nodes i a lt own;
    own_node = λ a own. (
      start_of shape a origin limit,
      has_each_below (λ k. start_of shape k origin limit) shape.count a (valid.nodes i a lt own),
    );
    meet = λ j t tat.
        let r = get_each_below (λ k. start_of shape k origin limit) shape.count j t tat in
        let p = valid.meet i j lt r.0 in
        (p.0, p.1, ap (λ x. slice_index_or x.requester.own p.0 false) r.1 ∙ p.2);
  };
  back_places = length_replicate {X = ℕ} 21 origin;
  held_places = length_replicate {X = Option ℕ} 21 None;
  issued = omega arith;
  ours_node = λ busy. absurd (idle_not_busy Idle refl busy);
  ours_number = λ busy. absurd (idle_not_busy Idle refl busy);
  mine_top = omega arith;
  top_reached = (i, start_of shape i origin limit, at, omega arith);
  last_reached = (i, start_of shape i origin limit, at, omega arith);
  lock_last = λ lock has. absurd (none_is_no_some lock has);
  held = λ busy. absurd (idle_not_busy Idle refl busy);
  inside_holds = λ n inside. absurd (idle_apart n inside);
  remembered_held = λ a g was. absurd (none_is_no_some g (sym (get_or_replicate 21 a None) ∙ was));
  entered = λ some. absurd (omega arith);
}

started_safe : (shape : Family) (origin limit : ℕ) → IsMeeting shape
    → IsSafe (started maekawa_core shape origin limit)
started_safe shape origin limit valid = record {
  sound = each_at_start IsNodeOk IsLetterOk (λ i. start_of shape i origin limit) shape.count
      (start_ok shape origin limit valid);
  none_overdue = λ i s at a g b lt was.
      let r = get_each_below (λ k. start_of shape k origin limit) shape.count i s at in
      absurd (none_is_no_some g (sym (get_or_replicate 21 a None)
      ∙ sym (ap (λ x. get_or x.requester.remembered a None) r.1) ∙ was));
}

module _ (w : NodeWorld) (sent : List (ℕ × ℕ × MaekawaMsg))
    (same : (x : ℕ × ℕ × MaekawaMsg) → IsIn x w.sent ↔ IsIn x sent) where
  abbrev w2 : NodeWorld
  w2 = record { nodes = w.nodes; sent = sent }

  into : (a b : ℕ) (m : MaekawaMsg) → WasSent w a b m → WasSent w2 a b m
  into a b m h = (same (a, b, m)).0 h

  outof : (a b : ℕ) (m : MaekawaMsg) → WasSent w2 a b m → WasSent w a b m
  outof a b m h = (same (a, b, m)).1 h

  entered_by : (i : ℕ) (s : Node) → IsEntered w i s → IsEntered w2 i s
  entered_by i s en = record {
    stamp = en.stamp;
    grant_of = en.grant_of;
    node = en.node;
    inside = en.inside;
    ended = en.ended;
    sent =
        λ a own. let r = en.sent a own in (r.0, into a i (Locked en.stamp (en.grant_of a) r.0) r.1);
    kept = λ a own h. en.kept a own (outof i a (Relinquish en.stamp (en.grant_of a)) h);
    released = λ a later t h le. en.released a later t (outof i a (Release later t) h) le;
    locked = en.locked;
    after =
        λ a b other g c own h lt. en.after a b other g c own (outof a b (Locked other g c) h) lt;
  }

  held_by : (s : Node) (a g : ℕ) → IsHeldOk w s a g → IsHeldOk w2 s a g
  held_by s a g ok = record { own = ok.own; back = ok.back; c = ok.c; top = ok.top; lock = ok.lock }

  node_by : (i : ℕ) (s : Node) → IsNodeOk w i s → IsNodeOk w2 i s
  node_by i s ok = record {
    placed = let p = ok.placed in record {
      me = p.me;
      few = p.few;
      own_few = p.own_few;
      own_node = p.own_node;
      meet = p.meet;
    };
    back_places = ok.back_places;
    held_places = ok.held_places;
    issued = ok.issued;
    ours_node = ok.ours_node;
    ours_number = ok.ours_number;
    mine_top = ok.mine_top;
    top_reached = ok.top_reached;
    last_reached = ok.last_reached;
    lock_last = λ lock has. let r = ok.lock_last lock has in
        (r.0, into i lock.stamp.node (Locked lock.stamp lock.grant lock.last) r.1);
    held = λ busy a g has. held_by s a g (ok.held busy a g has);
    inside_holds = ok.inside_holds;
    remembered_held = ok.remembered_held;
    entered = λ some. entered_by i s (ok.entered some);
  }

  over_by : (a b : ℕ) (stamp : Stamp) (g : ℕ) → IsOver w a b stamp g → IsOver w2 a b stamp g
  over_by a b stamp g (inl h) = inl (into b a (Relinquish stamp g) h)
  over_by a b stamp g (inr (later, t, h, le)) = inr (later, t, into b a (Release later t) h, le)

  letter_by : (a b : ℕ) (m : MaekawaMsg) → IsLetterOk w a b m → IsLetterOk w2 a b m
  letter_by a b (Request stamp) ok = tt
  letter_by a b (Locked stamp g c) ok = record {
    node = ok.node;
    granted = ok.granted;
    reached = ok.reached;
    same = λ ob other oc h. ok.same ob other oc (outof a ob (Locked other g oc) h);
    ends = λ s at. elim (ok.ends s at) [ inl l ↦ inl l | inr o ↦ inr (over_by a b stamp g o) ];
  }
  letter_by a b (Failed stamp) ok = tt
  letter_by a b (Inquire stamp g) ok = (ok.0, into a b (Locked stamp g ok.0) ok.1)
  letter_by a b (Relinquish stamp g) ok =
      record { node = ok.node; issued = ok.issued; given = ok.given }
  letter_by a b (Release stamp t) ok =
      record { node = ok.node; ended = ok.ended; reached = ok.reached }

  by_membership : IsSafe w → IsSafe w2
  by_membership good = record {
    sound =
        each_again IsNodeOk IsLetterOk w sent same node_by letter_by good.sound;
    none_overdue = good.none_overdue;
  }

pub maekawa_laws : KeepsGood maekawa_core IsMeeting IsGood
maekawa_laws = laws_of maekawa_rows IsMeeting IsSafe BoundedNode BoundedLetter
    (record {
      start = started_safe;
      ask = ask_safe;
      deliver = deliver_safe;
      enter = enter_safe;
      leave = λ w i s safe at n inside. ended_safe w i s safe at (ap is_busy inside);
      cancel = λ w i s safe at waiting. ended_safe w i s safe at (ap is_busy waiting);
      tick = tick_safe;
      by_membership = by_membership;
      one_inside = one_inside;
      nobody_inside = nobody_inside;
      top_greatest = top_greatest;
    })
    (record {
      start = start_node;
      ask = ask_done;
      deliver = deliver_done;
      enter = enter_done;
      leave = ended_done;
      cancel = ended_done;
      tick = tick_done;
    })
