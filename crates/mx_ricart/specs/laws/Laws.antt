-- The promises on phases, and all laws together.
use Rattle.std.proofs.Common.{ℕ, ◌≡◌, ◌↔◌, not, ◌&&◌, List, nat_eq, refl, sym, arith}
use Rattle.mx_stamps.specs.Lists.{IsIn}
use Rattle.mx_stamps.specs.Stamp.{is_before_of, is_same_as}
use Rattle.mx_stamps.proofs.Lists.{length_each_below}
use Rattle.mx_stamps.proofs.Choices.{cond_case}
use Rattle.mx_letters.specs.declared.ricart.RicartMsg.{RicartMsg}
use Rattle.mx_letters.specs.declared.ricart.RicartMsg.TheVariants.{Request, Reply}
use Rattle.mx_nodelaws.specs.World.{World, Done, becoming}
use Rattle.mx_nodelaws.specs.Core.{KeepsPhases}
use Rattle.mx_nodelaws.specs.Laws.{KeepsGood, started}
use Rattle.mx_nodelaws.specs.Phases.{is_busy, is_waiting}
use Rattle.mx_nodelaws.specs.Rows.{course_of}
use Rattle.mx_nodelaws.proofs.Each.{each_at_start, each_again}
use Rattle.mx_nodelaws.proofs.Rows.{phases_of, laws_of}
use Rattle.mx_ricart.specs.Node.{Node}
use Rattle.mx_ricart.specs.Step.{IsCount, start_of, is_other, has_reply, seeing, deferring, replied, take_request, counting, take_reply, deliver_of, ticked, ricart_rows, ricart_core}
use Rattle.mx_ricart.specs.Good.{IsNodeOk, IsLetterOk, IsSafe, BoundedLetter, BoundedNode, IsGood}
use Rattle.mx_ricart.specs.laws.Tests.{all_replies}
use Rattle.mx_ricart.specs.laws.Rows.{idle_ok, asked_good, deliver_good, entered_good, ended_good, tick_good}
use Rattle.mx_ricart.specs.laws.Bounds.{start_bounded, asked_bounded, deliver_bounded, entering_bounded, ended_bounded, tick_bounded}
use Rattle.mx_ricart.specs.laws.Safety.{one_inside, nobody_inside, top_greatest}

-- phases

-- the step changes neither the phase nor `mine` nor the limit
abbrev IsSteady : Node → Done Node (Unit {0}) RicartMsg → Type 0
IsSteady s done = course_of ricart_rows done.state ≡ course_of ricart_rows s

deliver_steady : (from : ℕ) (m : RicartMsg) (s : Node) → IsSteady s (deliver_of from m s)
deliver_steady from (Request stamp) s =
    cond_case (IsSteady s) (is_other s from && nat_eq stamp.node from) (take_request s stamp)
    (becoming s)
    (λ _. cond_case (IsSteady s) (is_busy s.phase && is_before_of s.ours stamp)
    (becoming (deferring (seeing s stamp.number) stamp)) (replied (seeing s stamp.number) stamp)
    (λ _. refl) (λ _. refl))
    (λ _. refl)
deliver_steady from (Reply stamp top) s =
    cond_case (IsSteady s) (is_other s from) (take_reply s from stamp top) (becoming s)
    (λ _. cond_case (IsSteady s) (is_waiting s.phase
    && (is_same_as stamp s.ours && not (has_reply s from))) (becoming (counting s from top))
    (becoming s) (λ _. refl) (λ _. refl))
    (λ _. refl)

pub ricart_phases : KeepsPhases ricart_core
ricart_phases = phases_of ricart_rows (record {
  start = λ count i origin limit. refl;
  ask = λ s. refl;
  deliver = deliver_steady;
  enter = λ s. refl;
  leave = λ s. refl;
  cancel = λ s. refl;
  tick = λ s. cond_case (IsSteady s) (is_waiting s.phase) (ticked s) (becoming s) (λ _. refl)
      (λ _. refl);
})

-- the start

started_safe : (count origin limit : ℕ) → IsSafe (started ricart_core count origin limit)
started_safe count origin limit =
    each_at_start IsNodeOk IsLetterOk (λ i. start_of count i origin limit) count (λ i lt at.
    let e = length_each_below (λ k. start_of count k origin limit) count in
    idle_ok (started ricart_core count origin limit) i
    (start_of count i origin limit) refl refl refl (sym e) (omega arith)
    (i, start_of count i origin limit, at, omega arith))

-- only the set of the letters that were sent matters, not how often or in which order

module _ (w : World Node RicartMsg) (sent : List (ℕ × ℕ × RicartMsg))
    (same : (x : ℕ × ℕ × RicartMsg) → IsIn x w.sent ↔ IsIn x sent) where
  letter_again : (a b : ℕ) (m : RicartMsg) → IsLetterOk w a b m
      → IsLetterOk (record { nodes = w.nodes; sent = sent }) a b m
  letter_again a b (Request stamp) ok = record { node = ok.node; issued = ok.issued }
  letter_again a b (Reply stamp top) ok =
      record {
        other = ok.other;
        issued = ok.issued;
        seen = ok.seen;
        reached = ok.reached;
        stands = ok.stands;
      }

  node_again : (i : ℕ) (s : Node) → IsNodeOk w i s
      → IsNodeOk (record { nodes = w.nodes; sent = sent }) i s
  node_again i s ok = record {
    me = ok.me;
    count = ok.count;
    ours_node = ok.ours_node;
    ours_seen = ok.ours_seen;
    mine_top = ok.mine_top;
    top_reached = ok.top_reached;
    inside_has = ok.inside_has;
    replies = λ busy j has. let r = ok.replies busy j has in
        (r.0, (same (j, i, Reply s.ours r.0)).0 r.1, r.2);
    waits = ok.waits;
  }

pub ricart_laws : KeepsGood ricart_core IsCount IsGood
ricart_laws = laws_of ricart_rows IsCount IsSafe BoundedNode BoundedLetter
    (record {
      start = λ count origin limit valid. started_safe count origin limit;
      ask = λ w i s safe at idle. asked_good w i s safe at;
      deliver = deliver_good;
      enter = λ w i s safe at waiting all. entered_good w i s safe at waiting (all_replies s all);
      leave = λ w i s safe at n inside. ended_good w i s safe at;
      cancel = λ w i s safe at waiting. ended_good w i s safe at;
      tick = tick_good;
      by_membership = λ w sent same. each_again IsNodeOk IsLetterOk w sent same
          (node_again w sent same) (letter_again w sent same);
      one_inside = one_inside;
      nobody_inside = nobody_inside;
      top_greatest = top_greatest;
    })
    (record {
      start = start_bounded;
      ask = asked_bounded;
      deliver = λ n s ok from m lt. deliver_bounded n s ok from m;
      enter = entering_bounded;
      leave = ended_bounded;
      cancel = ended_bounded;
      tick = tick_bounded;
    })
