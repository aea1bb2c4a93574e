use Rattle.std.proofs.Common.{◌≡◌, ◌+◌, arith, refl, rules}
use Rattle.mx_stations.proofs.Rounding.{rounds_made, rounds_on, rounds_rest}
use Rattle.mx_stations.proofs.Within.{settling_within}
use Rattle.mx_stations.proofs.settlement.settle_on.Goals as goal

pub new-requires : goal.new-requires
new-requires g c = omega arith

pub returns-then-not-arrive : goal.returns-then-not-arrive
returns-then-not-arrive g c = record {
  most = (0, omega arith, rounds_rest g.C.Exclusion.core c.args.script.now.register c.args.every _ _ refl);
  within = λ is. is;
  done = λ ended. cc;
  outside = λ ended. cc;
  not_yet = λ n ended. cc;
  shut = λ shut. refl;
}

pub loop-turn-init : goal.loop-turn-init
loop-turn-init g c = record { works = rounds_rest g.C.Exclusion.core c.args.script.now.register c.args.every _ _ refl; within = λ is. is }

pub loop-turn-preserved : goal.loop-turn-preserved
loop-turn-preserved g c = record {
  works = rounds_on g.C.Exclusion.core c.args.script.now.register c.args.every c.loop-turn._turn c.receipts-before.result.now _ _ _ _ c.loop-turn.invariant.works c.receipts-before.ensures c.take_turn.ensures.turn c.settle_if_due.ensures;
  within = λ is. settling_within g.C.Exclusion.core g.met.C.Exclusion.phases c.args.script.now.sections c.args.every _ _ _ c.settle_if_due.ensures (c.take_turn.ensures.within (c.loop-turn.invariant.within is));
}

pub returns-then-done : goal.returns-then-done
returns-then-done g c =
    let low = c.loop-turn-test.true in record {
      most = (
        c.loop-turn._turn + 1,
        omega arith,
        rounds_on g.C.Exclusion.core c.args.script.now.register c.args.every c.loop-turn._turn c.receipts-before.result.now _ _ _ _ c.loop-turn.invariant.works c.receipts-before.ensures c.take_turn.ensures.turn c.settle_if_due.ensures,
      );
      within = λ is. settling_within g.C.Exclusion.core g.met.C.Exclusion.phases c.args.script.now.sections c.args.every _ _ _ c.settle_if_due.ensures (c.take_turn.ensures.within (c.loop-turn.invariant.within is));
      done = λ ended. c.if-is_finished.ensures.enough refl;
      outside = λ ended. c.if-is_finished.ensures.outside refl;
      not_yet = λ n ended. cc;
      shut = λ shut. cc;
    }

pub returns : goal.returns
returns g c = record {
  most = (c.loop-turn._turn, c.loop-turn.auto._turn-end, c.loop-turn.invariant.works);
  within = c.loop-turn.invariant.within;
  done = λ ended. cc;
  outside = λ ended. cc;
  not_yet = λ n ended.
      let same : n ≡ c.args.turns = cc in
      let all : c.loop-turn._turn ≡ n = (let t = c.loop-turn-test.false in let a = c.loop-turn.auto._turn-end in omega arith) in
      (same, rounds_made g.C.Exclusion.core c.args.script.now.register c.args.every c.loop-turn._turn n _ _ all c.loop-turn.invariant.works);
  shut = λ shut. cc;
}

pub is_finished-requires : goal.is_finished-requires
is_finished-requires g c = search rules

pub settle_if_due-requires : goal.settle_if_due-requires
settle_if_due-requires g c = search rules

pub is_to_ask-asks-requires : goal.is_to_ask-asks-requires
is_to_ask-asks-requires g c = search rules

pub wait-requires : goal.wait-requires
wait-requires g c = search rules
