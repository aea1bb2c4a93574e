use Rattle.std.proofs.Common.{false, rules, sym, ap, ◌∙◌, subst}
use Rattle.mx_stations.specs.Turns.{HoldsUnknown, ending, noted_all, noted_puts}
use Rattle.mx_stations.proofs.Going.{goes_had, goes_nodes, goes_on, hand_empty, stays}
use Rattle.mx_stations.proofs.Posts.{on_err}
use Rattle.mx_stations.proofs.Turning.{begun_few, turns_from}
use Rattle.mx_stations.proofs.station.Station.turn.Goals as goal

pub returns-in_err-had-clause-goes : goal.returns-in_err-had-clause-goes
returns-in_err-had-clause-goes g c = stays g.C.Exclusion.core _ _ (c.in_err-had.ensures.memory ∙ c.forget_moves.ensures)

pub returns-in_err-had-clause-kept : goal.returns-in_err-had-clause-kept
returns-in_err-had-clause-kept g c =
    let e = c.in_err-had.ensures in
    on_err c.from_residual.result _ (subst (λ s. HoldsUnknown g.C.Exclusion.core s) (sym e.memory) e.held)

pub take_each-requires : goal.take_each-requires
take_each-requires g c = (search rules, (hand_empty g.C.Exclusion.core _ _ c.in_ok-had.had c.in_ok-had.ensures.delivered, begun_few c.in_ok-had.had _ c.begin-report.ensures))

pub returns-in_err-take_each-clause-goes : goal.returns-in_err-take_each-clause-goes
returns-in_err-take_each-clause-goes g c = goes_on g.C.Exclusion.core _ _ _ (stays g.C.Exclusion.core _ _ c.forget_moves.ensures) (goes_on g.C.Exclusion.core _ _ _ (goes_had g.C.Exclusion.core false _ _ c.in_ok-had.had c.in_ok-had.ensures.delivered) c.take_each.ensures.goes)

pub returns-in_err-take_each-clause-kept : goal.returns-in_err-take_each-clause-kept
returns-in_err-take_each-clause-kept g c = on_err c.from_residual-in_err-take_each.result _ c.in_err-take_each.ensures.kept

pub put_each-requires : goal.put_each-requires
put_each-requires g c = (search rules, c.take_each.ensures.none_put)

pub returns-clause-turns : goal.returns-clause-turns
returns-clause-turns g c =
    let t = c.in_ok-take_each.ensures.taken in let p = c.put_each.ensures.put in
    let begins = c.in_ok-had.ensures.delivered in turns_from g.C.Exclusion.core _ _ _ _ c.forget_moves.ensures (record {
      had = c.in_ok-had.had;
      after_hand = c.deliver.new.self;
      begins = begins;
      takes = t.0;
      after_takes = c.take_each.new.self;
      taken = t.1;
      each_node = t.2 ∙ goes_nodes g.C.Exclusion.core _ _ (goes_had g.C.Exclusion.core false _ _ c.in_ok-had.had begins);
      puts = p.0;
      after_puts = c.put_each.new.self;
      put = p.1;
      as_often = p.2;
      ends = c.tick_if_idle.ensures.ends;
      ticks = c.tick_if_idle.ensures.idle;
      tells = ap (ending c.tick_if_idle.result) (p.3 ∙ ap (noted_puts p.0) (t.3 ∙ ap (noted_all t.0) c.begin-report.ensures));
    })

pub returns-clause-goes : goal.returns-clause-goes
returns-clause-goes g c =
    goes_on g.C.Exclusion.core _ _ _ (stays g.C.Exclusion.core _ _ c.forget_moves.ensures) (goes_on g.C.Exclusion.core _ _ _ (goes_had g.C.Exclusion.core false _ _ c.in_ok-had.had c.in_ok-had.ensures.delivered)
    (goes_on g.C.Exclusion.core _ _ _ c.take_each.ensures.goes (goes_on g.C.Exclusion.core _ _ _ c.put_each.ensures.goes c.tick_if_idle.ensures.goes)))

pub tick_if_idle-requires : goal.tick_if_idle-requires
tick_if_idle-requires g c = search rules
