use Rattle.std.proofs.Common.{rules}
use Rattle.mx_stations.proofs.Leaving.{has_turned}
use Rattle.mx_stations.proofs.Within.{leaving_within, serves_on, turned_within}
use Rattle.mx_stations.proofs.worker.take_turn.Goals as goal

pub returns : goal.returns
returns g c =
    let core = g.C.Exclusion.core in let phases = g.met.C.Exclusion.phases in
    let register = c.args.script.now.register in let most = c.args.script.now.sections in
    let served = serves_on core phases register most _ _ _ (c.ask_if_due.ensures register) (serves_on core phases register most _ _ _ (c.enter_if_due.ensures register most) (c.add_if_due.ensures most)) in
    record {
      turn = (_, _, served.0, c.leave_if_due.ensures, has_turned core c.turn-report.result _ _ c.turn-report.ensures.turns c.turn-report.ensures.goes c.turn-report.ensures.kept);
      within = λ is. turned_within core phases most _ _ c.turn-report.ensures.goes (leaving_within core phases most _ _ c.leave_if_due.ensures (served.1 is));
    }

pub before_turn-requires : goal.before_turn-requires
before_turn-requires g c = search rules

pub turn-report-requires : goal.turn-report-requires
turn-report-requires g c = search rules

pub after_turn-requires : goal.after_turn-requires
after_turn-requires g c = search rules
