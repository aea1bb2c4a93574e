use Rattle.mx_member.specs.declared.acts.Act.TheVariants.{Enter}
use Rattle.mx_stations.proofs.SameTable.{act_kept, goes_kept, kept_on}
use Rattle.mx_tests.proofs.settled_stations.take_turn.Goals as goal

pub returns : goal.returns
returns g c =
    let core = g.C.Exclusion.core in
    let start = c.args.station.now in
    let end = c.turn-report.new.self in
    kept_on start c.ask_if_due.new.station end c.ask_if_due.ensures
    (kept_on c.ask_if_due.new.station c.enter.new.self end (act_kept core Enter c.enter.result c.ask_if_due.new.station c.enter.new.self c.enter.ensures.done c.enter.ensures.refused)
    (kept_on c.enter.new.self c.count.new.station end c.count.ensures
    (goes_kept core c.count.new.station end c.turn-report.ensures.goes)))
