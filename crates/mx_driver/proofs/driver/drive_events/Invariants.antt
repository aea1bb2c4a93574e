use Rattle.std.proofs.Common.{◌≡◌, drop, length}
use Rattle.mx_cli.specs.Printing.{sight}
use Rattle.mx_driver.specs.Runs.{report_from}
use Rattle.mx_driver.specs.Sinks.{IsTold}
use Rattle.mx_driver.proofs.RunLemmas.{Printed, remaining}
use Rattle.mx_driver.proofs.driver.drive_events.Given as goal

abbrev pub invariant-loop-index : goal.invariant-loop-index
invariant-loop-index g l =
    let core = g.C.Exclusion.core in
    let texts = g.K.Sink.texts l.initial.sink l.plan in
    let tells = g.K.Sink.tells l.plan in
    record {
      sink : g.K.Sink.texts l.sink ≡ g.K.Sink.texts l.initial.sink;
      members : length l.cluster.members ≡ length l.plan.nodes;
      printed : Printed (sight g.O.Output l.initial.out) (sight g.O.Output l.out) (report_from core texts 0 l.initial.cluster l.events) (remaining core texts l.events l.index l.cluster);
      -- what the sink is told from here on, after what it was told so far, is the whole
      told : (last : g.row.K.Denot) → IsTold core tells l.index l.cluster (drop l.index l.events) l.sink last
          → IsTold core tells 0 l.initial.cluster l.events l.initial.sink last;
    }
