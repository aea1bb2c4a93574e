use Rattle.std.proofs.Common.{◌≡◌, List, drop, length}
use Rattle.mx_plan.specs.Text.{Text}
use Rattle.mx_cli.specs.Printing.{sight}
use Rattle.mx_driver.proofs.RunLemmas.{Printed}
use Rattle.mx_shown_scripts.specs.ShownScripts.{ShowsAll, report_shown}
use Rattle.mx_scripts.specs.States.{RunState}
use Rattle.mx_shown_scripts.proofs.ShownLemmas.{left}
use Rattle.mx_shown_scripts.proofs.shown_script.Showing.print.Given as goal

abbrev pub invariant-loop-happening : goal.invariant-loop-happening
invariant-loop-happening g l =
    let core = g.C.Exclusion.core in
    let parts = g.C.Msg.Letter.parts in
    let knows = g.C.Knowledge.knows in
    let p = l.self.plan.now in
    let view = l.self.view.now in
    record {
      members : length l.state.cluster.members ≡ length p.nodes;
      -- what is shown was printed up to the first of these texts
      shown : (last : RunState g.row.C.Denot g.row.C-Msg.Denot) → (texts : List Text) → ShowsAll core parts p view knows l.initial.state l.happened last texts
          → (rest : List Text) × ShowsAll core parts p view knows l.state (drop l.happening-index l.happened) last rest
          × Printed (sight g.O.Output l.fn.out) (sight g.O.Output l.out) (report_shown core parts p view knows l.initial.state texts l.fault last) (left core p view knows l.fault last rest);
    }
