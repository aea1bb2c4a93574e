use Rattle.std.proofs.Common.{◌≡◌}
use Rattle.mx_live.specs.Progress.{Progresses}
use Rattle.mx_live.proofs.progress.report_progress.Given as goal

abbrev pub invariant-loop-second : goal.invariant-loop-second
invariant-loop-second g l = record {
  progress : Progresses l.shown (g.E.Output.written l.initial.err) (g.E.Output.written l.err);
  stays : g.E.Output.takes_all l.err ≡ g.E.Output.takes_all l.initial.err;
}
