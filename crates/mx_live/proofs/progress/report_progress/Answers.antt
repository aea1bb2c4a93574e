use Rattle.std.proofs.Common.{◌∙◌, arith, refl}
use Rattle.mx_live.proofs.ProgressLemmas.{more_told, none_told}
use Rattle.mx_live.proofs.progress.report_progress.Goals as goal

pub loop-second-init : goal.loop-second-init
loop-second-init g c = record { progress = none_told (g.E.Output.written c.args.err.now); stays = refl }

pub loop-second-preserved : goal.loop-second-preserved
loop-second-preserved g c = record {
  progress = more_told _ _ c.write_line.result _ _ _ c.loop-second.invariant.progress (omega (arith, c.max-shown.ensures)) c.write_line.ensures.ok c.write_line.ensures.err;
  stays = c.write_line.ensures.stays ∙ c.loop-second.invariant.stays;
}
