use Rattle.std.proofs.Common.{◌∙◌, arith, sym}
use Rattle.std.proofs.lemmas.Result.{IfErr-weaker, IfOk-weaker}
use Rattle.mx_plan.specs.declared.shape.Shape.TheVariants as planned
use Rattle.mx_live.proofs.ProgressLemmas.{tells_none}
use Rattle.mx_live.proofs.SectionLemmas.{come_by, none_by}
use Rattle.mx_live.proofs.node_runs.live_by_shape.Goals as goal

pub shape-requires : goal.shape-requires
shape-requires g c = omega arith

pub returns-in_ok-stations-in-Ricart : goal.returns-in_ok-stations-in-Ricart
returns-in_ok-stations-in-Ricart g c =
    let is = sym c.shape.ensures.value ∙ c.in-Ricart.is in
    let run = c.live_at.ensures in
    let rested = c.in_ok-stations-in-Ricart.ensures in
    record {
      serial = run.serial;
      sections = IfOk-weaker c.live_at.result _ _ (λ all come. come.0) (run.come c.in-Ricart.shape rested);
      come = IfOk-weaker c.live_at.result _ _ (λ all come. come_by (planned.Ricart c.in-Ricart.shape) c.args.plan.now _ _ _ is come.1) (run.come c.in-Ricart.shape rested);
      err = IfErr-weaker c.live_at.result _ _ (λ error none. none_by (planned.Ricart c.in-Ricart.shape) c.args.plan.now _ error is none) (run.err c.in-Ricart.shape rested);
      progress = run.progress;
      stays = run.stays;
    }

pub returns-in_ok-stations-in-Maekawa : goal.returns-in_ok-stations-in-Maekawa
returns-in_ok-stations-in-Maekawa g c =
    let is = sym c.shape.ensures.value ∙ c.in-Maekawa.is in
    let run = c.live_at-in-Maekawa.ensures in
    let rested = c.in_ok-stations-in-Maekawa.ensures in
    record {
      serial = run.serial;
      sections = IfOk-weaker c.live_at-in-Maekawa.result _ _ (λ all come. come.0) (run.come c.in-Maekawa.shape rested);
      come = IfOk-weaker c.live_at-in-Maekawa.result _ _ (λ all come. come_by (planned.Maekawa c.in-Maekawa.shape) c.args.plan.now _ _ _ is come.1) (run.come c.in-Maekawa.shape rested);
      err = IfErr-weaker c.live_at-in-Maekawa.result _ _ (λ error none. none_by (planned.Maekawa c.in-Maekawa.shape) c.args.plan.now _ error is none) (run.err c.in-Maekawa.shape rested);
      progress = run.progress;
      stays = run.stays;
    }

pub returns-in_ok-stations-in-Raymond : goal.returns-in_ok-stations-in-Raymond
returns-in_ok-stations-in-Raymond g c =
    let is = sym c.shape.ensures.value ∙ c.in-Raymond.is in
    let run = c.live_at-in-Raymond.ensures in
    let rested = c.in_ok-stations-in-Raymond.ensures in
    record {
      serial = run.serial;
      sections = IfOk-weaker c.live_at-in-Raymond.result _ _ (λ all come. come.0) (run.come c.in-Raymond.shape rested);
      come = IfOk-weaker c.live_at-in-Raymond.result _ _ (λ all come. come_by (planned.Raymond c.in-Raymond.shape) c.args.plan.now _ _ _ is come.1) (run.come c.in-Raymond.shape rested);
      err = IfErr-weaker c.live_at-in-Raymond.result _ _ (λ error none. none_by (planned.Raymond c.in-Raymond.shape) c.args.plan.now _ error is none) (run.err c.in-Raymond.shape rested);
      progress = run.progress;
      stays = run.stays;
    }

pub returns-in_err-stations-in-Ricart-clause-progress : goal.returns-in_err-stations-in-Ricart-clause-progress
returns-in_err-stations-in-Ricart-clause-progress g c = tells_none c.args.options.now.progress (g.E.Output.written c.args.err.now)

pub returns-in_err-stations-in-Maekawa-clause-progress : goal.returns-in_err-stations-in-Maekawa-clause-progress
returns-in_err-stations-in-Maekawa-clause-progress g c = tells_none c.args.options.now.progress (g.E.Output.written c.args.err.now)

pub returns-in_err-stations-in-Raymond-clause-progress : goal.returns-in_err-stations-in-Raymond-clause-progress
returns-in_err-stations-in-Raymond-clause-progress g c = tells_none c.args.options.now.progress (g.E.Output.written c.args.err.now)
