use Rattle.std.proofs.Common.{◌<◌, ℕ, subst, sym}
use Rattle.std.proofs.lemmas.Result.{IfOk-weaker}
use Rattle.mx_jobs.proofs.Promised.{new_registers}
use Rattle.mx_jobs.proofs.settings.stations.Goals as goal

pub returns-clause-new : goal.returns-clause-new
returns-clause-new g c =
    let s = c.args.settings.now in
    IfOk-weaker c.stations.result _ _
    (λ all new. record {
      shape = c.args.shape.now;
      origin = s.origin;
      limit = s.sections;
      registers = s.registers;
      few = c.requires.few;
      have = new_registers g.C.Exclusion.core c.args.shape.now s.origin s.sections s.registers all.items (subst (λ (n : ℕ). 0 < n) c.nodes-nodes.ensures.value c.nodes-nodes.ensures.low) new;
      fresh_ones = new;
    }) c.stations.ensures

pub returns-clause-registers : goal.returns-clause-registers
returns-clause-registers g c =
    let s = c.args.settings.now in
    IfOk-weaker c.stations.result _ _
    (λ all new. sym (new_registers g.C.Exclusion.core c.args.shape.now s.origin s.sections s.registers all.items (subst (λ (n : ℕ). 0 < n) c.nodes-nodes.ensures.value c.nodes-nodes.ensures.low) new)) c.stations.ensures
