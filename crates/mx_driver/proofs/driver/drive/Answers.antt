use Rattle.std.proofs.Common.{◌≡◌, Err, arith, length, subst}
use Rattle.mx_ricart.specs.Step.{ricart_core}
use Rattle.mx_maekawa.specs.Step.{maekawa_core}
use Rattle.mx_raymond.specs.Step.{raymond_core}
use Rattle.mx_plan.specs.Fields.{IsShape}
use Rattle.mx_plan.specs.declared.shape.Shape.{Shape}
use Rattle.mx_cli.specs.Printing.{sight}
use Rattle.mx_cli.specs.declared.stop.Stop.TheVariants as stop
use Rattle.mx_cli.proofs.FrameLemmas.{memory_prints}
use Rattle.mx_cli.proofs.ReadLemmas.{err_is}
use Rattle.mx_driver.proofs.RunLemmas.{members_at_rest}
use Rattle.mx_driver.proofs.driver.drive.Goals as goal

pub drive_events-requires : goal.drive_events-requires
drive_events-requires g c =
    let valid = subst (λ (s : Shape). IsShape (length c.args.plan.now.nodes) s) c.in-Ricart.is c.shape.ensures.valid in (omega arith, (members_at_rest ricart_core c.args.plan.now c.in-Ricart.count (length c.args.plan.now.nodes) _ c.in_ok-cluster-in-Ricart.ensures valid, c.requires))

pub returns-in_err-cluster-in-Ricart : goal.returns-in_err-cluster-in-Ricart
returns-in_err-cluster-in-Ricart g c =
    let is : c.from_residual.result ≡ Err stop.Memory = err_is c.from_residual.result stop.Memory c.from_residual.ensures.1 in
    record { prints = rw is (memory_prints _ (sight g.O.Output c.args.out.now)); told = rw is tt }

pub drive_events-requires-in-Maekawa : goal.drive_events-requires-in-Maekawa
drive_events-requires-in-Maekawa g c =
    let valid = subst (λ (s : Shape). IsShape (length c.args.plan.now.nodes) s) c.in-Maekawa.is c.shape.ensures.valid in (omega arith, (members_at_rest maekawa_core c.args.plan.now c.in-Maekawa.sets (length c.args.plan.now.nodes) _ c.in_ok-cluster-in-Maekawa.ensures valid.2, c.requires))

pub returns-in_err-cluster-in-Maekawa : goal.returns-in_err-cluster-in-Maekawa
returns-in_err-cluster-in-Maekawa g c =
    let is : c.from_residual-in_err-cluster-in-Maekawa.result ≡ Err stop.Memory = err_is c.from_residual-in_err-cluster-in-Maekawa.result stop.Memory c.from_residual-in_err-cluster-in-Maekawa.ensures.1 in
    record { prints = rw is (memory_prints _ (sight g.O.Output c.args.out.now)); told = rw is tt }

pub drive_events-requires-in-Raymond : goal.drive_events-requires-in-Raymond
drive_events-requires-in-Raymond g c =
    let valid = subst (λ (s : Shape). IsShape (length c.args.plan.now.nodes) s) c.in-Raymond.is c.shape.ensures.valid in (omega arith, (members_at_rest raymond_core c.args.plan.now c.in-Raymond.tree (length c.args.plan.now.nodes) _ c.in_ok-cluster-in-Raymond.ensures valid.1, c.requires))

pub returns-in_err-cluster-in-Raymond : goal.returns-in_err-cluster-in-Raymond
returns-in_err-cluster-in-Raymond g c =
    let is : c.from_residual-in_err-cluster-in-Raymond.result ≡ Err stop.Memory = err_is c.from_residual-in_err-cluster-in-Raymond.result stop.Memory c.from_residual-in_err-cluster-in-Raymond.ensures.1 in
    record { prints = rw is (memory_prints _ (sight g.O.Output c.args.out.now)); told = rw is tt }
