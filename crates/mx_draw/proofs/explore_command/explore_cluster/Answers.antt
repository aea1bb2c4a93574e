use Rattle.std.proofs.Common.{◌≡◌, ◌∙◌, Err, ap, arith, sym}
use Rattle.mx_network.specs.Step.{ClusterState}
use Rattle.mx_format.specs.Parts.{word_by}
use Rattle.mx_cli.specs.Printing.{IsWhole, sight, whole}
use Rattle.mx_cli.specs.declared.stop.Stop.TheVariants as stop
use Rattle.mx_cli.proofs.FrameLemmas.{memory_prints, prints_as}
use Rattle.mx_cli.proofs.ReadLemmas.{err_is}
use Rattle.mx_count.specs.Counted.{counts_text}
use Rattle.mx_count.specs.Printed.{options_of}
use Rattle.mx_count.specs.declared.counted_run.EventSource.TheVariants.{Drawn}
use Rattle.mx_draw.specs.Explored.{IsExploredFrom}
use Rattle.mx_draw.proofs.explore_command.explore_cluster.Goals as goal

pub run-requires : goal.run-requires
run-requires g c = omega arith

pub print_counts-requires : goal.print_counts-requires
print_counts-requires g c = omega arith

pub returns-in_err-run : goal.returns-in_err-run
returns-in_err-run g c =
    let is : c.from_residual.result ≡ Err stop.Memory = err_is c.from_residual.result stop.Memory c.from_residual.ensures.1 in
    record { prints = rw is (memory_prints _ (sight g.O.Output c.args.out.now)) }

pub returns : goal.returns
returns g c =
    let kinds = word_by g.C.Msg.Letter.parts in
    let words = g.C.Msg.Letter.words in
    let p = c.args.plan.now in
    let e = c.args.command.now in
    let text = λ (x : ClusterState g.row.C.Denot g.row.C-Msg.Denot). counts_text kinds words (options_of Drawn e.is_json e.has_counts) p e.run.steps x in
    record {
      prints = prints_as (IsWhole (text c.run.new.cluster) 0) (IsExploredFrom g.C.Exclusion.core kinds words p e c.args.cluster)
          (λ r is. is ∙ ap (λ (x : ClusterState g.row.C.Denot g.row.C-Msg.Denot). whole (text x) 0) (sym c.in_ok-run.ensures.ran))
          (sight g.O.Output c.args.out.now) (sight g.O.Output c.print_counts.new.out) c.print_counts.result c.print_counts.ensures.prints;
    }
