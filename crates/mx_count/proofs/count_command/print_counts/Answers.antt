use Rattle.std.proofs.Common.{◌∙◌, ◌++◌, ap, arith}
use Rattle.mx_format.specs.Parts.{word_by}
use Rattle.mx_cli.specs.Printing.{IsWhole, sight, whole}
use Rattle.mx_cli.proofs.FrameLemmas.{memory_prints, whole_prints}
use Rattle.mx_count.specs.Counted.{counts_text}
use Rattle.mx_count.proofs.count_command.print_counts.Goals as goal

pub add_counts-requires : goal.add_counts-requires
add_counts-requires g c = omega arith

pub returns-in-Ok : goal.returns-in-Ok
returns-in-Ok g c =
    let text = counts_text (word_by g.C.Msg.Letter.parts) g.C.Msg.Letter.words c.args.options c.args.plan.now c.args.events c.args.cluster.now in
    let same = c.as_bytes.ensures.value ∙ c.in-Ok.ensures.text ∙ ap (λ l. l ++ text) c.new-text.ensures.bytes in
    record {
      prints = whole_prints (IsWhole text 0) c.as_bytes.result.now text c.in-Ok.status
          (sight g.O.Output c.args.out.now) (sight g.O.Output c.print.new.out) c.print.result same (ap (whole text) c.in-Ok.ensures.zero) c.print.ensures.prints;
    }

pub returns : goal.returns
returns g c =
    let text = counts_text (word_by g.C.Msg.Letter.parts) g.C.Msg.Letter.words c.args.options c.args.plan.now c.args.events c.args.cluster.now in
    record { prints = memory_prints (IsWhole text 0) (sight g.O.Output c.args.out.now) }
