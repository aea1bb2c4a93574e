use Rattle.std.proofs.Common.{◌∙◌, ◌++◌, ap, string_bytes}
use Rattle.mx_explain.proofs.ReportLemmas.{report_longer}
use Rattle.mx_explain.proofs.report.FaultReport.add.Goals as goal

pub invariant_of-self-2 : goal.invariant_of-self-2
invariant_of-self-2 c =
    report_longer (string_bytes c.self.inside.text) (string_bytes c.push_str.new.self) c.args.file.now c.args.message.now c.self.invariant
    (c.in_ok-push_str.ensures.bytes ∙ ap (λ x. string_bytes c.self.inside.text ++ x) (c.as_str.ensures.value ∙ c.in_ok-line.ensures))
