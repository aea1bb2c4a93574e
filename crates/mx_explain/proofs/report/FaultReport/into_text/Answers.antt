use Rattle.std.proofs.Common.{string_bytes}
use Rattle.mx_explain.proofs.ReportLemmas.{report_at_fault, report_well, shown_at_fault, shown_well}
use Rattle.mx_explain.proofs.report.FaultReport.into_text.Goals as goal

pub returns-then-not-is_well-clause-printable : goal.returns-then-not-is_well-clause-printable
returns-then-not-is_well-clause-printable c = shown_at_fault (string_bytes c.self.inside.text) c.self.invariant

pub returns-then-not-is_well-clause-last : goal.returns-then-not-is_well-clause-last
returns-then-not-is_well-clause-last c = report_at_fault c.args.is_well (string_bytes c.self.inside.text) c.if-not-is_well.true c.self.invariant

pub returns-clause-printable : goal.returns-clause-printable
returns-clause-printable c = shown_well (string_bytes c.self.inside.text) (string_bytes c.push_str.new.self) c.self.invariant c.in_ok-push_str.ensures.bytes

pub returns-clause-last : goal.returns-clause-last
returns-clause-last c =
    report_well c.args.is_well (string_bytes c.self.inside.text) (string_bytes c.push_str.new.self) c.if-not-is_well.false c.self.invariant c.in_ok-push_str.ensures.bytes
