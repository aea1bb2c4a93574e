use Rattle.std.proofs.Common.{arith, refl, rules, string_bytes}
use Rattle.mx_play.specs.Printed.{session_line}
use Rattle.mx_play.proofs.ReportLemmas.{reports_line, reports_none}
use Rattle.mx_play.proofs.session_run.report.Goals as goal

pub returns-clause-reports : goal.returns-clause-reports
returns-clause-reports g c =
    let message = string_bytes c.push_str.new.self in
    rw c.in-Some.is (reports_line c.args.number c.in-Some.fault (session_line c.args.number c.in-Some.fault message) (g.E.Output.written c.args.err.now) (g.E.Output.written c.write_line.new.out) (g.E.Output.written c.flush.new.self)
    (message, refl) c.in_ok-write_line.ensures.ok c.flush.ensures.same)

pub trace_of-trace-requires : goal.trace_of-trace-requires
trace_of-trace-requires g c = first_of (search rules, search c.requires-raw, search (rules, c.requires-raw), search (arith, c.requires-raw))

pub returns-in_default-clause-reports : goal.returns-in_default-clause-reports
returns-in_default-clause-reports g c = rw c.in_default.is (reports_none c.args.number (g.E.Output.written c.args.err.now))
