use Rattle.std.proofs.Common.{true}
use Rattle.mx_play.proofs.ReportLemmas.{gets_none, gets_on_ok}
use Rattle.mx_play.proofs.input.greet.Goals as goal

pub returns-then-are_typed-clause-asks : goal.returns-then-are_typed-clause-asks
returns-then-are_typed-clause-asks g c = gets_on_ok c.put.result true (g.E.Output.written c.args.err.now) (g.E.Output.written c.put.new.self) c.put.ensures.ok

pub returns-clause-asks : goal.returns-clause-asks
returns-clause-asks g c = gets_none (g.E.Output.written c.args.err.now)
