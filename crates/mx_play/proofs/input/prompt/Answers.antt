use Rattle.std.proofs.Common.{false}
use Rattle.mx_play.proofs.ReportLemmas.{gets_none, keeps_on_ok}
use Rattle.mx_play.proofs.input.prompt.Goals as goal

pub returns-then-are_typed-clause-asks : goal.returns-then-are_typed-clause-asks
returns-then-are_typed-clause-asks g c =
    keeps_on_ok c.flush.result false (g.E.Output.written c.args.err.now) (g.E.Output.written c.put.new.self) (g.E.Output.written c.flush.new.self) c.in_ok-put.ensures.ok c.flush.ensures.same

pub returns-clause-asks : goal.returns-clause-asks
returns-clause-asks g c = gets_none (g.E.Output.written c.args.err.now)
