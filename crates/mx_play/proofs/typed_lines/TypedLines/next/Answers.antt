use Rattle.std.proofs.Common.{Option, subst}
use Rattle.mx_play.specs.TypedLines.{TakesOn, to_come}
use Rattle.mx_play.specs.declared.line_sources.LineRead.{LineRead}
use Rattle.mx_play.proofs.TypedLemmas.{taking_first}
use Rattle.mx_play.proofs.typed_lines.TypedLines.next.Goals as goal

pub loop-step-init : goal.loop-step-init
loop-step-init g c = taking_first (to_come g.R.Read.remaining c.args.self.now) c.clear.new.self.items c.clear.ensures.items

pub loop-step-preserved : goal.loop-step-preserved
loop-step-preserved g c =
    let first = to_come g.R.Read.remaining c.args.self.now in
    subst (λ (o : Option LineRead). TakesOn o first (to_come g.R.Read.remaining c.step.new.self) c.step.new.is_long c.step.new.line.items) c.in-None.is
    (c.in_ok-read.ensures first c.loop-step.invariant)

pub returns-in-Some-clause-reads : goal.returns-in-Some-clause-reads
returns-in-Some-clause-reads g c =
    let first = to_come g.R.Read.remaining c.args.self.now in
    subst (λ (o : Option LineRead). TakesOn o first (to_come g.R.Read.remaining c.step.new.self) c.step.new.is_long c.step.new.line.items) c.in-Some.is
    (c.in_ok-read.ensures first c.loop-step.invariant)
