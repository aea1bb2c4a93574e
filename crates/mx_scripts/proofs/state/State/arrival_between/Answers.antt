use Rattle.std.proofs.Common.{Some}
use Rattle.mx_lines.specs.declared.orders.Scope.TheVariants.{Link}
use Rattle.mx_scripts.specs.Fates.{is_waiting}
use Rattle.mx_scripts.specs.Lines.{FindsFirst, arrival}
use Rattle.mx_scripts.proofs.LineLemmas.{once_later, once_now}
use Rattle.mx_scripts.proofs.state.State.arrival_between.Goals as goal

pub returns-then-done-gt0-clause-next : goal.returns-then-done-gt0-clause-next
returns-then-done-gt0-clause-next g c =
    let s = c.args.self.now in
    once_later c.args.done (λ e. FindsFirst (is_waiting s.fates s.cluster.sent (Link c.args.from c.args.to)) arrival (Some e)) c.if-done-gt0.true

pub returns-clause-next : goal.returns-clause-next
returns-clause-next g c =
    let s = c.args.self.now in
    once_now c.args.done (λ e. FindsFirst (is_waiting s.fates s.cluster.sent (Link c.args.from c.args.to)) arrival (Some e)) c.arrival.result c.if-done-gt0.false (c.in_ok-number.number, c.in_ok-number.ensures.found, c.arrival.ensures)
