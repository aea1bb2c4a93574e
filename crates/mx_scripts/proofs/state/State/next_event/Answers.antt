use Rattle.std.proofs.Common.{rules}
use Rattle.mx_scripts.proofs.LineLemmas.{next_allowed}
use Rattle.mx_scripts.proofs.state.State.next_event.Goals as goal

pub returns-clause-allowed : goal.returns-clause-allowed
returns-clause-allowed g c = next_allowed c.args.self.now c.args.order.now c.args.done c.in_ok-next.next c.in_ok-next.ensures.next c.in_ok-admit.ensures.ok

pub asked-requires : goal.asked-requires
asked-requires g c = search rules

pub admit-requires : goal.admit-requires
admit-requires g c = search rules

pub returns-clause-next : goal.returns-clause-next
returns-clause-next g c = c.in_ok-next.ensures.next
