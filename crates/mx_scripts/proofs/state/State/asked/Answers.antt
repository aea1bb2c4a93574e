use Rattle.std.proofs.Common.{rules}
use Rattle.mx_scripts.proofs.state.State.asked.Goals as goal

pub returns-in-Arrives-clause-next : goal.returns-in-Arrives-clause-next
returns-in-Arrives-clause-next g c = rw c.in-Arrives.is c.arrival_between.ensures.next

pub returns-in-Arrives-clause-err : goal.returns-in-Arrives-clause-err
returns-in-Arrives-clause-err g c = rw c.in-Arrives.is c.arrival_between.ensures.err

pub returns-in-ArrivesAgain-clause-next : goal.returns-in-ArrivesAgain-clause-next
returns-in-ArrivesAgain-clause-next g c = rw c.in-ArrivesAgain.is c.arrival_again.ensures.next

pub returns-in-ArrivesAgain-clause-err : goal.returns-in-ArrivesAgain-clause-err
returns-in-ArrivesAgain-clause-err g c = rw c.in-ArrivesAgain.is c.arrival_again.ensures.err

pub returns-in-IsLost-clause-next : goal.returns-in-IsLost-clause-next
returns-in-IsLost-clause-next g c = rw c.in-IsLost.is c.loss_between.ensures.next

pub returns-in-IsLost-clause-err : goal.returns-in-IsLost-clause-err
returns-in-IsLost-clause-err g c = rw c.in-IsLost.is c.loss_between.ensures.err

pub next_arrival-requires : goal.next_arrival-requires
next_arrival-requires g c = search rules

pub next_loss-requires : goal.next_loss-requires
next_loss-requires g c = search rules

pub arrival_between-requires : goal.arrival_between-requires
arrival_between-requires g c = search rules

pub arrival_again-requires : goal.arrival_again-requires
arrival_again-requires g c = search rules

pub loss_between-requires : goal.loss_between-requires
loss_between-requires g c = search rules
