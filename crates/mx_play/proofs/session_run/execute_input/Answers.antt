use Rattle.std.proofs.Common.{[], inl, inr, refl, rules}
use Rattle.mx_play.proofs.StoreLemmas.{Stores-nil}
use Rattle.mx_play.proofs.session_run.execute_input.Goals as goal

pub returns-in_ok-fault-in-Command-clause-does : goal.returns-in_ok-fault-in-Command-clause-does
returns-in_ok-fault-in-Command-clause-does g c = rw c.in-Command.is (λ from x.
    let e = c.in_ok-fault-in-Command.ensures.executed in
    (e.0, e.1, inl (c.in-Command.command, x.1, rw x.0 at e.2, refl)))

pub execute-requires : goal.execute-requires
execute-requires g c =
    (first_of (search rules, search (rules, c.requires-raw)), (c.requires.is, (rw c.in-Command.is at c.requires.input, c.new-text.ensures.bytes)))

pub returns-in-Fault-clause-does : goal.returns-in-Fault-clause-does
returns-in-Fault-clause-does g c = rw c.in-Fault.is (λ from x. ([], Stores-nil (g.W.Store.stored c.args.store.now), inr (c.in-Fault.fault, x, refl, refl, record { same = refl; printed = c.new-text.ensures.bytes }, refl)))
