use Rattle.std.proofs.Common.{◌∙◌, sym}
use Rattle.mx_explorer.proofs.Ledgers.{none_held, some_held}
use Rattle.mx_explorer.proofs.ledger.Ledger.value.Goals as goal

pub returns-in-Some : goal.returns-in-Some
returns-in-Some c = λ ss h. some_held c.args.register ss c.in-Some.write (sym (c.last_write.ensures ss h) ∙ c.in-Some.is)

pub returns-in-None : goal.returns-in-None
returns-in-None c = λ ss h. none_held c.args.register ss (sym (c.last_write.ensures ss h) ∙ c.in-None.is)
