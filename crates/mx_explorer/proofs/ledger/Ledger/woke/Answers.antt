use Rattle.std.proofs.Common.{refl, sym, ◌∙◌}
use Rattle.mx_journal.specs.Drafted.{fresh}
use Rattle.mx_trace.specs.Sections.{redrafted}
use Rattle.mx_explorer.proofs.Ledgers.{ledger_unmoved}
use Rattle.mx_explorer.proofs.ledger.Ledger.woke.Goals as goal

pub returns-else-is_inside : goal.returns-else-is_inside
returns-else-is_inside c = λ ss h. (refl, λ none. ledger_unmoved ss c.args.self.now c.args.node (redrafted (λ d. fresh)) h (sym c.is_inside.ensures ∙ c.if-is_inside.false))
