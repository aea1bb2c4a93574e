use Rattle.std.proofs.Common.{refl, sym, ◌∙◌}
use Rattle.mx_journal.specs.Drafted.{with_write}
use Rattle.mx_trace.specs.Sections.{redrafted}
use Rattle.mx_explorer.proofs.Ledgers.{ledger_unmoved, ledger_written}
use Rattle.mx_explorer.proofs.ledger.Ledger.wrote.Goals as goal

pub returns-then-is_inside : goal.returns-then-is_inside
returns-then-is_inside c = λ ss h.
    (refl, λ none. ledger_written ss c.args.self.now c.args.node c.args.register c.args.value c.ranges.register.fits h (sym c.is_inside.ensures ∙ c.if-is_inside.true))

pub returns-else-is_inside : goal.returns-else-is_inside
returns-else-is_inside c = λ ss h.
    (refl, λ none. ledger_unmoved ss c.args.self.now c.args.node (redrafted (with_write c.args.register c.args.value)) h (sym c.is_inside.ensures ∙ c.if-is_inside.false))
