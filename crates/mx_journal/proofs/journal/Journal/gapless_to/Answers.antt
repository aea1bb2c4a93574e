use Rattle.std.proofs.Common.{suc, ◌≡◌, ◌+◌, ◌∙◌, ap, subst}
use Rattle.mx_journal.specs.Gapless.{first_missing}
use Rattle.mx_journal.specs.Records.{Ascending, above}
use Rattle.mx_journal.specs.Settled.{JournalState}
use Rattle.mx_journal.proofs.Settled.{covered_before, gapless_value, not_covered}
use Rattle.mx_journal.proofs.journal.Journal.gapless_to.Goals as goal

pub returns-clause-value : goal.returns-clause-value
returns-clause-value c =
    subst (λ (j : JournalState). c.gapless_after.result + 1 ≡ first_missing (suc j.base.upto) j.records) c.self.view_is
    (gapless_value c.gapless_after.result c.self.inside.base.upto c.self.inside.records c.self.invariant
    (c.gapless_after.ensures ∙ ap (λ k. first_missing (k + 1) (above k c.self.inside.records)) c.upto.ensures.value))

pub returns-clause-all : goal.returns-clause-all
returns-clause-all c = covered_before c.gapless_after.result c.args.self.now (returns-clause-value c)

pub returns-clause-next : goal.returns-clause-next
returns-clause-next c =
    not_covered c.gapless_after.result c.args.self.now (subst (λ (j : JournalState). Ascending (suc j.base.upto) j.records) c.self.view_is c.self.invariant) (returns-clause-value c)
