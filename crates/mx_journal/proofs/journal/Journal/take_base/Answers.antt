use Rattle.std.proofs.Common.{◌≡◌, refl, sym, ◌∙◌, ap}
use Rattle.mx_journal.specs.Settled.{JournalState}
use Rattle.mx_journal.proofs.journal.Journal.take_base.Goals.{else-upto-via-then-upto+else-not-is, else-upto-via-else-upto}
use Rattle.mx_journal.proofs.journal.Journal.take_base.Goals as goal

pub returns-clause-agreed : goal.returns-clause-agreed
returns-clause-agreed c =
    let own : c.args.self.now.base ≡ c.self.inside.base = ap (λ (j : JournalState). j.base) (sym c.self.view_is) in (
      λ _. elim c.else-upto.branch [
        | else-upto-via-then-upto+else-not-is w ↦ λ _. own ∙ w.is.ensures.0 w.if-not-is.false
        | else-upto-via-else-upto w ↦ λ e. absurd (w.if-upto.false (cc))
      ],
      λ _. refl,
    )

pub returns-clause-conflict : goal.returns-clause-conflict
returns-clause-conflict c = λ n. (λ e. let bad : ⊥ = cc in absurd bad, λ h. absurd (h.1.1 ((returns-clause-agreed c).0 refl h.1.0)))
