use Rattle.std.proofs.Common.{IsTrue, ◌↔◌, inl, inr, subst}
use Rattle.mx_stamps.proofs.Choices.{bool_cases}
use Rattle.mx_journal.specs.Settled.{Covers, JournalState}
use Rattle.mx_journal.proofs.Maps.{none_in}
use Rattle.mx_journal.proofs.journal.Journal.covers.Goals as goal

pub returns-else-is_settled : goal.returns-else-is_settled
returns-else-is_settled c =
    subst (λ (j : JournalState). IsTrue c.has.result ↔ Covers c.args.number j) c.self.view_is (
      λ t. inr (c.has.ensures.there t),
      λ w. elim w [
        | inl s ↦ (let t = c.is_settled.ensures.1 s in let bad : ⊥ = cc in absurd bad)
        | inr there ↦ elim (bool_cases c.has.result) [
          | inl t ↦ t
          | inr f ↦ absurd (none_in c.args.number c.self.inside.records (c.has.ensures.missing f) there.0 there.1 there.2)
        ]
      ],
    )
