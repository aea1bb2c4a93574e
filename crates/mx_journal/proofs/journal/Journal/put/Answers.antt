use Rattle.std.proofs.Common.{suc, ◌<◌, inl, inr, refl, sym, subst, arith}
use Rattle.mx_stamps.proofs.Choices.{dec_le}
use Rattle.mx_journal.specs.Records.{Ascending, record_at}
use Rattle.mx_journal.specs.Settled.{JournalState}
use Rattle.mx_journal.proofs.Answering.{no_other, not_true}
use Rattle.mx_journal.proofs.Maps.{ascending_with}
use Rattle.mx_journal.proofs.Settled.{none_settled}
use Rattle.mx_journal.proofs.journal.Journal.put.Goals as goal

pub returns-then-is_settled-clause-conflict : goal.returns-then-is_settled-clause-conflict
returns-then-is_settled-clause-conflict c = λ n.
    let low = (c.is_settled.ensures.0 c.if-is_settled.true).1 in
    let records = c.args.self.now.records in
    let order : Ascending (suc c.self.inside.base.upto) records = subst (λ (j : JournalState). Ascending (suc c.self.inside.base.upto) j.records) c.self.view_is c.self.invariant in
    (λ e. let bad : ⊥ = cc in absurd bad, λ h. absurd (no_other c.args.entry (record_at n records) (none_settled n c.self.inside.base.upto records order (omega (arith, h.0))) h.1))

pub invariant_of-self : goal.invariant_of-self
invariant_of-self c =
    let k = c.self.inside.base.upto in
    elim c.put.ensures.kept [
      | inl e ↦
          let low = (c.put.ensures.fresh.0 (inl e)).0 in
          let high : k < c.args.entry.number = elim (dec_le c.args.entry.number k) [
            | inl l ↦ (let t = c.is_settled.ensures.1 (low, l) in absurd (not_true c.is_settled.result t c.if-is_settled.false))
            | inr l ↦ l
          ] in
          subst (λ l. Ascending (suc k) l) (sym (c.put.ensures.new e)) (ascending_with (suc k) c.args.entry c.self.inside.records c.self.invariant high)
      | inr e ↦ subst (λ l. Ascending (suc k) l) (sym e) c.self.invariant
    ]

pub returns-then-is_settled-clause-same : goal.returns-then-is_settled-clause-same
returns-then-is_settled-clause-same c = (λ _. inl (rw (← c.self.view_is) (c.is_settled.ensures.0 c.if-is_settled.true)), λ _. refl)
