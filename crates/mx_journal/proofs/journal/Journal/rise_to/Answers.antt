use Rattle.std.proofs.Common.{suc, List, length, sym, ap, subst, arith}
use Rattle.mx_journal.specs.declared.records.Record.{Record}
use Rattle.mx_journal.specs.Records.{Ascending, above}
use Rattle.mx_journal.specs.Settled.{JournalState}
use Rattle.mx_journal.proofs.Going.{ascending_rest_above, few_up_to}
use Rattle.mx_journal.proofs.journal.Journal.rise_to.Goals as goal

pub overflow_sub-result-2 : goal.overflow_sub-result-2
overflow_sub-result-2 c =
    let upto = c.upto-upto.result in
    let own = c.upto-own.result in
    let few = few_up_to upto c.self.inside.base.upto c.self.inside.records c.self.invariant (omega (arith, c.if-upto-own.false, c.upto-own.ensures.value)) in
    omega (arith, few, c.upto-own.ensures.value, c.if-upto-own.false, c.drop_up_to-dropped.ensures.count, ap (λ (l : List Record). length l) c.drop_up_to-dropped.ensures.value)

pub invariant_of-self : goal.invariant_of-self
invariant_of-self c =
    subst (λ l. Ascending (suc c.args.base.now.upto) l) (sym c.drop_up_to-dropped.ensures.value)
    (subst (λ n. Ascending (suc n) (above c.upto-upto.result c.self.inside.records)) c.upto-upto.ensures.value (ascending_rest_above c.upto-upto.result (suc c.self.inside.base.upto) c.self.inside.records c.self.invariant))

pub returns-clause-count : goal.returns-clause-count
returns-clause-count c =
    omega (arith, overflow_sub-result-2 c, c.upto-own.ensures.value, c.upto-upto.ensures.value, c.if-upto-own.false, c.drop_up_to-dropped.ensures.count, ap (λ (j : JournalState). j.base.upto) c.self.view_is, ap (λ (j : JournalState). length j.records) c.self.view_is)
