use Rattle.std.proofs.Common.{suc, ◌<◌, refl, sym, subst, arith}
use Rattle.mx_stamps.specs.Lists.{IsIn}
use Rattle.mx_journal.specs.Records.{Ascending, BringsNew, above, with_records}
use Rattle.mx_journal.specs.Settled.{BringsUncovered, JournalState}
use Rattle.mx_journal.proofs.Answering.{at_failure}
use Rattle.mx_journal.proofs.Found.{in_above}
use Rattle.mx_journal.proofs.Going.{ascending_rest_above}
use Rattle.mx_journal.proofs.Maps.{ascending_above, none_in}
use Rattle.mx_journal.proofs.Settled.{ascending_joined, brings_above}
use Rattle.mx_journal.proofs.journal.Journal.join.Goals as goal

pub returns-in_err-count-clause-contained : goal.returns-in_err-count-clause-contained
returns-in_err-count-clause-contained c = λ within.
    let own = c.upto.result in
    let theirs = c.other.inside.records in
    let (x, h, gone) = c.in_err-count.ensures.missing in
    let high = ascending_above (suc own) (above own theirs) (ascending_rest_above own (suc c.other.inside.base.upto) theirs c.other.invariant) x h in
    let there = subst (λ (j : JournalState). IsIn x j.records) c.other.view_is (in_above own theirs x h) in
    let behind = subst (λ (j : JournalState). j.base.upto < x.number) c.self.view_is (omega (arith, high, c.upto.ensures.value)) in
    let known = subst (λ (j : JournalState). IsIn x j.records) (sym c.self.view_is) (within.records x there behind) in
    absurd (none_in x.number c.self.inside.records gone x known refl)

pub returns-in_err-count-clause-memory : goal.returns-in_err-count-clause-memory
returns-in_err-count-clause-memory c =
    let theirs = c.other.inside.records in
    let new = subst (λ n. BringsNew (above n theirs) c.self.inside.records) c.upto.ensures.value c.in_err-count.ensures.missing in
    at_failure c.from_residual.result
    (subst (λ (j : JournalState). BringsUncovered j.records c.args.self.now) c.other.view_is
    (subst (λ (j : JournalState). BringsUncovered theirs j) c.self.view_is
    (brings_above (suc c.other.inside.base.upto) theirs (record { base = c.self.inside.base; records = c.self.inside.records }) c.other.invariant new)))

pub invariant_of-self-2 : goal.invariant_of-self-2
invariant_of-self-2 c =
    let k = c.self.inside.base.upto in
    let theirs = c.other.inside.records in
    subst (λ l. Ascending (suc k) l) (sym c.in_ok-count.ensures.ok.0)
    (subst (λ n. Ascending (suc k) (with_records (above n theirs) c.self.inside.records)) (sym c.upto.ensures.value) (ascending_joined k (suc c.other.inside.base.upto) theirs c.self.inside.records c.self.invariant c.other.invariant))

pub overflow_add-result : goal.overflow_add-result
overflow_add-result c = omega (arith, c.top.ensures.bound, c.top.type_inv, c.rise_to-more.ensures.count, c.in_ok-count.ensures.ok.1)
