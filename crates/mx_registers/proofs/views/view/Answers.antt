use Rattle.std.proofs.Common.{suc, ◌∙◌, ◌++◌, List, [], ◌∷◌, refl, sym, ap, subst}
use Rattle.mx_stamps.proofs.Lists.{append_append, append_nil}
use Rattle.mx_journal.specs.declared.records.Record.{Record}
use Rattle.mx_journal.specs.Bases.{AreCellsOf, BaseState}
use Rattle.mx_journal.specs.Records.{Ascending, above}
use Rattle.mx_journal.specs.Settled.{IsOfSections, JournalState}
use Rattle.mx_journal.proofs.Going.{above_all}
use Rattle.mx_journal.proofs.Settled.{from_one}
use Rattle.mx_registers.specs.Based.{AreAppliedTo, AreHeldIn, registers_from}
use Rattle.mx_registers.specs.Registers.{writes_to}
use Rattle.mx_registers.proofs.Based.{applied_in, held_in, registers_settled}
use Rattle.mx_registers.proofs.Covered.{IsOf, same_coverage}
use Rattle.mx_registers.proofs.views.view.Goals as goal

pub loop-entry-init : goal.loop-entry-init
loop-entry-init c = ([], c.at-view.ensures.value ∙ ap (λ b. registers_from b c.args.count []) c.base.ensures, refl)

pub loop-entry-preserved : goal.loop-entry-preserved
loop-entry-preserved c =
    let journal = c.args.journal.now.records in
    let entry = c.in-Some.entry.now in
    let kept = c.loop-entry.invariant in
    let done : List Record = kept.0 in (
      done ++ entry ∷ [],
      c.take.ensures.from c.args.journal.now.base c.args.count done kept.1,
      append_append done (entry ∷ []) (above entry.number journal) ∙ ap (λ l. done ++ l) (sym c.in-Some.ensures.value) ∙ kept.2,
    )

pub returns-clause-value : goal.returns-clause-value
returns-clause-value c =
    let journal = c.args.journal.now in
    let kept = c.loop-entry.invariant in
    let done : List Record = kept.0 in
    kept.1 ∙ ap (λ l. registers_from journal.base c.args.count l)
    (sym (append_nil done) ∙ ap (λ l. done ++ l) (sym c.in_default.ensures.value) ∙ kept.2 ∙ above_all 0 journal.records (from_one journal.base.upto journal.records c.next_after.ensures.ordered))

pub returns-clause-held : goal.returns-clause-held
returns-clause-held c =
    let journal = c.args.journal.now in
    let cells : AreCellsOf journal.base.upto journal.base.cells = subst (λ (b : BaseState). AreCellsOf b.upto b.cells) c.base.ensures c.at-view.ensures.cells in
    subst (λ v. AreHeldIn journal v) (sym (returns-clause-value c)) (held_in c.args.count journal c.next_after.ensures.ordered cells)

pub returns-clause-order : goal.returns-clause-order
returns-clause-order c = λ k top.
    let journal = c.args.journal.now in
    let cells : AreCellsOf journal.base.upto journal.base.cells = subst (λ (b : BaseState). AreCellsOf b.upto b.cells) c.base.ensures c.at-view.ensures.cells in
    subst (λ v. AreAppliedTo journal.base (writes_to k journal.records) v) (sym (returns-clause-value c)) (applied_in c.args.count k journal c.next_after.ensures.ordered cells top)

pub returns-clause-settled : goal.returns-clause-settled
returns-clause-settled c = λ k.
    let journal = c.args.journal.now in
    let cells : AreCellsOf journal.base.upto journal.base.cells = subst (λ (b : BaseState). AreCellsOf b.upto b.cells) c.base.ensures c.at-view.ensures.cells in
    registers_settled c.args.count k journal c.requires.most c.next_after.ensures.ordered cells ∙ sym (returns-clause-value c)

-- what is known of a journal of these sections
of_sections : (sections : List Record) (journal : JournalState) → Ascending (suc journal.base.upto) journal.records → IsOfSections sections journal → IsOf sections journal
of_sections sections journal order of = record { order = order; base = of.base; records = of.records }

pub returns-clause-covered : goal.returns-clause-covered
returns-clause-covered c = λ other order one same.
    let journal = c.args.journal.now in
    same_coverage c.args.count one.0 other journal c.requires.most one.1 (of_sections one.0 other order one.3)
    (of_sections one.0 journal c.next_after.ensures.ordered one.2) (λ n. (same n).1) (λ n. (same n).0) ∙ sym (returns-clause-value c)
