use Rattle.std.proofs.Common.{suc, inl, refl, sym, ◌∙◌, ap, subst, arith}
use Rattle.mx_stamps.specs.Lists.{IsIn}
use Rattle.mx_journal.specs.Bases.{AreCellsOf, with_sections}
use Rattle.mx_journal.specs.Records.{above, below}
use Rattle.mx_journal.proofs.Bases.{cells_of_more, with_section_of, with_sections_more}
use Rattle.mx_journal.proofs.Found.{in_above}
use Rattle.mx_journal.proofs.Going.{above_all}
use Rattle.mx_journal.proofs.Maps.{ascending_above}
use Rattle.mx_journal.proofs.settlement.settled_base.Goals as goal

pub loop-entry-init : goal.loop-entry-init
loop-entry-init c =
    let records = c.args.records.now in
    let k = suc c.args.upto in
    record {
      same = ap (λ cells. with_sections (below k (above c.upto-last.result records)) cells) c.cells.ensures
          ∙ ap (λ l. with_sections (below k l) c.args.base.now.cells) (ap (λ n. above n records) c.upto-last.ensures.value ∙ above_all c.args.base.now.upto records c.requires.behind);
      cells = subst (λ cells. AreCellsOf c.args.upto cells) (sym c.cells.ensures) (cells_of_more c.args.base.now.upto c.args.upto c.args.base.now.cells c.requires.order c.upto-last.ensures.cells);
    }

pub loop-entry-preserved : goal.loop-entry-preserved
loop-entry-preserved c =
    let records = c.args.records.now in
    let entry = c.in-Some.entry.now in
    let rest = above entry.number records in
    let k = suc c.args.upto in
    let cells = c.loop-entry.cells in
    let low = ascending_above (suc c.args.base.now.upto) records c.requires.behind entry (in_above c.loop-entry.last records entry (subst (λ l. IsIn entry l) (sym c.in-Some.ensures.value) (inl refl))) in
    record {
      same = ap (λ l. with_sections (below k rest) l) c.take_section.ensures ∙ sym (with_sections_more c.args.upto entry rest cells c.if-entry-upto.false)
          ∙ sym (ap (λ l. with_sections (below k l) cells) c.in-Some.ensures.value) ∙ c.loop-entry.invariant.same;
      cells = subst (λ l. AreCellsOf c.args.upto l) (sym c.take_section.ensures) (with_section_of c.args.upto entry cells (omega arith) c.if-entry-upto.false c.loop-entry.invariant.cells);
    }
