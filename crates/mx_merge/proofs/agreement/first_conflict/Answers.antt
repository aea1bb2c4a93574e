use Rattle.std.proofs.Common.{◌≡◌, ◌++◌, [], ◌∷◌, List, sym, refl, ◌∙◌, ap, subst}
use Rattle.mx_stamps.proofs.Lists.{append_append, append_nil}
use Rattle.mx_journal.specs.declared.records.Record.{Record}
use Rattle.mx_journal.specs.Records.{Ascending, above}
use Rattle.mx_journal.specs.Agreement.{AreAgreeing, IsFirstConflict}
use Rattle.mx_journal.proofs.Going.{above_all}
use Rattle.mx_journal.proofs.Settled.{from_one}
use Rattle.mx_merge.proofs.Differences.{first_opposed, one_more}
use Rattle.mx_merge.proofs.agreement.first_conflict.Goals as goal

pub loop-entry-init : goal.loop-entry-init
loop-entry-init c = ([], refl, λ x y h t e. absurd t)

pub returns-then-not-agrees_with-clause-some : goal.returns-then-not-agrees_with-clause-some
returns-then-not-agrees_with-clause-some c =
    let journal = c.args.journal.now.records in
    let other = c.args.other.now.records in
    let entry = c.in-Some.entry.now in
    let rest = above entry.number other in
    let kept = c.loop-entry.invariant in
    let done : List Record = kept.0 in
    let order = from_one c.args.other.now.base.upto other c.next_after.ensures.ordered in
    let whole : other ≡ done ++ entry ∷ rest = sym (above_all 0 other order) ∙ sym kept.1 ∙ ap (λ l. done ++ l) c.in-Some.ensures.value in
    subst (λ ys. IsFirstConflict entry.number (journal ++ ys)) (sym whole)
    (first_opposed journal done rest entry (from_one c.args.journal.now.base.upto journal c.is_empty-nothing_here.ensures.ordered) (subst (λ l. Ascending 1 l) whole order) kept.2 (c.agrees_with.ensures.opposed c.if-not-agrees_with.true))

pub loop-entry-preserved : goal.loop-entry-preserved
loop-entry-preserved c =
    let journal = c.args.journal.now.records in
    let other = c.args.other.now.records in
    let entry = c.in-Some.entry.now in
    let kept = c.loop-entry.invariant in
    let done : List Record = kept.0 in (
      done ++ entry ∷ [],
      append_append done (entry ∷ []) (above entry.number other) ∙ ap (λ l. done ++ l) (sym c.in-Some.ensures.value) ∙ kept.1,
      one_more journal done entry kept.2 (c.agrees_with.ensures.agrees c.if-not-agrees_with.false),
    )

pub returns-clause-none : goal.returns-clause-none
returns-clause-none c =
    let other = c.args.other.now.records in
    let kept = c.loop-entry.invariant in
    let done : List Record = kept.0 in
    subst (λ ys. AreAgreeing c.args.journal.now.records ys)
    (sym (append_nil done) ∙ ap (λ l. done ++ l) (sym c.in_default.ensures.value) ∙ kept.1 ∙ above_all 0 other (from_one c.args.other.now.base.upto other c.next_after.ensures.ordered)) kept.2

pub agrees_with-requires : goal.agrees_with-requires
agrees_with-requires c = from_one c.args.journal.now.base.upto c.args.journal.now.records c.is_empty-nothing_here.ensures.ordered
