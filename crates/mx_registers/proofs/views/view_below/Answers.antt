use Rattle.std.proofs.Common.{◌≡◌, ◌∙◌, ◌++◌, List, [], ◌∷◌, nat_lt, refl, sym, ap, arith}
use Rattle.mx_stamps.proofs.Lists.{append_append, append_nil}
use Rattle.mx_journal.specs.declared.records.Record.{Record}
use Rattle.mx_journal.specs.Records.{above, below}
use Rattle.mx_journal.proofs.Choices.{cond_true, cond_false, lt_is, lt_not}
use Rattle.mx_journal.proofs.Going.{above_all}
use Rattle.mx_journal.proofs.Settled.{from_one}
use Rattle.mx_registers.specs.Based.{registers_from}
use Rattle.mx_registers.proofs.views.view_below.Goals as goal

pub loop-entry-init : goal.loop-entry-init
loop-entry-init c = ([], c.at-earlier.ensures.value ∙ ap (λ b. registers_from b c.args.count []) c.base.ensures, refl)

pub loop-entry-preserved : goal.loop-entry-preserved
loop-entry-preserved c =
    let journal = c.args.journal.now.records in
    let entry = c.in-Some.entry.now in
    let rest = above entry.number journal in
    let kept = c.loop-entry.invariant in
    let done : List Record = kept.0 in
    let one : below c.args.number (entry ∷ rest) ≡ entry ∷ below c.args.number rest =
    cond_true (nat_lt entry.number c.args.number) (entry ∷ below c.args.number rest) [] (lt_is entry.number c.args.number (omega (arith, c.if-entry-number.false))) in (
      done ++ entry ∷ [],
      c.take.ensures.from c.args.journal.now.base c.args.count done kept.1,
      append_append done (entry ∷ []) (below c.args.number rest)
          ∙ ap (λ l. done ++ l) (sym (ap (λ l. below c.args.number l) c.in-Some.ensures.value ∙ one)) ∙ kept.2,
    )

pub returns-then-entry-number : goal.returns-then-entry-number
returns-then-entry-number c =
    let journal = c.args.journal.now.records in
    let entry = c.in-Some.entry.now in
    let rest = above entry.number journal in
    let kept = c.loop-entry.invariant in
    let done : List Record = kept.0 in
    let none : below c.args.number (entry ∷ rest) ≡ [] =
    cond_false (nat_lt entry.number c.args.number) (entry ∷ below c.args.number rest) [] (lt_not entry.number c.args.number c.if-entry-number.true) in
    record {
      value = kept.1 ∙ ap (λ l. registers_from c.args.journal.now.base c.args.count l)
          (sym (append_nil done) ∙ ap (λ l. done ++ l) (sym (ap (λ l. below c.args.number l) c.in-Some.ensures.value ∙ none)) ∙ kept.2
          ∙ ap (λ l. below c.args.number l) (above_all 0 journal (from_one c.args.journal.now.base.upto journal c.next_after.ensures.ordered)));
    }

pub returns : goal.returns
returns c =
    let journal = c.args.journal.now.records in
    let kept = c.loop-entry.invariant in
    let done : List Record = kept.0 in
    record {
      value = kept.1 ∙ ap (λ l. registers_from c.args.journal.now.base c.args.count l)
          (sym (append_nil done) ∙ ap (λ l. done ++ below c.args.number l) (sym c.in_default.ensures.value) ∙ kept.2
          ∙ ap (λ l. below c.args.number l) (above_all 0 journal (from_one c.args.journal.now.base.upto journal c.next_after.ensures.ordered)));
    }
