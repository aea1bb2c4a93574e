use Rattle.std.proofs.Common.{◌≡◌, [], sym, ◌∙◌, ap, subst, refl, List}
use Rattle.std.proofs.lemmas.List.{drop_all}
use Rattle.mx_trace.specs.Sections.{after_marks}
use Rattle.mx_trace.specs.Trace.{mark_of, marks}
use Rattle.mx_trace.specs.declared.outcome.Entry.{Entry}
use Rattle.mx_explorer.specs.declared.verdict.Verdict.TheVariants.{Sound, Broken}
use Rattle.mx_explorer.specs.Ledger.{IsLedgerOf}
use Rattle.mx_explorer.proofs.Judged.{found_here, judged, leads_on, nothing_here, nothing_left, serial_is_sound, whole}
use Rattle.mx_explorer.proofs.judgement.judged.Goals as goal

broken : (c : goal.In-Some) → judged [] c.args.trace.now ≡ Broken c.loop-index.index c.in-Some.clause
broken c =
    let inv = c.loop-index.invariant in
    inv.2 ∙ found_here inv.0 c.args.trace.now c.loop-index.index c.index-trace-index.result c.in-Some.clause c.loop-index-test.true c.index-trace-index.is (sym (c.take.ensures inv.0 inv.1).0 ∙ c.in-Some.is)

pub returns-in-Some-clause-verdict : goal.returns-in-Some-clause-verdict
returns-in-Some-clause-verdict c = whole c.args.trace.now (Broken c.loop-index.index c.in-Some.clause) (broken c)

pub returns-in-Some-clause-serial : goal.returns-in-Some-clause-serial
returns-in-Some-clause-serial c = λ fits. sym (broken c) ∙ serial_is_sound [] c.args.trace.now tt fits

pub loop-index-init : goal.loop-index-init
loop-index-init c = ([], c.new-ledger.ensures, refl, refl)

pub loop-index-preserved : goal.loop-index-preserved
loop-index-preserved c =
    let inv = c.loop-index.invariant in
    let e = c.index-trace-index.result in
    let taken = c.take.ensures inv.0 inv.1 in (
      after_marks inv.0 (mark_of e.event e.outcome),
      taken.1 c.in_default.is,
      inv.2 ∙ nothing_here inv.0 c.args.trace.now c.loop-index.index e c.loop-index-test.true c.index-trace-index.is (sym taken.0 ∙ c.in_default.is),
      leads_on inv.0 c.args.trace.now c.loop-index.index e c.loop-index-test.true c.index-trace-index.is ∙ inv.3,
    )

pub returns-clause-verdict : goal.returns-clause-verdict
returns-clause-verdict c =
    let inv = c.loop-index.invariant in
    whole c.args.trace.now Sound (inv.2 ∙ nothing_left inv.0 c.args.trace.now c.loop-index.index c.loop-index-test.false)

pub returns-clause-ledger : goal.returns-clause-ledger
returns-clause-ledger c = λ sound.
    let inv = c.loop-index.invariant in
    subst (λ ss. IsLedgerOf ss c.loop-index.ledger) (sym (ap (λ (es : List Entry). after_marks inv.0 (marks es)) (drop_all c.loop-index.index c.args.trace.now c.loop-index-test.false)) ∙ inv.3) inv.1
