use Rattle.std.proofs.Common.{◌∷◌, ◌++◌, [], List, Option, arith, inl, inr, refl, rules, subst}
use Rattle.std.specs.Prelude.{IfSome}
use Rattle.mx_lines.specs.declared.errors.LineFault.TheVariants.{TooMany}
use Rattle.mx_scripts.specs.Lines.{IsNext, StopsAfter}
use Rattle.mx_scripts.specs.States.{IsAllowed}
use Rattle.mx_scripts.specs.Told.{IsToldUnlessMemory}
use Rattle.mx_scripts.specs.declared.line_failure.LineFailure.{LineFailure}
use Rattle.mx_scripts.specs.declared.line_failure.LineFailure.TheVariants as failure
use Rattle.mx_scripts.specs.declared.state.SessionEvent.{SessionEvent}
use Rattle.mx_scripts.proofs.LineLemmas.{err_of, performs_next, stops_next}
use Rattle.mx_scripts.proofs.ToldLemmas.{told_append, told_on}
use Rattle.mx_scripts.proofs.lines.perform.Goals as goal

pub loop-count-init : goal.loop-count-init
loop-count-init g c = record { told = ([], (refl, refl)); does = λ last told es x. (es, x.0, x.1); stops = λ why es x. (es, x) }

pub do_event-requires : goal.do_event-requires
do_event-requires g c =
    let s = c.loop-count.state in
    (search rules, subst (λ (o : Option SessionEvent). IfSome o (IsAllowed s)) c.in-Some.is c.in_ok-next.ensures.allowed)

pub loop-count-preserved : goal.loop-count-preserved
loop-count-preserved g c =
    let l = c.loop-count in
    let s = l.state in
    let e = c.in-Some.event in
    let next = subst (λ (o : Option SessionEvent). IsNext s.fates s.cluster.sent c.args.order.now l.count o) c.in-Some.is c.in_ok-next.ensures.next in
    let allowed = subst (λ (o : Option SessionEvent). IfSome o (IsAllowed s)) c.in-Some.is c.in_ok-next.ensures.allowed in
    let done = c.in_ok-do_event-in-Some.ensures in
    record {
      told = (
        l.invariant.told.0 ++ e ∷ [],
        told_append g.C.Exclusion.core (λ k. g.K.Recorder.noted k c.args.plan.now) l.invariant.told.0 (e ∷ []) c.args.state.now s c.do_event.new.state c.args.recorder.now l.recorder c.do_event.new.recorder
            l.invariant.told.1 (c.do_event.new.state, c.do_event.new.recorder, allowed, done.ok, done.noted, (refl, refl)),
      );
      does = λ last told es x. l.invariant.does last told (e ∷ es) (
        performs_next g.C.Exclusion.core c.args.order.now l.count e es s c.do_event.new.state last next allowed done.ok x.0,
        (c.do_event.new.state, c.do_event.new.recorder, allowed, done.ok, done.noted, x.1),
      );
      stops = λ why es x. l.invariant.stops why (e ∷ es)
          (stops_next g.C.Exclusion.core c.args.order.now l.count e es s c.do_event.new.state why next allowed done.ok x);
    }

pub returns-in-None-clause-ok : goal.returns-in-None-clause-ok
returns-in-None-clause-ok g c =
    let s = c.loop-count.state in
    let next = subst (λ (o : Option SessionEvent). IsNext s.fates s.cluster.sent c.args.order.now c.loop-count.count o) c.in-None.is c.in_ok-next.ensures.next in
    c.loop-count.invariant.does s c.loop-count.recorder [] ((refl, next), (refl, refl))

pub returns-in_err-next-clause-err : goal.returns-in_err-next-clause-err
returns-in_err-next-clause-err g c =
    let failed = c.in_err-next in
    let why = failure.Refused failed.field-0.0 in
    err_of (λ (w : LineFailure). (es : List SessionEvent) × StopsAfter g.C.Exclusion.core c.args.order.now 0 c.args.state.now es w) c.from_residual.result why c.from_residual.ensures.1
    (c.loop-count.invariant.stops why [] (inl (failed.field-0.0, failed.ensures.err, refl)))

pub returns-in_err-do_event-in-Some-clause-err : goal.returns-in_err-do_event-in-Some-clause-err
returns-in_err-do_event-in-Some-clause-err g c =
    let s = c.loop-count.state in
    let failed = c.in_err-do_event-in-Some in
    let why = failed.field-0.0 in
    let next = subst (λ (o : Option SessionEvent). IsNext s.fates s.cluster.sent c.args.order.now c.loop-count.count o) c.in-Some.is c.in_ok-next.ensures.next in
    err_of (λ (w : LineFailure). (es : List SessionEvent) × StopsAfter g.C.Exclusion.core c.args.order.now 0 c.args.state.now es w) c.from_residual-in_err-do_event-in-Some.result why
    c.from_residual-in_err-do_event-in-Some.ensures.1
    (c.loop-count.invariant.stops why [] (inr (inl (c.in-Some.event, c.do_event.new.state, next, failed.ensures.err))))

pub returns-clause-err : goal.returns-clause-err
returns-clause-err g c =
    let past = c.loop-count-test.false in
    c.loop-count.invariant.stops (failure.Refused TooMany) [] (inr (inr (omega (arith, past), refl)))

pub returns-in_err-next-clause-part : goal.returns-in_err-next-clause-part
returns-in_err-next-clause-part g c =
    let l = c.loop-count in
    let why = failure.Refused c.in_err-next.field-0.0 in
    err_of (IsToldUnlessMemory g.C.Exclusion.core (λ k. g.K.Recorder.noted k c.args.plan.now) c.args.state.now l.state c.args.recorder.now l.recorder) c.from_residual.result why c.from_residual.ensures.1 (inr l.invariant.told)

pub returns-in_err-do_event-in-Some-clause-part : goal.returns-in_err-do_event-in-Some-clause-part
returns-in_err-do_event-in-Some-clause-part g c =
    let l = c.loop-count in
    let failed = c.in_err-do_event-in-Some in
    err_of (IsToldUnlessMemory g.C.Exclusion.core (λ k. g.K.Recorder.noted k c.args.plan.now) c.args.state.now c.do_event.new.state c.args.recorder.now c.do_event.new.recorder) c.from_residual-in_err-do_event-in-Some.result failed.field-0.0
    c.from_residual-in_err-do_event-in-Some.ensures.1
    (told_on g.C.Exclusion.core (λ k. g.K.Recorder.noted k c.args.plan.now) l.invariant.told.0 c.args.state.now l.state c.do_event.new.state c.args.recorder.now l.recorder c.do_event.new.recorder failed.field-0.0 l.invariant.told.1 failed.ensures.part)

pub returns-clause-part : goal.returns-clause-part
returns-clause-part g c = inr c.loop-count.invariant.told
