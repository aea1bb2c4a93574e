use Rattle.std.proofs.Common.{◌≡◌, ◌++◌, ◌-◌, [], ℕ, arith, refl, subst, rules}
use Rattle.mx_scripts.specs.Lines.{Repeats, StopsWithin}
use Rattle.mx_scripts.specs.Told.{IsToldUnlessMemory}
use Rattle.mx_scripts.proofs.LineLemmas.{err_of, repeats_end, repeats_next, within_here, within_next}
use Rattle.mx_scripts.proofs.ToldLemmas.{told_append, told_on}
use Rattle.mx_scripts.proofs.lines.repeat.Goals as goal

pub perform-requires : goal.perform-requires
perform-requires g c = search rules

pub loop-count-init : goal.loop-count-init
loop-count-init g c =
    let line = c.args.line.now in
    let n : line.times - 0 ≡ line.times = omega arith in
    record {
      told = ([], (refl, refl));
      does = λ last told es x. (es, subst (λ (k : ℕ). Repeats g.C.Exclusion.core line.order k c.args.state.now es last) n x.0, x.1);
      stops = λ why x. subst (λ (k : ℕ). StopsWithin g.C.Exclusion.core line.order k c.args.state.now why) n x;
    }

pub loop-count-preserved : goal.loop-count-preserved
loop-count-preserved g c =
    let l = c.loop-count in
    let line = c.args.line.now in
    let once = c.in_ok-perform.ensures.ok in
    record {
      told = (
        l.invariant.told.0 ++ once.0,
        told_append g.C.Exclusion.core (λ k. g.K.Recorder.noted k c.args.plan.now) l.invariant.told.0 once.0 c.args.state.now l.state c.perform.new.state c.args.recorder.now l.recorder c.perform.new.recorder
            l.invariant.told.1 once.2,
      );
      does = λ last told es x. l.invariant.does last told (once.0 ++ es) (
        repeats_next g.C.Exclusion.core line.order line.times l._count once.0 es l.state c.perform.new.state last c.loop-count-test.true once.1 x.0,
        told_append g.C.Exclusion.core (λ k. g.K.Recorder.noted k c.args.plan.now) once.0 es l.state c.perform.new.state last l.recorder c.perform.new.recorder told once.2 x.1,
      );
      stops = λ why x. l.invariant.stops why
          (within_next g.C.Exclusion.core line.order line.times l._count l.state c.perform.new.state why c.loop-count-test.true (once.0, once.1) x);
    }

pub returns-clause-ok : goal.returns-clause-ok
returns-clause-ok g c =
    let l = c.loop-count in
    let line = c.args.line.now in
    l.invariant.does l.state l.recorder [] (repeats_end g.C.Exclusion.core line.order line.times l._count l.state c.loop-count-test.false, (refl, refl))

pub returns-in_err-perform-clause-err : goal.returns-in_err-perform-clause-err
returns-in_err-perform-clause-err g c =
    let l = c.loop-count in
    let line = c.args.line.now in
    let why = c.in_err-perform.field-0.0 in
    err_of (StopsWithin g.C.Exclusion.core line.order line.times c.args.state.now) c.from_residual.result why c.from_residual.ensures.1
    (l.invariant.stops why (within_here g.C.Exclusion.core line.order line.times l._count l.state why c.loop-count-test.true c.in_err-perform.ensures.err))

pub returns-in_err-perform-clause-part : goal.returns-in_err-perform-clause-part
returns-in_err-perform-clause-part g c =
    let l = c.loop-count in
    let why = c.in_err-perform.field-0.0 in
    err_of (IsToldUnlessMemory g.C.Exclusion.core (λ k. g.K.Recorder.noted k c.args.plan.now) c.args.state.now c.perform.new.state c.args.recorder.now c.perform.new.recorder) c.from_residual.result why c.from_residual.ensures.1
    (told_on g.C.Exclusion.core (λ k. g.K.Recorder.noted k c.args.plan.now) l.invariant.told.0 c.args.state.now l.state c.perform.new.state c.args.recorder.now l.recorder c.perform.new.recorder why l.invariant.told.1 c.in_err-perform.ensures.part)
