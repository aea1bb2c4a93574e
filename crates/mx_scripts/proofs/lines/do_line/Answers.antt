use Rattle.std.proofs.Common.{◌≡◌, ◌⊎◌, List, [], OnOk, arith, inl, inr, refl, subst, rules}
use Rattle.std.specs.Prelude.{IfErr}
use Rattle.mx_trace.specs.declared.outcome.Entry.{Entry}
use Rattle.mx_lines.specs.declared.line.ScriptLine.{ScriptLine}
use Rattle.mx_lines.specs.declared.line.ScriptLine.TheVariants as script_line
use Rattle.mx_scripts.specs.Expectations.{IsMet, IsNotMet}
use Rattle.mx_scripts.specs.Lines.{DoesText, IsNotDone, ReadsLine}
use Rattle.mx_scripts.specs.Told.{IsTold}
use Rattle.mx_scripts.specs.declared.line_failure.LineFailure.TheVariants as failure
use Rattle.mx_scripts.specs.declared.state.SessionEvent.{SessionEvent}
use Rattle.mx_scripts.proofs.LineLemmas.{err_of, err_then, misread, not_met, ok_then}
use Rattle.mx_scripts.proofs.lines.do_line.Goals as goal

pub line_in-requires : goal.line_in-requires
line_in-requires g c = omega arith

pub repeat-requires : goal.repeat-requires
repeat-requires g c = search rules

pub returns-in_err-line-clause-err : goal.returns-in_err-line-clause-err
returns-in_err-line-clause-err g c =
    let p = c.args.plan.now in
    let old = c.args.state.now in
    let why = c.in_err-line.field-0.0 in
    err_of (IsNotDone g.C.Exclusion.core p c.args.line.now old) c.from_residual.result why c.from_residual.ensures.1
    (misread g.C.Exclusion.core p c.args.line.now old why c.in_err-line.ensures.err)

pub returns-in-Does-clause-ok : goal.returns-in-Does-clause-ok
returns-in-Does-clause-ok g c =
    let reads = subst (λ (read : ScriptLine). ReadsLine c.args.plan.now c.args.line.now read) c.in-Does.is c.in_ok-line.ensures.ok in
    ok_then c.repeat.result c.repeat.ensures.ok (λ x. (x.0, (script_line.Does c.in-Does.line, reads, x.1), x.2))

pub returns-in-Does-clause-err : goal.returns-in-Does-clause-err
returns-in-Does-clause-err g c =
    let reads = subst (λ (read : ScriptLine). ReadsLine c.args.plan.now c.args.line.now read) c.in-Does.is c.in_ok-line.ensures.ok in
    err_then c.repeat.result c.repeat.ensures.err (λ why x. inr (inr (inl (c.in-Does.line, reads, x))))

pub returns-in-Expects-clause-ok : goal.returns-in-Expects-clause-ok
returns-in-Expects-clause-ok g c =
    let reads = subst (λ (read : ScriptLine). ReadsLine c.args.plan.now c.args.line.now read) c.in-Expects.is c.in_ok-line.ensures.ok in
    let met = subst (λ (t : List Entry). OnOk c.compare_outcome.result (IsMet c.args.line.now t)) c.trace.ensures c.compare_outcome.ensures.ok in
    let Done = (es : List SessionEvent) × DoesText g.C.Exclusion.core c.args.plan.now c.args.line.now c.args.state.now es c.args.state.now
    × IsTold g.C.Exclusion.core (λ k. g.K.Recorder.noted k c.args.plan.now) es c.args.state.now c.args.state.now c.args.recorder.now c.args.recorder.now in
    ok_then {Q = Done} c.compare_outcome.result met (λ x. ([], (script_line.Expects, reads, ((refl, refl), x)), (refl, refl)))

pub returns-in-Expects-clause-err : goal.returns-in-Expects-clause-err
returns-in-Expects-clause-err g c =
    let reads = subst (λ (read : ScriptLine). ReadsLine c.args.plan.now c.args.line.now read) c.in-Expects.is c.in_ok-line.ensures.ok in
    let missed = subst (λ (t : List Entry). IfErr c.compare_outcome.result (λ why. (why ≡ failure.Memory) ⊎ IsNotMet c.args.line.now t why)) c.trace.ensures c.compare_outcome.ensures.err in
    err_then c.compare_outcome.result missed (λ why x. not_met g.C.Exclusion.core c.args.plan.now c.args.line.now c.args.state.now why reads x)

pub returns-in-Nothing-clause-ok : goal.returns-in-Nothing-clause-ok
returns-in-Nothing-clause-ok g c =
    let reads = subst (λ (read : ScriptLine). ReadsLine c.args.plan.now c.args.line.now read) c.in-Nothing.is c.in_ok-line.ensures.ok in
    ([], (script_line.Nothing, reads, (refl, refl)), (refl, refl))
