use Rattle.std.proofs.Common.{inr, inl, string_bytes, subst}
use Rattle.std.specs.Prelude.{IfOk}
use Rattle.mx_plan.specs.Text.{Text}
use Rattle.mx_event_files.specs.ScriptFiles.{IsNotText, IsRefusedScript, IsScriptFile, StopsInPlan}
use Rattle.mx_event_files.specs.Scripts.{HasLine}
use Rattle.mx_scripts.proofs.LineLemmas.{err_of, err_then}
use Rattle.mx_event_files.proofs.StopLemmas.{line_as}
use Rattle.mx_event_files.proofs.script_command.file_of_bytes.Goals as goal

pub returns-clause-ok : goal.returns-clause-ok
returns-clause-ok g c =
    let p = c.args.plan.now in
    subst (λ (t : Text). IfOk c.script_file.result (λ text. IsScriptFile p t (string_bytes text) p.shape)) c.in_ok-text.ensures.ok c.script_file.ensures.ok

pub returns-in_err-text-clause-err : goal.returns-in_err-text-clause-err
returns-in_err-text-clause-err g c =
    let failed = c.in_err-text in
    err_of (HasLine (IsRefusedScript c.args.plan.now c.args.script.now)) c.from_residual.result failed.field-0.0 c.from_residual.ensures.1
    (line_as {P = IsNotText c.args.script.now} {Q = IsRefusedScript c.args.plan.now c.args.script.now} failed.field-0.0 (λ line h. inl h) failed.ensures.err)

pub returns-clause-err : goal.returns-clause-err
returns-clause-err g c =
    let p = c.args.plan.now in
    err_then c.script_file.result c.script_file.ensures.err
    (λ s. line_as {P = λ (line : Text). StopsInPlan p c.in_ok-text.text.now line p.shape} {Q = IsRefusedScript p c.args.script.now} s
    (λ line h. inr (subst (λ (t : Text). StopsInPlan p t line p.shape) c.in_ok-text.ensures.ok h)))
