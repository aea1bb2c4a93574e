use Rattle.std.proofs.Common.{◌≡◌, ◌∙◌, Bool, Err, string_bytes, subst, sym, true}
use Rattle.std.specs.Prelude.{◌↔◌}
use Rattle.std.specs.Io.KnownBytes.{Appends}
use Rattle.mx_plan.specs.Text.{Text}
use Rattle.mx_cli.specs.Printing.{course_of, sight, stop_of}
use Rattle.mx_cli.specs.declared.stop.Stop.TheVariants as stop
use Rattle.mx_cli.proofs.FrameLemmas.{memory_prints}
use Rattle.mx_cli.proofs.ReadLemmas.{err_is}
use Rattle.mx_explain.specs.Explained.{IsToldOf}
use Rattle.mx_explain.specs.Reports.{last_line, nothing_at_fault}
use Rattle.mx_explain.proofs.ExplainLemmas.{not_put, prints_told}
use Rattle.mx_explain.proofs.files.print_files.Goals as goal

pub returns-then-not-is_told : goal.returns-then-not-is_told
returns-then-not-is_told g c = record { prints = memory_prints (IsToldOf (course_of c.args.ended)) (sight g.O.Output c.args.out.now) }

pub returns-in_err-text : goal.returns-in_err-text
returns-in_err-text g c =
    let is : c.from_residual.result ≡ Err stop.Memory = err_is c.from_residual.result stop.Memory c.from_residual.ensures.1 in
    record { prints = rw is (memory_prints (IsToldOf (course_of c.args.ended)) (sight g.O.Output c.args.out.now)) }

pub returns-in_err-put : goal.returns-in_err-put
returns-in_err-put g c =
    let f = c.in_err-put.field-0.0 in
    let put = c.in_err-put.ensures in
    let is : c.from_residual-in_err-put.result ≡ Err (stop_of f) = err_is c.from_residual-in_err-put.result (stop_of f) c.from_residual-in_err-put.ensures.1 in
    record { prints = rw is (not_put (sight g.O.Output c.args.out.now) (sight g.O.Output c.put.new.self) (IsToldOf (course_of c.args.ended)) f put.takes put.err put.refused put.stays) }

pub returns : goal.returns
returns g c =
    let put = c.in_ok-put.ensures in
    let text = string_bytes c.in_ok-text.text in
    record {
      prints = prints_told (sight g.O.Output c.args.out.now) (sight g.O.Output c.put.new.self) text c.in_ok-text.ensures.printable (subst (λ (t : Text). Appends (g.O.Output.written c.args.out.now) (g.O.Output.written c.put.new.self) t) c.as_bytes.ensures.value put.ok) put.refused put.stays
          c.args.ended (sym c.is_told.ensures ∙ c.if-not-is_told.false) (subst (λ (b : Bool). (last_line text ≡ nothing_at_fault) ↔ (b ≡ true)) c.is_ok.ensures.value c.in_ok-text.ensures.last);
    }
