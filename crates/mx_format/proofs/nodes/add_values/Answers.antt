use Rattle.std.proofs.Common.{◌≡◌, ◌∙◌, ◌++◌, ap, append_assoc, arith, string_bytes}
use Rattle.mx_registers.specs.Registers.{value_in}
use Rattle.mx_format.specs.NodeTexts.{value_by}
use Rattle.mx_format.proofs.NodeLemmas.{value_more}
use Rattle.mx_format.proofs.nodes.add_values.Goals as goal

pub loop-register-preserved-then-is_json : goal.loop-register-preserved-then-is_json
loop-register-preserved-then-is_json c =
    let k = c.loop-register.register in
    let lt = c.loop-register-test.true in
    let end = c.registers-register-end.ensures.value in
    let added : string_bytes c.write.new.self ≡ string_bytes c.loop-register.text ++ value_by c.args.is_json k c.register_name_of-name.result.now c.unwrap_or-value.result =
    rw c.if-is_json.true (simp append_assoc (rw c.comma_at.ensures at c.in_ok-write.ensures.bytes)) in
    record {
      in_range = omega (arith, lt, end);
      written = c.loop-register.invariant.written ∙ value_more c.args.is_json c.args.plan.now c.args.journal.now k _ _ _ _ _ _ _ lt end c.registers.ensures.value c.register_name_of-name.ensures
          (c.value.ensures ∙ ap (λ cells. value_in k cells) c.view-shown.ensures.value) c.unwrap_or-value.ensures added;
    }

pub loop-register-preserved : goal.loop-register-preserved
loop-register-preserved c =
    let k = c.loop-register.register in
    let lt = c.loop-register-test.true in
    let end = c.registers-register-end.ensures.value in
    let added : string_bytes c.write-in-loop-register.new.self ≡ string_bytes c.loop-register.text ++ value_by c.args.is_json k c.register_name_of-name.result.now c.unwrap_or-value.result =
    rw c.if-is_json.false (simp append_assoc c.in_ok-write-2.ensures.bytes) in
    record {
      in_range = omega (arith, lt, end);
      written = c.loop-register.invariant.written ∙ value_more c.args.is_json c.args.plan.now c.args.journal.now k _ _ _ _ _ _ _ lt end c.registers.ensures.value c.register_name_of-name.ensures
          (c.value.ensures ∙ ap (λ cells. value_in k cells) c.view-shown.ensures.value) c.unwrap_or-value.ensures added;
    }
