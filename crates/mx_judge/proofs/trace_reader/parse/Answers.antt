use Rattle.std.proofs.Common.{◌≡◌, inr, refl, sym, ◌∙◌, true, false}
use Rattle.mx_plan.proofs.TextLemmas.{value_of-none, value_of-utf8}
use Rattle.mx_judge.proofs.trace_reader.parse.Goals as goal

pub returns-in-Ok-clause-ok : goal.returns-in-Ok-clause-ok
returns-in-Ok-clause-ok c = value_of-utf8 _ _ c.in-Ok.ensures.ok.0 c.in-Ok.ensures.ok.1

pub returns-in-Err-2-clause-err : goal.returns-in-Err-2-clause-err
returns-in-Err-2-clause-err c =
    inr (
      refl,
      value_of-none c.args.text.now (c.in-Err.ensures.err (λ memory.
          let told : true ≡ false = sym (c.is_memory.ensures.1 memory) ∙ c.if-is_memory.false in
          cc)),
    )
