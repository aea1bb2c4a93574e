use Rattle.std.proofs.Common.{◌∙◌, ◌<◌, ◌≤◌, ◌++◌, ◌∷◌, [], List, ℕ, length, take, ap, arith, sym}
use Rattle.std.proofs.lemmas.List.{take_all, take_more}
use Rattle.mx_registers.specs.declared.contents.Content.{Content}
use Rattle.mx_jobs.specs.Laws.{values_in}
use Rattle.mx_jobs.proofs.Laws.{long_contents}
use Rattle.mx_jobs.proofs.registers.contents.Goals as goal

pub loop-register-init : goal.loop-register-init
loop-register-init c = (c.new-contents.ensures, ap (λ (l : List Content). length (values_in l)) c.view-view.ensures.value ∙ long_contents c.args.count c.args.journal.now)

pub loop-register-preserved : goal.loop-register-preserved
loop-register-preserved c =
    let xs = values_in c.view-view.result in
    let k = c.loop-register.register in
    let so_far = c.loop-register.invariant in
    let low : k < length xs = omega (arith, c.loop-register-test.true, so_far.1) in (
      c.push.ensures.items ∙ ap (λ (l : List ℕ). l ++ c.value_of.result ∷ []) so_far.0 ∙ ap (λ (v : ℕ). take k xs ++ v ∷ []) c.value_of.ensures ∙ sym (take_more xs k 0 low),
      so_far.1,
    )

pub returns : goal.returns
returns c =
    let xs = values_in c.view-view.result in
    let k = c.loop-register.register in
    let all : length xs ≤ k = omega (arith, c.loop-register-test.false, c.loop-register.invariant.1) in
    c.loop-register.invariant.0 ∙ take_all k xs all ∙ ap values_in c.view-view.ensures.value
