use Rattle.std.proofs.Common.{◌≡◌, ◌+◌, ◌++◌, ◌∷◌, [], ℕ, List, OnOk, ap, arith, length, string_bytes, subst, ◌∙◌}
use Rattle.std.proofs.lemmas.List.{length-append}
use Rattle.mx_trace.specs.declared.outcome.Entry.{Entry}
use Rattle.mx_driver.specs.Shown.{step_text}
use Rattle.mx_shown_scripts.proofs.shown_script.Showing.add_newest.Goals as goal

pub returns : goal.returns
returns g c = λ old entry trace sent.
    let cluster = c.args.cluster.now in
    let more : length cluster.trace ≡ length old.trace + 1 = ap (λ (l : List Entry). length l) trace ∙ length-append old.trace (entry ∷ []) in
    let here : length c.trace.result.now ≡ length cluster.trace = ap (λ (l : List Entry). length l) c.trace.ensures.value in
    subst (λ (k : ℕ). OnOk c.event.result (string_bytes c.event.new.text ≡ string_bytes c.args.text.now
    ++ step_text g.C.Exclusion.core g.C.Msg.Letter.parts c.args.self.now.plan.now c.args.self.now.view.now g.C.Knowledge.knows k old cluster))
    (omega (arith, more, here)) (c.event.ensures.text old entry trace sent)
