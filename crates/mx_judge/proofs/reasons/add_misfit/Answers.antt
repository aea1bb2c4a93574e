use Rattle.std.proofs.Common.{◌≡◌, ◌++◌, codes, string_bytes, subst}
use Rattle.mx_plan.specs.Text.{Text}
use Rattle.mx_format.specs.EventTexts.{name_of}
use Rattle.mx_judge.specs.Reasons.{inside_text, named}
use Rattle.mx_judge.proofs.JudgeLemmas.{both_written}
use Rattle.mx_judge.proofs.reasons.add_misfit.Goals as goal

pub returns-in_ok-add_named-in-Leave-Left : goal.returns-in_ok-add_named-in-Leave-Left
returns-in_ok-add_named-in-Leave-Left c = λ ss h.
    let p = c.args.plan.now in
    let old = string_bytes c.args.text.now in
    let mid = string_bytes c.add_named.new.text in
    let exit = λ (name : Text). named (codes "leave ") name (codes " from section ") c.in-Leave-Left.receipt.number in
    let first = subst (λ (name : Text). mid ≡ old ++ exit name) c.name_of-name.ensures (rw c.deref.ensures at c.in_ok-add_named-in-Leave-Left.ensures) in
    rw (c.in-Leave-Left.is-0, c.in-Leave-Left.is-1)
    (both_written old mid (string_bytes c.add_inside-in-Leave-Left.new.text) (exit (name_of p c.in-Leave-Left.node)) (inside_text p ss) c.add_inside-in-Leave-Left.result first (c.add_inside-in-Leave-Left.ensures ss h))
