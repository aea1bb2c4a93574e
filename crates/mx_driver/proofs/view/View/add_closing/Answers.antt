use Rattle.std.proofs.Common.{◌≡◌, ◌∙◌, ◌++◌, List, OnOk, ap, string_bytes, subst}
use Rattle.mx_plan.specs.Text.{Text}
use Rattle.mx_explorer.specs.declared.verdict.Verdict.TheVariants.{Sound}
use Rattle.mx_format.specs.Lines.{texts_from}
use Rattle.mx_format.specs.StuckTexts.{WaiterState}
use Rattle.mx_driver.specs.Shown.{shown_member, shown_waiters}
use Rattle.mx_explorer.specs.VerdictLines.{verdict_text}
use Rattle.mx_driver.proofs.view.View.add_closing.Goals as goal

pub returns-clause-text : goal.returns-clause-text
returns-clause-text g c =
    let p = c.args.plan.now in
    let view = c.args.self.now in
    let core = g.C.Exclusion.core in
    let knows = g.C.Knowledge.knows in
    let nodes = texts_from (shown_member p view core knows) 0 c.args.cluster.now.members in
    let waiters = ap (λ (l : List WaiterState). shown_waiters p view core knows l) c.as_slice.ensures.value ∙ c.in_ok-waiters.ensures in
    subst (λ (stuck : Text). OnOk c.add_closing_with.result (string_bytes c.add_closing_with.new.text ≡ string_bytes c.args.text.now ++ (nodes ++ (stuck ++ verdict_text view.is_json Sound))))
    waiters c.add_closing_with.ensures.text
