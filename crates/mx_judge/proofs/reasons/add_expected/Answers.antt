use Rattle.std.proofs.Common.{◌≡◌, ◌++◌, OnOk, codes, decimal, string_bytes, subst}
use Rattle.mx_plan.specs.Text.{Text}
use Rattle.mx_format.specs.EventTexts.{name_of}
use Rattle.mx_judge.specs.Reasons.{named}
use Rattle.mx_judge.proofs.JudgeLemmas.{both_written}
use Rattle.mx_judge.proofs.reasons.add_expected.Goals as goal

pub returns-in_ok-write-in-Some : goal.returns-in_ok-write-in-Some
returns-in_ok-write-in-Some c =
    let w = c.in-Some.write in
    let mid = string_bytes c.write.new.self in
    let new = string_bytes c.add_named.new.text in
    let by = λ (name : Text). named (codes ", written by ") name (codes " in section ") w.section in
    let last = subst (λ (name : Text). OnOk c.add_named.result (new ≡ mid ++ by name)) c.name_of-name.ensures c.add_named.ensures in
    rw c.in-Some.is (both_written (string_bytes c.args.text.now) mid new (codes ", expected " ++ decimal w.value) (by (name_of c.args.plan.now w.node)) c.add_named.result c.in_ok-write-in-Some.ensures.bytes last)
