use Rattle.std.proofs.Common.{◌≡◌, ◌++◌, OnOk, append_assoc, codes, decimal, string_bytes, subst}
use Rattle.mx_plan.specs.Text.{Text}
use Rattle.mx_judge.proofs.reasons.add_wrong_number.Goals as goal

pub returns-in-Enter-Entered : goal.returns-in-Enter-Entered
returns-in-Enter-Entered c =
    let text = λ (name : Text). codes "enter " ++ name ++ codes " has number " ++ decimal c.in-Enter-Entered.number ++ codes ", the next is " ++ decimal c.args.next in
    rw (c.in-Enter-Entered.is-0, c.in-Enter-Entered.is-1)
    (subst (λ (name : Text). OnOk c.write.result (string_bytes c.write.new.self ≡ string_bytes c.args.text.now ++ text name)) c.name_of-name.ensures (simp append_assoc c.write.ensures.bytes))
