use Rattle.std.proofs.Common.{◌≡◌, ◌++◌, ℕ, OnOk, codes, length, string_bytes, subst}
use Rattle.mx_format.specs.Members.{number_member}
use Rattle.mx_judge.specs.Reasons.{entered_in}
use Rattle.mx_judge.proofs.JudgeLemmas.{both_written}
use Rattle.mx_judge.proofs.judgement.add_counts_members.Goals as goal

pub returns : goal.returns
returns c =
    let old = string_bytes c.args.text.now in
    let mid = string_bytes c.add_number.new.text in
    let new = string_bytes c.add_number-2.new.text in
    let last = subst (λ (n : ℕ). OnOk c.add_number-2.result (new ≡ mid ++ number_member (codes "sections") n)) c.entered_in.ensures.value c.add_number-2.ensures in
    both_written old mid new (number_member (codes "events") (length c.args.entries.now)) (number_member (codes "sections") (entered_in c.args.entries.now)) c.add_number-2.result
    c.in_ok-add_number.ensures last
