use Rattle.std.proofs.Common.{◌≡◌, ◌∙◌, ◌++◌, ap, append_assoc, codes, decimal, string_bytes}
use Rattle.mx_journal.specs.Settled.{JournalState}
use Rattle.mx_plan.specs.Text.{Text, line_feed}
use Rattle.mx_format.specs.EventTexts.{name_of}
use Rattle.mx_format.specs.NodeTexts.{journal_text, phase_text}
use Rattle.mx_format.proofs.NodeLemmas.{three}
use Rattle.mx_format.proofs.nodes.add_member_line.Goals as goal

pub returns : goal.returns
returns g c =
    let core = g.C.Exclusion.core in
    let p = c.args.plan.now in
    let m = c.args.member.now in
    let t1 : Text = string_bytes c.write.new.self in
    let standing : Text = name_of p c.args.node ++ codes ": " ++ phase_text (core.phase m.core) ++ codes ", mine " ++ decimal (core.mine m.core) in
    let first : t1 ≡ string_bytes c.args.text.now ++ standing = simp append_assoc (rw (c.name_of-name.ensures, c.phase.ensures.value, c.mine-mine.ensures.value) at c.in_ok-write.ensures.bytes) in
    let second = c.in_ok-add_journal.ensures ∙ ap (λ (j : JournalState). t1 ++ journal_text p j) c.journal.ensures in
    three c.push_str.result (string_bytes c.args.text.now) t1 (string_bytes c.add_journal.new.text) (string_bytes c.push_str.new.self) standing (journal_text p m.journal) line_feed first second c.push_str.ensures.bytes
