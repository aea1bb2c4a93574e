use Rattle.std.proofs.Common.{◌≡◌, ◌++◌, subst}
use Rattle.std.specs.Prelude.{codes, string_bytes}
use Rattle.mx_journal.specs.Settled.{JournalState}
use Rattle.mx_format.specs.FactTexts.{knows_json}
use Rattle.mx_format.specs.NodeTexts.{journal_json, standing_json}
use Rattle.mx_format.proofs.NodeLemmas.{four}
use Rattle.mx_format.proofs.node_json.add_node_json.Goals as goal

pub returns : goal.returns
returns g c =
    let p = c.args.plan.now in
    let m = c.args.member.now in
    four c.push_str.result (string_bytes c.args.text.now) (string_bytes c.add_standing.new.text) (string_bytes c.add_contents.new.text) (string_bytes c.add_known.new.text)
    (string_bytes c.push_str.new.self) (standing_json g.C.Exclusion.core p c.args.node m.core) (journal_json p m.journal) (knows_json p (g.C.Knowledge.knows m.core)) (codes "}\n")
    c.in_ok-add_standing.ensures
    (subst (λ (j : JournalState). string_bytes c.add_contents.new.text ≡ string_bytes c.add_standing.new.text ++ journal_json p j) c.journal.ensures c.in_ok-add_contents.ensures)
    c.in_ok-add_known.ensures c.push_str.ensures.bytes
