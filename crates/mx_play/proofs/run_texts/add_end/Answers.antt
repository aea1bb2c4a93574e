use Rattle.std.proofs.Common.{◌∙◌, ◌++◌, ap, arith, length, rules, string_bytes}
use Rattle.mx_format.specs.LetterTexts.{letter_text}
use Rattle.mx_network.specs.Step.{ClusterState}
use Rattle.mx_driver.specs.Runs.{closing_text}
use Rattle.mx_explorer.specs.VerdictLines.{verdict_status}
use Rattle.mx_play.proofs.run_texts.add_end.Goals as goal

pub add_closing-requires : goal.add_closing-requires
add_closing-requires g c =
    (first_of (search rules, search c.requires-raw, search (rules, c.requires-raw), search (arith, c.requires-raw)), ap (λ (x : ClusterState g.row.C.Denot g.row.C-Msg.Denot). length x.members) c.cluster.ensures ∙ c.requires)

pub returns-clause-text : goal.returns-clause-text
returns-clause-text g c =
    c.in_ok-verdict.ensures.text
    ∙ ap (λ (x : ClusterState g.row.C.Denot g.row.C-Msg.Denot). string_bytes c.args.text.now ++ closing_text g.C.Exclusion.core (letter_text g.C.Msg.Letter.parts) c.args.plan.now x) c.cluster.ensures

pub returns-clause-zero : goal.returns-clause-zero
returns-clause-zero g c = c.verdict_status.ensures ∙ ap verdict_status c.in_ok-verdict.ensures.sound
