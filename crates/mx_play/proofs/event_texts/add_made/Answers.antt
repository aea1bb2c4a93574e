use Rattle.std.proofs.Common.{arith, string_bytes}
use Rattle.std.proofs.lemmas.Grind.{common_steps}
use Rattle.mx_format.specs.LetterTexts.{letter_text}
use Rattle.mx_driver.specs.Runs.{text_of}
use Rattle.mx_scripts.proofs.StateLemmas.{has_newest_item, newest_shown, with_sent}
use Rattle.mx_play.specs.Printed.{lost_text}
use Rattle.mx_play.proofs.event_texts.add_made.Goals as goal

pub cluster-requires : goal.cluster-requires
cluster-requires g c = (search c.requires-raw, grind (arith, common_steps))

pub cluster-requires-in-IsLost : goal.cluster-requires-in-IsLost
cluster-requires-in-IsLost g c = (search c.requires-raw, grind (arith, common_steps))

pub add_lost-requires : goal.add_lost-requires
add_lost-requires g c = grind (arith, common_steps)

pub add_newest-requires : goal.add_newest-requires
add_newest-requires g c =
    let x = has_newest_item g.C.Exclusion.core _ c.args.before c.args.state.now c.cluster.result.now c.cluster.ensures (rw c.in-Happens.is at c.requires) in
    (grind (arith, common_steps), (x.0, x.1))

pub returns-in-Happens : goal.returns-in-Happens
returns-in-Happens g c =
    rw c.in-Happens.is (newest_shown g.C.Exclusion.core (text_of g.C.Exclusion.core (letter_text g.C.Msg.Letter.parts) c.args.plan.now) _ c.args.before c.args.state.now c.cluster.result.now c.add_newest.result
    (string_bytes c.args.text.now) (string_bytes c.add_newest.new.text) c.cluster.ensures c.add_newest.ensures)

pub returns-in-IsLost : goal.returns-in-IsLost
returns-in-IsLost g c =
    rw c.in-IsLost.is (λ old brings sent.
    with_sent (lost_text (letter_text g.C.Msg.Letter.parts) c.args.plan.now c.in-IsLost.number) c.in-IsLost.number c.args.state.now c.cluster-in-IsLost.result.now c.add_lost.result
    (string_bytes c.args.text.now) (string_bytes c.add_lost.new.text) c.cluster-in-IsLost.ensures c.add_lost.ensures)

pub returns-in-LinksChange : goal.returns-in-LinksChange
returns-in-LinksChange g c = rw c.in-LinksChange.is (λ old brings sent. c.add_change.ensures)
