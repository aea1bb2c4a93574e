use Rattle.std.proofs.Common.{arith, string_bytes}
use Rattle.std.proofs.lemmas.Grind.{common_steps}
use Rattle.mx_scripts.proofs.StateLemmas.{has_newest_item, newest_shown, with_sent}
use Rattle.mx_driver.specs.Shown.{step_text}
use Rattle.mx_shown_scripts.specs.ShownScripts.{lost_shown}
use Rattle.mx_shown_scripts.proofs.shown_script.Showing.add_event.Goals as goal

pub cluster-requires : goal.cluster-requires
cluster-requires g c = (search c.requires-raw, grind (arith, common_steps))

pub cluster-requires-in-IsLost : goal.cluster-requires-in-IsLost
cluster-requires-in-IsLost g c = (search c.requires-raw, grind (arith, common_steps))

pub add_lost-requires : goal.add_lost-requires
add_lost-requires g c = grind (arith, common_steps)

pub add_newest-requires : goal.add_newest-requires
add_newest-requires g c =
    let x = has_newest_item g.C.Exclusion.core _ c.args.before c.args.state.now c.cluster.result.now c.cluster.ensures (rw c.in-Happens.is at c.requires) in
    (grind (arith, common_steps), (x.0, x.1))

pub returns-in-Happens : goal.returns-in-Happens
returns-in-Happens g c =
    rw c.in-Happens.is (newest_shown g.C.Exclusion.core (step_text g.C.Exclusion.core g.C.Msg.Letter.parts c.args.self.now.plan.now c.args.self.now.view.now g.C.Knowledge.knows) _ c.args.before c.args.state.now c.cluster.result.now
    c.add_newest.result (string_bytes c.args.text.now) (string_bytes c.add_newest.new.text) c.cluster.ensures c.add_newest.ensures)

pub returns-in-IsLost : goal.returns-in-IsLost
returns-in-IsLost g c =
    rw c.in-IsLost.is (λ old brings sent.
    with_sent (lost_shown c.args.self.now.view.now c.in-IsLost.number) c.in-IsLost.number c.args.state.now c.cluster-in-IsLost.result.now c.add_lost.result
    (string_bytes c.args.text.now) (string_bytes c.add_lost.new.text) c.cluster-in-IsLost.ensures c.add_lost.ensures)
