use Rattle.std.proofs.Common.{◌∙◌, ◌++◌, ap, string_bytes, rules}
use Rattle.mx_network.specs.Step.{ClusterState}
use Rattle.mx_format.specs.LetterTexts.{letter_text}
use Rattle.mx_scripts.specs.Fates.{Fates}
use Rattle.mx_play.specs.Cuts.{cut_lines}
use Rattle.mx_play.specs.Views.{standing_lines, stuck_shown, waiting_lines}
use Rattle.mx_play.proofs.ViewLemmas.{four_shown}
use Rattle.mx_play.proofs.views.show.Goals as goal

pub returns : goal.returns
returns g c =
    let p = c.args.setting.now.plan.now in
    let to = c.args.to.now in
    let m = c.args.state.now in
    let t = string_bytes c.args.text.now in
    let t1 = string_bytes c.add_standing.new.text in
    four_shown c.add_standstill.result t t1 (string_bytes c.add_cuts.new.text) (string_bytes c.add_waiting.new.text) (string_bytes c.add_standstill.new.text)
    (standing_lines g.C.Exclusion.core g.C.Knowledge.knows p to m.cluster) (cut_lines p to m.fates.links) (waiting_lines g.C.Exclusion.core (letter_text g.C.Msg.Letter.parts) p to m)
    (stuck_shown g.C.Exclusion.core g.C.Knowledge.knows p to m)
    (c.in_ok-add_standing.ensures ∙ ap (λ (k : ClusterState g.row.C.Denot g.row.C-Msg.Denot). t ++ standing_lines g.C.Exclusion.core g.C.Knowledge.knows p to k) c.cluster.ensures)
    (c.in_ok-add_cuts.ensures ∙ ap (λ (f : Fates). t1 ++ cut_lines p to f.links) c.in_flight.ensures) c.in_ok-add_waiting.ensures c.add_standstill.ensures

pub cluster-requires : goal.cluster-requires
cluster-requires g c = (search rules, search rules)

pub add_standing-requires : goal.add_standing-requires
add_standing-requires g c = ((cluster-requires g c.before.before).1, rw c.cluster.ensures c.requires)

pub in_flight-requires : goal.in_flight-requires
in_flight-requires g c = search rules

pub add_waiting-requires : goal.add_waiting-requires
add_waiting-requires g c = search rules
