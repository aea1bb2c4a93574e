use Rattle.std.proofs.Common.{◌≡◌, ◌∙◌, arith, sym, true}
use Rattle.mx_scripts.specs.Links.{is_cut}
use Rattle.mx_stamps.specs.Links.{link_of}
use Rattle.mx_scripts.proofs.OldestLemmas.{shut_link}
use Rattle.mx_scripts.proofs.state.State.is_shut.Goals as goal

pub returns-in-Arriving : goal.returns-in-Arriving
returns-in-Arriving g c = λ cut scope k over.
    let s = c.args.self.now in
    let from = c.ends-from.result.0 in
    let to = c.ends-from.result.1 in
    let one = c.ends-from.ensures.from in
    let other = c.ends-from.ensures.to in
    let is : link_of from to ≡ c.args.link = omega (arith, one, other) in
    let cuts : is_cut s.fates.links from to ≡ true = rw (← c.self.view_is) (sym c.is_cut.ensures ∙ cut) in
    rw c.in-Arriving.is (shut_link s.fates s.cluster.sent scope c.args.link from to k is cuts over)
