use Rattle.std.proofs.Common.{◌∙◌}
use Rattle.mx_scripts.proofs.StandstillLemmas.{any_under_way}
use Rattle.mx_scripts.proofs.state.State.has_under_way.Goals as goal

pub returns : goal.returns
returns g c =
    let s = c.args.self.now in
    c.is_some.ensures ∙ any_under_way s.fates s.cluster.sent c.oldest.result c.oldest.ensures.some c.oldest.ensures.none
