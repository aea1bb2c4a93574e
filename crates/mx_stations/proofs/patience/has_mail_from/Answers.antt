use Rattle.std.proofs.Common.{ap, ◌∙◌, sym, subst, ℕ, ◌<◌}
use Rattle.mx_stations.proofs.patience.has_mail_from.Goals as goal

pub has_filled-requires : goal.has_filled-requires
has_filled-requires g c =
    let n = ap (λ f. f.nodes) (sym c.deref.ensures) in
    (subst (λ (k : ℕ). c.args.from < k) (ap (λ s. s.nodes) (sym c.station.view_is) ∙ n) c.requires, subst (λ (k : ℕ). c.station.inside.node < k) n c.station.invariant.2)
