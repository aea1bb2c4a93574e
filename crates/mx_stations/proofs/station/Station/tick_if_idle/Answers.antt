use Rattle.std.proofs.Common.{rules, refl, ap, ◌∙◌, ℕ}
use Rattle.std.specs.Prelude.{◌==◌, ◌&&◌}
use Rattle.mx_stations.proofs.Going.{goes_ticking, stays}
use Rattle.mx_stations.proofs.station.Station.tick_if_idle.Goals as goal

pub waits-requires : goal.waits-requires
waits-requires g c = search rules

pub tick-requires : goal.tick-requires
tick-requires g c = search rules

pub returns-then-not-is_idle : goal.returns-then-not-is_idle
returns-then-not-is_idle g c =
    record { ends = refl; idle = c.if-not-is_idle.ensures ∙ ap (λ (n : ℕ). (c.args.taken == 0) && (n == 0)) c.waits.ensures.count; goes = stays g.C.Exclusion.core _ _ refl }

pub returns : goal.returns
returns g c =
    let did = c.tick.ensures in
    record { ends = did; idle = c.if-not-is_idle.ensures ∙ ap (λ (n : ℕ). (c.args.taken == 0) && (n == 0)) c.waits.ensures.count; goes = goes_ticking g.C.Exclusion.core _ _ did }
