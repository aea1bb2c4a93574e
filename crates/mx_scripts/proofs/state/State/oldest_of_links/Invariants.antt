use Rattle.std.proofs.Common.{slice_get}
use Rattle.mx_lines.specs.declared.orders.Scope.TheVariants.{All}
use Rattle.mx_scripts.specs.Fates.{IsBelow, IsOldest, is_wanted}
use Rattle.mx_scripts.proofs.state.State.oldest_of_links.Given as goal

abbrev pub invariant-loop-link : goal.invariant-loop-link
invariant-loop-link g l = IsOldest (λ k. IsBelow l.link (slice_get l.self.cluster.sent k)) (is_wanted l.self.fates l.self.cluster.sent All l.wanted) l.oldest
