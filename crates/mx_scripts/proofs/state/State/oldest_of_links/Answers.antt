use Rattle.std.proofs.Common.{◌+◌, slice_get}
use Rattle.mx_lines.specs.declared.orders.Scope.TheVariants.{All}
use Rattle.mx_scripts.specs.Fates.{IsBelow, IsOver, is_wanted}
use Rattle.mx_scripts.proofs.OldestLemmas.{below_next, none_below_zero, older_of}
use Rattle.mx_scripts.proofs.state.State.oldest_of_links.Goals as goal

pub loop-link-init : goal.loop-link-init
loop-link-init g c = λ k below. absurd (none_below_zero (slice_get c.args.self.now.cluster.sent k) below)

pub loop-link-preserved : goal.loop-link-preserved
loop-link-preserved g c =
    let s = c.args.self.now in
    let link = c.loop-link.link in
    rw c.older-oldest.ensures
    (older_of (λ k. IsBelow link (slice_get s.cluster.sent k)) (λ k. IsOver link (slice_get s.cluster.sent k)) (λ k. IsBelow (link + 1) (slice_get s.cluster.sent k)) (is_wanted s.fates s.cluster.sent All c.args.wanted)
    (λ k. below_next link (slice_get s.cluster.sent k)) c.loop-link.oldest c.oldest_over.result c.loop-link.invariant c.oldest_over.ensures)
