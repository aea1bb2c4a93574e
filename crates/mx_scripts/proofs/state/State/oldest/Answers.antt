use Rattle.std.proofs.Common.{ℕ, slice_get, subst}
use Rattle.mx_lines.specs.declared.orders.Scope.TheVariants.{Link}
use Rattle.mx_scripts.specs.Fates.{IsOldest, IsOver, is_wanted}
use Rattle.mx_stamps.specs.Links.{link_of}
use Rattle.mx_scripts.proofs.OldestLemmas.{first_of_oldest, none_of_oldest, rest_of_link}
use Rattle.mx_scripts.proofs.state.State.oldest.Goals as goal

pub returns-in-Link-clause-some : goal.returns-in-Link-clause-some
returns-in-Link-clause-some g c =
    let s = c.args.self.now in
    let from = c.in-Link.from in
    let to = c.in-Link.to in
    let is_so = is_wanted s.fates s.cluster.sent (Link from to) c.args.wanted in
    let found = subst (λ (link : ℕ). IsOldest (λ k. IsOver link (slice_get s.cluster.sent k)) is_so c.oldest_over.result) c.link.ensures.value (rw c.in-Link.is at c.oldest_over.ensures) in
    rw c.in-Link.is (first_of_oldest (λ k. IsOver (link_of from to) (slice_get s.cluster.sent k)) is_so (rest_of_link s.fates s.cluster.sent from to c.args.wanted) c.oldest_over.result found)

pub returns-in-Link-clause-none : goal.returns-in-Link-clause-none
returns-in-Link-clause-none g c =
    let s = c.args.self.now in
    let from = c.in-Link.from in
    let to = c.in-Link.to in
    let is_so = is_wanted s.fates s.cluster.sent (Link from to) c.args.wanted in
    let found = subst (λ (link : ℕ). IsOldest (λ k. IsOver link (slice_get s.cluster.sent k)) is_so c.oldest_over.result) c.link.ensures.value (rw c.in-Link.is at c.oldest_over.ensures) in
    rw c.in-Link.is (none_of_oldest (λ k. IsOver (link_of from to) (slice_get s.cluster.sent k)) is_so (rest_of_link s.fates s.cluster.sent from to c.args.wanted) c.oldest_over.result found)
