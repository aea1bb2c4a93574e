use Rattle.std.proofs.Common.{◌<◌, List, ℕ, slice_get, subst, sym}
use Rattle.mx_scripts.specs.UnderWay.{IsPassed}
use Rattle.mx_scripts.specs.declared.under_way.ListedParcel.{ListedParcel}
use Rattle.mx_scripts.proofs.UnderWayLemmas.{begin_at, oldest_at}
use Rattle.mx_scripts.proofs.under_way.UnderWay.pass.Goals as goal

pub invariant_of-self : goal.invariant_of-self
invariant_of-self c =
    let i = c.self.inside in
    let number = c.oldest_left-self-inside.result in
    oldest_at i.parcels.items i.next.items i.first i.end i.oldest c.self.invariant number
    (subst (λ (l : List ListedParcel). (link k : ℕ) → k < number → IsPassed link (slice_get l k)) (sym c.self.view_is) c.oldest_left-self-inside.ensures)

pub invariant_of-self-then-link-lt-LINKS : goal.invariant_of-self-then-link-lt-LINKS
invariant_of-self-then-link-lt-LINKS c =
    let i = c.self.inside in
    let number = c.oldest_left-self-inside.result in
    begin_at i.parcels.items i.next.items i.first i.end number
    (oldest_at i.parcels.items i.next.items i.first i.end i.oldest c.self.invariant number
    (subst (λ (l : List ListedParcel). (link k : ℕ) → k < number → IsPassed link (slice_get l k)) (sym c.self.view_is) c.oldest_left-self-inside.ensures))
    c.args.link c.first_left.result c.first_left.ensures

pub invariant_of-self-else-link-lt-LINKS : goal.invariant_of-self-else-link-lt-LINKS
invariant_of-self-else-link-lt-LINKS c =
    let i = c.self.inside in
    let number = c.oldest_left-self-inside.result in
    oldest_at i.parcels.items i.next.items i.first i.end i.oldest c.self.invariant number
    (subst (λ (l : List ListedParcel). (link k : ℕ) → k < number → IsPassed link (slice_get l k)) (sym c.self.view_is) c.oldest_left-self-inside.ensures)
