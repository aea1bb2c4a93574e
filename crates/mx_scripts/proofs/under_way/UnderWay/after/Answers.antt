use Rattle.std.proofs.Common.{◌≡◌, ◌<◌, ℕ, List, get_or, rules, slice_get, subst, sym}
use Rattle.mx_scripts.specs.UnderWay.{IsListedOver}
use Rattle.mx_scripts.specs.declared.under_way.ListedParcel.{ListedParcel}
use Rattle.mx_scripts.proofs.UnderWayLemmas.{between_next}
use Rattle.mx_scripts.proofs.under_way.UnderWay.after.Goals as goal

pub returns-in-Some-clause-between : goal.returns-in-Some-clause-between
returns-in-Some-clause-between c =
    let i = c.self.inside in
    let link = c.args.link in
    let number = c.args.number in
    let over = subst (λ (l : List ListedParcel). IsListedOver link (slice_get l number)) (sym c.self.view_is) (c.is_over.ensures c.if-is_over.true) in
    let next : c.in-Some.after.now ≡ get_or i.next.items number 0 = search rules in
    rw (← c.self.view_is) (λ k lt less.
    between_next i.parcels.items i.next.items i.first i.end i.oldest c.self.invariant link number over k lt (subst (λ (n : ℕ). k < n) next less))
