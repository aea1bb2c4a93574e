use Rattle.std.proofs.Common.{◌≡◌, ◌-◌, List, arith, get_or, length, rules, slice_get, subst, sym}
use Rattle.mx_scripts.specs.UnderWay.{IsListedOver}
use Rattle.mx_scripts.specs.declared.under_way.ListedParcel.{ListedParcel}
use Rattle.mx_scripts.proofs.UnderWayLemmas.{lead_at}
use Rattle.mx_scripts.proofs.under_way.UnderWay.lead_on.Goals as goal

pub invariant_of-self-then-is_over : goal.invariant_of-self-then-is_over
invariant_of-self-then-is_over c =
    let i = c.self.inside in
    let end = get_or i.end c.args.link 0 in
    let count : c.len-number.result ≡ length i.parcels.items = search rules in
    let over = subst (λ (l : List ListedParcel). IsListedOver c.args.link (slice_get l (end - 1))) (sym c.self.view_is) (c.is_over.ensures c.if-is_over.true) in
    rw (c.put.ensures, count) (lead_at i.parcels.items i.next.items i.first i.end i.oldest c.self.invariant (end - 1) c.args.link (let more = c.if-end-self.false in omega (arith, more)) over)
