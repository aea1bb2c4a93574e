use Rattle.std.proofs.Common.{◌≤◌, ◌<◌, ◌∙◌, List, ap, length, rules, sym}
use Rattle.mx_scripts.specs.UnderWay.{without}
use Rattle.mx_scripts.specs.declared.under_way.ListedParcel.{ListedParcel}
use Rattle.mx_scripts.proofs.UnderWayLemmas.{parcel_less, set_without, without_past}
use Rattle.mx_scripts.proofs.under_way.UnderWay.remove.Goals as goal

pub invariant_of-self : goal.invariant_of-self
invariant_of-self c =
    let i = c.self.inside in
    let lt : c.args.number < length i.parcels.items = search rules in
    rw (set_without i.parcels.items c.args.number c.index_mut.result.now c.index_mut.ensures.value lt) (parcel_less i.parcels.items i.next.items i.first i.end i.oldest c.self.invariant c.args.number)

pub returns-then-place-len : goal.returns-then-place-len
returns-then-place-len c =
    let i = c.self.inside in
    let lt : c.args.number < length i.parcels.items = search rules in
    c.pass.ensures ∙ set_without i.parcels.items c.args.number c.index_mut.result.now c.index_mut.ensures.value lt ∙ ap (λ (l : List ListedParcel). without c.args.number l) c.self.view_is

pub returns-else-place-len : goal.returns-else-place-len
returns-else-place-len c =
    let i = c.self.inside in
    let past : length i.parcels.items ≤ c.args.number = search rules in
    rw (← c.self.view_is) (sym (without_past i.parcels.items c.args.number past))
