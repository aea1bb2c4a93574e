use Rattle.mx_draw.proofs.ParcelLemmas.{kept, taken}
use Rattle.mx_draw.proofs.under_way.take.Goals as goal

pub returns-in-Some : goal.returns-in-Some
returns-in-Some c =
    taken c.args.number c.args.flying.now.items c.as_slice.result.now _ c.in-Some.place c.swap_remove.result c.in-Some.ensures.value c.as_slice.ensures.value c.in-Some.ensures.within
    c.swap_remove.ensures.value c.swap_remove.ensures.items

pub returns-in-None : goal.returns-in-None
returns-in-None c = kept c.args.number c.args.flying.now.items c.as_slice.result.now c.in-None.ensures.value c.as_slice.ensures.value
