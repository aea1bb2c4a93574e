use Rattle.std.proofs.Common.{below_more, arith, refl, ap, sym, ◌∙◌, find, nat_le}
use Rattle.mx_quorums.specs.Lists.{lists_of, list_of}
use Rattle.mx_quorums.proofs.ListLemmas.{list_read, length_lists, first_stranger_at, all_below}
use Rattle.mx_quorums.proofs.lists.check_members.Goals as goal

pub returns-in-Some : goal.returns-in-Some
returns-in-Some c =
    let read = list_read c.args.sets.now c.loop-i.i c.index-sets-i.result (omega arith) c.index-sets-i.is ∙ sym c.deref.ensures.value in
    let same = length_lists c.args.sets.now in
    let finds = ap (find (nat_le c.args.nodes)) read ∙ sym c.in-Some.ensures in
    (c.loop-i.i, c.in-Some.j, refl, first_stranger_at (lists_of c.args.sets.now) c.args.nodes c.loop-i.i c.in-Some.j (omega arith) (omega arith) c.loop-i.invariant finds)

pub loop-i-preserved : goal.loop-i-preserved
loop-i-preserved c =
    let read = list_read c.args.sets.now c.loop-i.i c.index-sets-i.result (omega arith) c.index-sets-i.is ∙ sym c.deref.ensures.value in
    let finds = ap (find (nat_le c.args.nodes)) read ∙ sym c.in_default.ensures in
    below_more _ _ c.loop-i.invariant (λ j here. all_below c.args.nodes (list_of (lists_of c.args.sets.now) c.loop-i.i) j finds here)

pub returns : goal.returns
returns c = λ i j lt here.
    let same = length_lists c.args.sets.now in
    let below = c.loop-i.invariant i (omega arith) j here in
    omega arith
