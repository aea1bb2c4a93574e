use Rattle.std.proofs.Common.{◌<◌, length, subst, sym, ◌∙◌, arith}
use Rattle.mx_stamps.specs.Lists.{IsIn}
use Rattle.mx_quorums.specs.Lists.{lists_of, IsListed}
use Rattle.mx_quorums.specs.Rows.{Marks}
use Rattle.mx_quorums.proofs.RowLemmas.{no_row, one_more_row}
use Rattle.mx_quorums.proofs.ListLemmas.{list_read, length_lists, listed_within}
use Rattle.mx_quorums.proofs.lists.rows_of.Goals as goal

pub loop-i-init : goal.loop-i-init
loop-i-init c = no_row (IsListed (lists_of c.args.sets.now))

pub row_of-requires : goal.row_of-requires
row_of-requires c = λ j here.
    let read = list_read c.args.sets.now c.loop-i.i c.index-sets-i.result (omega arith) c.index-sets-i.is in
    let same = length_lists c.args.sets.now in
    let node : j < length (lists_of c.args.sets.now) = c.requires.nodes c.loop-i.i j (omega arith) (subst (IsIn j) (c.deref.ensures.value ∙ sym read) here) in
    omega arith

pub loop-i-preserved : goal.loop-i-preserved
loop-i-preserved c =
    let read = list_read c.args.sets.now c.loop-i.i c.index-sets-i.result (omega arith) c.index-sets-i.is in
    one_more_row (IsListed (lists_of c.args.sets.now)) c.loop-i.rows c.loop-i.i c.row_of.result (omega arith) c.loop-i.invariant (subst (Marks c.row_of.result) (c.deref.ensures.value ∙ sym read) c.row_of.ensures)

pub returns : goal.returns
returns c = λ i j.
    let same = length_lists c.args.sets.now in
    let all = c.loop-i.invariant.marks i j in
    ((λ h. (all.0 h).1), (λ here. let node : i < length (lists_of c.args.sets.now) = listed_within (lists_of c.args.sets.now) i j here in all.1 (omega arith, here)))
