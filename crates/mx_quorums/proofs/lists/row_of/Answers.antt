use Rattle.std.proofs.Common.{◌<◌, get_or, take, arith, length-set}
use Rattle.mx_stamps.specs.Lists.{IsIn}
use Rattle.mx_quorums.proofs.RowLemmas.{marked_more}
use Rattle.mx_quorums.proofs.ListLemmas.{in_at, in_more}
use Rattle.mx_quorums.proofs.lists.row_of.Goals as goal

pub bounds-row-j : goal.bounds-row-j
bounds-row-j c = c.requires _ (in_at c.args.set.now c.loop-j.j-index (omega arith))

pub loop-j-preserved : goal.loop-j-preserved
loop-j-preserved c = record {
  long = simp length-set c.loop-j.invariant.long;
  marks = λ j.
      let small : get_or c.args.set.now c.loop-j.j-index 0 < 21 = c.requires _ (in_at c.args.set.now c.loop-j.j-index (omega arith)) in
      let mark = marked_more (λ x. IsIn x (take c.loop-j.j-index c.args.set.now)) c.loop-j.row (get_or c.args.set.now c.loop-j.j-index 0) (omega arith) c.loop-j.invariant.marks j in
      let more = in_more c.args.set.now c.loop-j.j-index (omega arith) j in
      ((λ h. more.1 (mark.0 h)), (λ q. mark.1 (more.0 q)));
}
