use Rattle.std.proofs.Common.{ℕ, ◌+◌, ◌%◌, ◌<◌, get_or, take, arith, length-set}
use Rattle.mx_quorums.specs.Shapes.{IsShifted}
use Rattle.mx_quorums.proofs.RowLemmas.{marked_more}
use Rattle.mx_quorums.proofs.ListLemmas.{in_at, shifted_more}
use Rattle.mx_quorums.proofs.shifts.shifted.Goals as goal

pub overflow_add-row : goal.overflow_add-row
overflow_add-row c =
    let d : get_or c.args.differences.now c.loop-d.d-index 0 < c.args.n = c.requires.small _ (in_at c.args.differences.now c.loop-d.d-index (omega arith)) in
    omega arith

pub loop-d-preserved : goal.loop-d-preserved
loop-d-preserved c = record {
  long = simp length-set c.loop-d.invariant.long;
  marks = λ j.
      let place : ℕ = (c.args.i + get_or c.args.differences.now c.loop-d.d-index 0) % c.args.n in
      let mark = marked_more (IsShifted c.args.n (take c.loop-d.d-index c.args.differences.now) c.args.i) c.loop-d.row place (omega arith) c.loop-d.invariant.marks j in
      let more = shifted_more c.args.n c.args.differences.now c.args.i c.loop-d.d-index (omega arith) j in
      ((λ h. more.1 (mark.0 h)), (λ q. mark.1 (more.0 q)));
}
