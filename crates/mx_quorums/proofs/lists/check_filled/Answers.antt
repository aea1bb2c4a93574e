use Rattle.std.proofs.Common.{◌≡◌, length, below_more, arith, ap, sym, ◌∙◌}
use Rattle.std.proofs.lemmas.Grind.{common_steps}
use Rattle.std.proofs.lemmas.Bool.Decides.{nat_tests}
use Rattle.mx_quorums.proofs.ListLemmas.{list_read}
use Rattle.mx_quorums.proofs.lists.check_filled.Goals as goal

pub loop-i-preserved : goal.loop-i-preserved
loop-i-preserved c =
    let v = c.index-sets-i.result in
    let read = list_read c.args.sets.now c.loop-i.i v (omega arith) c.index-sets-i.is in
    below_more _ _ c.loop-i.invariant (λ e. let empty : length v.items ≡ 0 = ap length (sym read ∙ e) in grind (arith, nat_tests, common_steps, v.ok.0, c.if-is_empty.ensures))
