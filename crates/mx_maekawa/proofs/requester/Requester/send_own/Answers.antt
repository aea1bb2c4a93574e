use Rattle.std.proofs.Common.{◌≡◌, false, arith, refl, ◌∙◌}
use Rattle.std.proofs.lemmas.Grind.{common_steps}
use Rattle.mx_maekawa.specs.RequesterStep.{to_own, is_own}
use Rattle.mx_nodelaws.proofs.Sent.{failed_more}
use Rattle.mx_maekawa.proofs.requester.Requester.send_own.Goals as goal
use Rattle.mx_maekawa.proofs.requester.Requester.send_own.Goals.{in-Some+then-is_own, in-Some+else-is_own, in_default}

pub loop-i-preserved : goal.loop-i-preserved
loop-i-preserved c = elim c.match-of.branch [
  | in-Some+then-is_own w ↦ grind (arith, common_steps)
  | in-Some+else-is_own w ↦
      let r = c.args.self.now in
      let is_not : is_own r c.loop-i.i ≡ false = grind (arith, common_steps) in
      record {
        sent = w.out-is ∙ failed_more (to_own r c.args.letter.now) c.loop-i.i c.loop-i.out (is_own r c.loop-i.i) c.args.letter.now c.loop-i.invariant.sent refl is_not;
        few = grind (arith, common_steps);
      }
  | in_default w ↦ grind (arith, common_steps)
]
