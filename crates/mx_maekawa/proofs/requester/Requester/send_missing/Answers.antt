use Rattle.std.proofs.Common.{◌≡◌, false, not, ◌&&◌, arith, refl, ◌∙◌}
use Rattle.std.proofs.lemmas.Grind.{common_steps}
use Rattle.mx_maekawa.specs.RequesterStep.{to_missing, is_own, holds}
use Rattle.mx_nodelaws.proofs.Sent.{failed_more}
use Rattle.mx_maekawa.proofs.requester.Requester.send_missing.Goals as goal
use Rattle.mx_maekawa.proofs.requester.Requester.send_missing.Goals.{in-Some+then-is_own+then-not-holds, in-Some+else-is_own, else-is_own-via-then-is_own+else-not-holds, else-is_own-via-else-is_own, in_default}

pub loop-i-preserved : goal.loop-i-preserved
loop-i-preserved c = elim c.match-of.branch [
  | in-Some+then-is_own+then-not-holds w ↦ grind (arith, common_steps)
  | in-Some+else-is_own w ↦
      let r = c.args.self.now in
      let is_not : (is_own r c.loop-i.i && not (holds r c.loop-i.i)) ≡ false = elim w.else-is_own.branch [
        | else-is_own-via-then-is_own+else-not-holds v ↦ grind (arith, common_steps)
        | else-is_own-via-else-is_own v ↦ grind (arith, common_steps)
      ] in
      record {
        sent = w.out-is ∙ failed_more (to_missing r c.args.letter.now) c.loop-i.i c.loop-i.out (is_own r c.loop-i.i && not (holds r c.loop-i.i)) c.args.letter.now c.loop-i.invariant.sent refl is_not;
        few = grind (arith, common_steps);
      }
  | in_default w ↦ grind (arith, common_steps)
]
