use Rattle.std.proofs.Common.{◌≡◌, true, arith, subst, sym}
use Rattle.std.proofs.lemmas.Grind.{common_steps}
use Rattle.mx_maekawa.specs.RequesterStep.{HasFailed, has_failed_below}
use Rattle.mx_maekawa.specs.laws.Tests.{has_failed_is}
use Rattle.mx_maekawa.proofs.requester.Requester.has_failed.Goals as goal

pub returns-clause-some : goal.returns-clause-some
returns-clause-some c =
    let same : c.loop-i.any ≡ has_failed_below c.args.self.now c.args.self.now.count = grind (arith, common_steps) in
    subst (λ b. (b ≡ true → HasFailed c.args.self.now) × (HasFailed c.args.self.now → b ≡ true)) (sym same) (has_failed_is c.args.self.now)
