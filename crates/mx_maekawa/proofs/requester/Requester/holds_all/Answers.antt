use Rattle.std.proofs.Common.{◌≡◌, true, arith, subst, sym}
use Rattle.std.proofs.lemmas.Grind.{common_steps}
use Rattle.mx_maekawa.specs.RequesterStep.{HoldsAll, holds_all}
use Rattle.mx_maekawa.specs.laws.Tests.{holds_all_is}
use Rattle.mx_maekawa.proofs.requester.Requester.holds_all.Goals as goal

pub returns-clause-all : goal.returns-clause-all
returns-clause-all c =
    let same : c.loop-i.all ≡ holds_all c.args.self.now = grind (arith, common_steps) in
    subst (λ b. (b ≡ true → HoldsAll c.args.self.now) × (HoldsAll c.args.self.now → b ≡ true)) (sym same) (holds_all_is c.args.self.now)
