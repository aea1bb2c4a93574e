use Rattle.std.proofs.Common.{◌≡◌, arith, sym, subst}
use Rattle.std.proofs.lemmas.Grind.{common_steps}
use Rattle.mx_maekawa.specs.ArbiterStep.{waiting_at, IsLeastOf, least_of}
use Rattle.mx_maekawa.proofs.Least.{least_of_is}
use Rattle.mx_maekawa.proofs.arbiter.Arbiter.least.Goals as goal

pub returns-clause-least : goal.returns-clause-least
returns-clause-least c =
    let requests = waiting_at c.args.self.now in
    let n = c.args.self.now.count in
    let same : c.loop-i.least ≡ least_of requests n = grind (arith, common_steps) in
    subst (IsLeastOf requests n) (sym same) (least_of_is requests n)
