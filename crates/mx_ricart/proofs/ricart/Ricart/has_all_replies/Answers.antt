use Rattle.std.proofs.Common.{rules, ◌≡◌}
use Rattle.mx_ricart.specs.Step.{has_all_replies}
use Rattle.mx_ricart.specs.laws.Tests.{permission_is}
use Rattle.mx_ricart.proofs.ricart.Ricart.has_all_replies.Goals as goal

pub returns-clause-all : goal.returns-clause-all
returns-clause-all c =
    let counted : c.loop-i.all ≡ has_all_replies c.args.self.now = search rules in
    permission_is c.args.self.now c.loop-i.all counted
