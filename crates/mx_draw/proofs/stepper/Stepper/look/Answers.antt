use Rattle.std.proofs.Common.{ap, ℕ, List}
use Rattle.mx_draw.proofs.StepLemmas.{with_flying}
use Rattle.mx_draw.proofs.stepper.Stepper.look.Goals as goal

pub returns : goal.returns
returns c = ap (λ (flying : List ℕ). with_flying c.args.self.now.words flying c.args.sent) c.in_ok-put_new.ensures
