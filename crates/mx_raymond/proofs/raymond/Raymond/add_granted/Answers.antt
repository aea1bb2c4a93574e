use Rattle.std.proofs.Common.{◌≡◌, ◌∙◌, sym, true}
use Rattle.mx_raymond.specs.Step.{has_permission}
use Rattle.mx_raymond.proofs.raymond.Raymond.add_granted.Goals as goal

pub returns-then-has_permission : goal.returns-then-has_permission
returns-then-has_permission c =
    let granted : has_permission c.args.self.now ≡ true = sym c.has_permission.ensures.value ∙ c.if-has_permission.true in
    rw granted c.add_word.ensures
