use Rattle.std.proofs.Common.{◌≡◌, ◌∙◌, ap, sym, true}
use Rattle.mx_raymond.specs.Node.{Node}
use Rattle.mx_raymond.proofs.raymond.Raymond.add_asked.Goals as goal

pub returns-then-self : goal.returns-then-self
returns-then-self c =
    let asked : c.args.self.now.has_asked ≡ true = sym (ap (λ (s : Node). s.has_asked) c.self.view_is) ∙ c.if-self.true in
    rw asked c.add_word.ensures
