use Rattle.std.proofs.Common.{◌≡◌, ◌∙◌, ap, sym, false}
use Rattle.mx_raymond.specs.Node.{Node}
use Rattle.mx_raymond.specs.Step.{is_holder}
use Rattle.mx_raymond.proofs.raymond.Raymond.add_place.Goals as goal

pub returns-else-is_holder : goal.returns-else-is_holder
returns-else-is_holder c =
    let other : is_holder c.args.self.now ≡ false = sym c.is_holder.ensures ∙ c.if-is_holder.false in
    let toward : c.args.self.now.holder ≡ c.self.inside.holder = sym (ap (λ (s : Node). s.holder) c.self.view_is) in
    rw other (rw toward c.add.ensures)
