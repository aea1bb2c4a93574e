use Rattle.std.proofs.Common.{◌≡◌, refl}
use Rattle.mx_scripts.proofs.LineLemmas.{once_later, once_now}
use Rattle.mx_scripts.proofs.next_event.once.Goals as goal

pub returns-then-done-gt0 : goal.returns-then-done-gt0
returns-then-done-gt0 c = once_later c.args.done (λ e. e ≡ c.args.event) c.if-done-gt0.true

pub returns-else-done-gt0 : goal.returns-else-done-gt0
returns-else-done-gt0 c = once_now c.args.done (λ e. e ≡ c.args.event) c.args.event c.if-done-gt0.false refl
