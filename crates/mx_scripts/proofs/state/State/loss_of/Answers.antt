use Rattle.std.proofs.Common.{◌≡◌, None, Option, Some, arith, refl, subst, sym}
use Rattle.std.specs.Prelude.{Bool, if◌then◌else◌}
use Rattle.mx_scripts.specs.declared.state.SessionEvent.{SessionEvent}
use Rattle.mx_scripts.specs.declared.state.SessionEvent.TheVariants.{IsLost}
use Rattle.mx_scripts.proofs.state.State.loss_of.Goals as goal

pub returns-then-number-sent-clause-err : goal.returns-then-number-sent-clause-err
returns-then-number-sent-clause-err g c = rw (← c.self.view_is) (refl, omega arith)

pub returns-then-is_under_way-clause-next : goal.returns-then-is_under_way-clause-next
returns-then-is_under_way-clause-next g c =
    let lost : Option SessionEvent = Some (IsLost c.args.number) in
    let is = subst (λ (b : Bool). lost ≡ (if b then lost else None)) (sym c.if-is_under_way.true) refl in
    (rw (← c.self.view_is) (omega arith), subst (λ (b : Bool). lost ≡ (if b then lost else None)) c.is_under_way.ensures is)

pub returns-else-is_under_way-clause-next : goal.returns-else-is_under_way-clause-next
returns-else-is_under_way-clause-next g c =
    let lost : Option SessionEvent = Some (IsLost c.args.number) in
    let none : Option SessionEvent = None in
    let is = subst (λ (b : Bool). none ≡ (if b then lost else None)) (sym c.if-is_under_way.false) refl in
    (rw (← c.self.view_is) (omega arith), subst (λ (b : Bool). none ≡ (if b then lost else None)) c.is_under_way.ensures is)
