use Rattle.std.proofs.Common.{rules, refl, sym, ◌∙◌, ◌++◌, ◌∷◌, []}
use Rattle.mx_member.proofs.Refusing.{is_err, not_left}
use Rattle.mx_stations.proofs.acts.close.Goals as goal

pub returns-in_default-clause-not_inside : goal.returns-in_default-clause-not_inside
returns-in_default-clause-not_inside g c = ((λ e inside. c.in_default.not-Inside inside.0 (c.phase.ensures.value ∙ inside.1)), (λ h. refl))

pub returns-in_err-make_room-clause-not_inside : goal.returns-in_err-make_room-clause-not_inside
returns-in_err-make_room-clause-not_inside g c =
    not_left c.from_residual.result c.in_err-make_room.field-0.0 (is_err c.from_residual.result c.in_err-make_room.field-0.0 c.from_residual.ensures.1) c.in_err-make_room.ensures.memory
    (c.in-Inside.field-0, sym c.phase.ensures.value ∙ c.in-Inside.is)

pub leave-requires : goal.leave-requires
leave-requires g c = (search rules, (search rules, c.clear.ensures))

pub returns-clause-receipts : goal.returns-clause-receipts
returns-clause-receipts g c = c.push_reserved.ensures.items ∙ (λ j. c.make_room.ensures.same j ++ c.copy.ensures j ∷ [])

pub returns-in_err-make_room-clause-memory : goal.returns-in_err-make_room-clause-memory
returns-in_err-make_room-clause-memory g c = λ memory. (c.in-Inside.field-0, sym c.phase.ensures.value ∙ c.in-Inside.is)

pub returns-in_err-receipt-clause-memory : goal.returns-in_err-receipt-clause-memory
returns-in_err-receipt-clause-memory g c = λ memory. (c.in-Inside.field-0, sym c.phase.ensures.value ∙ c.in-Inside.is)

pub returns-in_err-receipt-clause-not_inside : goal.returns-in_err-receipt-clause-not_inside
returns-in_err-receipt-clause-not_inside g c =
    let is = is_err c.from_residual-in_err-receipt.result c.in_err-receipt.field-0.0 c.from_residual-in_err-receipt.ensures.1 in
    let n = c.in_err-receipt.ensures.not_inside in
    ((λ e. n.0 (sym is ∙ e)), (λ h. is ∙ n.1 h))
