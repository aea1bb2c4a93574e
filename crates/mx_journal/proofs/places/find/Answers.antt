use Rattle.std.proofs.Common.{◌≡◌, ◌-◌, suc, None, Some, sym, ◌∙◌, subst, arith}
use Rattle.mx_journal.specs.Records.{above, record_at}
use Rattle.mx_journal.specs.Runs.{flatten}
use Rattle.mx_journal.proofs.Answering.{zero_none}
use Rattle.mx_journal.proofs.Flat.{ascending_flat}
use Rattle.mx_journal.proofs.Found.{none_above, other_above, some_above}
use Rattle.mx_journal.proofs.places.find.Goals.{in_default-via-in-Some+else-found-number, in_default-via-in_default}
use Rattle.mx_journal.proofs.places.find.Goals as goal

pub returns-then-number-eq0 : goal.returns-then-number-eq0
returns-then-number-eq0 c = zero_none c.args.number (flatten c.args.runs.now) (ascending_flat 1 c.args.runs.now c.requires) c.if-number-eq0.true

pub returns-in-Some : goal.returns-in-Some
returns-in-Some c =
    let all = flatten c.args.runs.now in
    let found = c.in-Some.found.now in
    let same : suc (c.args.number - 1) ≡ c.args.number = omega (arith, c.if-number-eq0.false) in
    subst (λ n. record_at n all ≡ Some found) same
    (some_above (c.args.number - 1) 1 all found (above found.number all) (ascending_flat 1 c.args.runs.now c.requires) c.in-Some.ensures (c.if-found-number.true ∙ sym same))

pub returns-in_default : goal.returns-in_default
returns-in_default c =
    let all = flatten c.args.runs.now in
    let order = ascending_flat 1 c.args.runs.now c.requires in
    let same : suc (c.args.number - 1) ≡ c.args.number = omega (arith, c.if-number-eq0.false) in
    subst (λ n. record_at n all ≡ None) same (elim c.in_default.branch [
      | in_default-via-in-Some+else-found-number w ↦
          let found = w.in-Some.found.now in
          other_above (c.args.number - 1) 1 all found (above found.number all) order w.in-Some.ensures (λ e. w.if-found-number.false (e ∙ same))
      | in_default-via-in_default w ↦ none_above (c.args.number - 1) 1 all order w.in_default.ensures
    ])
