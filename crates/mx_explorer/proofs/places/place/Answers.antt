use Rattle.std.proofs.Common.{◌≡◌, arith, false, nat_eq, refl}
use Rattle.std.proofs.lemmas.Bool.Decides.{nat_tests}
use Rattle.mx_explorer.proofs.places.place.Goals as goal

pub returns-in-Deliver-2-clause-value : goal.returns-in-Deliver-2-clause-value
returns-in-Deliver-2-clause-value c =
    let some : nat_eq c.args.sent 0 ≡ false = grind (arith, nat_tests, c.if-sent-eq0.false) in
    rw (c.in-Deliver-2.is, c.min.ensures, some) refl
