use Rattle.std.proofs.Common.{◌≡◌, Err, IfSome, Option, inr, subst}
use Rattle.mx_plan.specs.Text.{Text}
use Rattle.mx_io.specs.Told.{Telling}
use Rattle.mx_cli.specs.Reading.{Fetches}
use Rattle.mx_cli.specs.declared.faults.Named.TheVariants.{Events}
use Rattle.mx_cli.proofs.ReadLemmas.{err_is}
use Rattle.mx_cli.proofs.planning.fetch_two.Goals as goal

pub returns-in_err-text-clause-read : goal.returns-in_err-text-clause-read
returns-in_err-text-clause-read g c =
    let s = c.in_err-text.field-0.0 in
    let fetched = subst (λ (t : Text → Option Telling). IfSome (t c.args.names.now.events.now) (λ telling. Fetches Events telling (Err s))) c.in_ok-plan.ensures.stays c.in_err-text.ensures.told in
    let is : c.from_residual-in_err-text.result ≡ Err s = err_is c.from_residual-in_err-text.result s c.from_residual-in_err-text.ensures.1 in
    rw is (inr (c.in_ok-plan.plan, c.in_ok-plan.ensures.told, fetched))
