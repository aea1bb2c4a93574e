use Rattle.std.proofs.Common.{inl, refl}
use Rattle.mx_cli.proofs.report.report_usage.Goals as goal

pub returns-in-Ok : goal.returns-in-Ok
returns-in-Ok g c = inl refl

pub returns-in-Ok-2 : goal.returns-in-Ok-2
returns-in-Ok-2 g c = inl refl
