use Rattle.std.proofs.Common.{sym}
use Rattle.mx_scripts.proofs.FateLemmas.{delivers_none}
use Rattle.mx_scripts.proofs.in_flight.InFlight.take_in.Goals as goal

pub returns-in_default : goal.returns-in_default
returns-in_default g c = sym (delivers_none c.args.cluster.now.sent c.args.event.now c.args.self.now c.in_default.not-Deliver)
