use Rattle.std.proofs.Common.{rules}
use Rattle.mx_scripts.proofs.state.State.admit.Goals as goal

pub admit_event-requires : goal.admit_event-requires
admit_event-requires g c = search rules
