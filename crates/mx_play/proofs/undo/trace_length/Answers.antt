use Rattle.std.proofs.Common.{arith, rules}
use Rattle.std.proofs.lemmas.Grind.{common_steps}
use Rattle.mx_play.proofs.undo.trace_length.Goals as goal

pub trace_of-requires : goal.trace_of-requires
trace_of-requires g c = first_of (search rules, search c.requires-raw, search (rules, c.requires-raw), grind (arith, common_steps))
