use Rattle.std.proofs.Common.{arith, rules}
use Rattle.std.proofs.lemmas.Grind.{common_steps}
use Rattle.mx_play.proofs.undo.run_again.Goals as goal

pub first_state-requires : goal.first_state-requires
first_state-requires g c = search rules

pub apply_lines-requires : goal.apply_lines-requires
apply_lines-requires g c = (first_of (search rules, search (rules, c.requires-raw), grind (arith, common_steps)), rw c.in_ok-state.ensures c.requires)
