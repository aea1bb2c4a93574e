use Rattle.std.proofs.Common.{ℕ, ◌≡◌, ◌+◌, ◌++◌, vec_len}
use Rattle.mx_explorer.specs.Drawn.{drawn_list}
use Rattle.mx_explorer.specs.Weather.{generator_of}
use Rattle.mx_explorer.proofs.schedules.schedule.Given as goal

-- with the events of the steps to come, the list is whole
abbrev pub invariant-loop : goal.invariant-loop
invariant-loop l = record {
  count : vec_len l.events ≡ l.counter;
  value : (rest : ℕ) → l.counter + rest ≡ l.steps → l.events.items ++ drawn_list rest l.nodes l.registers l.words ≡ drawn_list l.steps l.nodes l.registers (generator_of l.seed);
}
