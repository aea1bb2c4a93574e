use Rattle.std.proofs.Common.{ℕ, ◌≡◌, ◌<◌, get_or, drop}
use Rattle.mx_journal.specs.Bases.{after_section, unwritten}
use Rattle.mx_journal.specs.Written.{after_each}
use Rattle.mx_journal.proofs.cells.write_all.Given as goal

abbrev pub invariant-loop-write : goal.invariant-loop-write
invariant-loop-write l = (register : ℕ) → register < 32 → after_each (after_section l.number) register (drop l.write-index l.writes) (get_or l.cells register unwritten) ≡ after_each (after_section l.number) register l.writes (get_or l.initial.cells register unwritten)
