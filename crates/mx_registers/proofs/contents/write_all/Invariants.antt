use Rattle.std.proofs.Common.{ℕ, ◌≡◌, ◌<◌, length, get_or, drop}
use Rattle.mx_registers.specs.Registers.{after_write, blank}
use Rattle.mx_journal.specs.Written.{after_each}
use Rattle.mx_registers.proofs.contents.write_all.Given as goal

abbrev pub invariant-loop-write : goal.invariant-loop-write
invariant-loop-write l = (register : ℕ) → register < length l.contents → after_each (after_write l.number) register (drop l.write-index l.writes) (get_or l.contents register blank) ≡ after_each (after_write l.number) register l.writes (get_or l.initial.contents register blank)
