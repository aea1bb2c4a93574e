use Rattle.std.proofs.Common.{◌≡◌, ◌==◌, drop, map, filter}
use Rattle.std.specs.List.{last_or}
use Rattle.mx_journal.specs.Drafted.{last_value}
use Rattle.mx_journal.proofs.draft.last_of.Given as goal

abbrev pub invariant-loop-write : goal.invariant-loop-write
invariant-loop-write l =
    last_or l.last (map (λ w. w.value) (filter (λ w. w.register == l.register) (drop l.write-index l.writes))) ≡ last_value l.register l.writes
