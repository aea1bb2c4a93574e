use Rattle.std.proofs.Common.{◌≡◌, drop}
use Rattle.mx_events.specs.Words.{first_named, kind_named}
use Rattle.mx_events.proofs.kind.EventKind.of_word.Given as goal

abbrev pub invariant-loop-kind : goal.invariant-loop-kind
invariant-loop-kind l = kind_named l.word ≡ first_named l.word (drop l.kind-index l.kind-items)
