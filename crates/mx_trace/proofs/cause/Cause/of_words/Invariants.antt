use Rattle.std.proofs.Common.{◌≡◌, drop}
use Rattle.mx_trace.specs.Causes.{first_named, cause_named}
use Rattle.mx_trace.proofs.cause.Cause.of_words.Given as goal

abbrev pub invariant-loop-cause : goal.invariant-loop-cause
invariant-loop-cause l = cause_named l.words ≡ first_named l.words (drop l.cause-index l.cause-items)
