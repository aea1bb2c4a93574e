use Rattle.std.proofs.Common.{◌≡◌, map, string_bytes, take}
use Rattle.mx_io.proofs.given.as_slices.Given as goal

abbrev pub invariant-loop-word : goal.invariant-loop-word
invariant-loop-word l = map (λ word. word.now) l.words.items ≡ map string_bytes (take l.word-index l.given)
