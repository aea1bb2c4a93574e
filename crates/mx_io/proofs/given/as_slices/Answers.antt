use Rattle.std.proofs.Common.{◌∙◌, ap, map, string_bytes}
use Rattle.std.proofs.lemmas.List.{take_all}
use Rattle.mx_io.proofs.given.as_slices.Goals as goal

pub returns : goal.returns
returns c = c.loop-word.invariant ∙ ap (map string_bytes) (take_all c.loop-word.word-index c.args.given.now c.loop-word-test.false)
