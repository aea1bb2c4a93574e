use Rattle.std.proofs.Common.{◌∙◌, sym, ap}
use Rattle.std.specs.Str.{bytes_eq}
use Rattle.mx_events.proofs.Named.{passed_over}
use Rattle.mx_events.proofs.kind.EventKind.of_word.Goals as goal

pub loop-kind-preserved : goal.loop-kind-preserved
loop-kind-preserved c =
    c.loop-kind.invariant
    ∙ passed_over c.args.word.now _ c.loop-kind.kind-index _ c.loop-kind-test.true
    (ap (bytes_eq c.args.word.now) (sym c.word.ensures) ∙ sym c.eq.ensures ∙ c.if-eq.false)
