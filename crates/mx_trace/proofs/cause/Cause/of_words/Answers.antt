use Rattle.std.proofs.Common.{◌∙◌, sym, ap}
use Rattle.std.specs.Str.{bytes_eq}
use Rattle.mx_trace.proofs.CausesNamed.{passed_over}
use Rattle.mx_trace.proofs.cause.Cause.of_words.Goals as goal

pub loop-cause-preserved : goal.loop-cause-preserved
loop-cause-preserved c =
    c.loop-cause.invariant
    ∙ passed_over c.args.words.now _ c.loop-cause.cause-index _ c.loop-cause-test.true
    (ap (bytes_eq c.args.words.now) (sym c.words.ensures) ∙ sym c.eq.ensures ∙ c.if-eq.false)
