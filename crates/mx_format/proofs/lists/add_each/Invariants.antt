use Rattle.std.proofs.Common.{◌≡◌, ◌++◌, string_bytes, drop}
use Rattle.mx_format.specs.Lines.{each_text}
use Rattle.mx_format.proofs.lists.add_each.Given as goal

abbrev pub invariant-loop-value : goal.invariant-loop-value
invariant-loop-value g l =
    string_bytes l.fn.text ++ each_text (λ value. l.before ++ g.V.Listed.written l.plan value) l.values
    ≡ string_bytes l.text ++ each_text (λ value. l.before ++ g.V.Listed.written l.plan value) (drop l.value-index l.values)
