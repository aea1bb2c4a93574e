use Rattle.std.proofs.Common.{◌≡◌, ◌++◌, string_bytes, drop}
use Rattle.std.specs.Prelude.{codes}
use Rattle.mx_format.specs.Lines.{each_text}
use Rattle.mx_lines.specs.Names.{texts_of}
use Rattle.mx_scripts.proofs.expectation.add_more.Given as goal

abbrev pub invariant-loop-word : goal.invariant-loop-word
invariant-loop-word l =
    string_bytes l.fn.text ++ each_text (λ word. codes " " ++ word) (texts_of l.words)
    ≡ string_bytes l.text ++ each_text (λ word. codes " " ++ word) (texts_of (drop l.word-index l.words))
