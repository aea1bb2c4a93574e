use Rattle.std.proofs.Common.{◌≡◌, ◌++◌, string_bytes}
use Rattle.mx_format.specs.LetterTexts.{letter_text}
use Rattle.mx_format.specs.Lines.{each_text}
use Rattle.mx_play.specs.Views.{waiting_line, waiting_lines}
use Rattle.mx_play.proofs.shown_parcels.add_waiting.Given as goal

abbrev pub invariant-loop-number : goal.invariant-loop-number
invariant-loop-number g l =
    let core = g.C.Exclusion.core in
    let texts = letter_text g.C.Msg.Letter.parts in
    string_bytes l.initial.text ++ waiting_lines core texts l.plan l.to l.state
    ≡ string_bytes l.text ++ each_text (λ x. waiting_line core texts l.plan l.to l.state x.0 x.1) l.number-iterator
