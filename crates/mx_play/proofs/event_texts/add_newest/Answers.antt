use Rattle.std.proofs.Common.{◌≡◌, ◌∙◌, ◌+◌, ◌++◌, ◌∷◌, [], ℕ, List, OnOk, ap, arith, length, string_bytes, subst}
use Rattle.std.proofs.lemmas.List.{length-append}
use Rattle.mx_trace.specs.declared.outcome.Entry.{Entry}
use Rattle.mx_format.specs.LetterTexts.{letter_text}
use Rattle.mx_driver.specs.Runs.{text_of}
use Rattle.mx_play.proofs.event_texts.add_newest.Goals as goal

pub event-requires : goal.event-requires
event-requires g c = (search c.requires-raw, (c.requires.noted, c.requires.sent))

pub returns : goal.returns
returns g c = λ old entry trace sent.
    let more : length c.args.cluster.now.trace ≡ length old.trace + 1 = ap (λ (l : List Entry). length l) trace ∙ length-append old.trace (entry ∷ []) in
    let here : length c.trace.result.now ≡ length c.args.cluster.now.trace = ap (λ (l : List Entry). length l) c.trace.ensures.value in
    subst (λ (k : ℕ). OnOk c.event.result (string_bytes c.event.new.text ≡ string_bytes c.args.text.now ++ text_of g.C.Exclusion.core (letter_text g.C.Msg.Letter.parts) c.args.plan.now k old c.args.cluster.now))
    (omega (arith, more, here)) (c.event.ensures.text old entry trace sent)
