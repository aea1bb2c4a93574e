use Rattle.mx_format.specs.LetterTexts.{letter_text}
use Rattle.mx_play.proofs.HistoryLemmas.{adds_one}
use Rattle.mx_play.proofs.printed_events.PrintedEventsRecorderState.event.Goals as goal

pub add_made-requires : goal.add_made-requires
add_made-requires g c = (search c.requires-raw, c.requires.brought)

pub returns : goal.returns
returns g c = record {
  noted = λ old brings sent. adds_one g.C.Exclusion.core (letter_text g.C.Msg.Letter.parts) c.args.plan.now c.add_made.result c.args.self.now _ c.args.event.now old c.args.state.now c.in_ok-push.ensures.items
      (c.add_made.ensures old brings sent);
}
