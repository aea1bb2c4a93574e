use Rattle.std.proofs.Common.{◌≡◌, Err, List, Ok, refl, subst, sym}
use Rattle.std.specs.Borrow.{Bor}
use Rattle.mx_lines.specs.Commands.{command_of}
use Rattle.mx_lines.specs.Names.{known_of, texts_of}
use Rattle.mx_plan.specs.Text.{Text}
use Rattle.mx_play.proofs.CommandLemmas.{input_over}
use Rattle.mx_play.proofs.input.input_in_text.Goals as goal

pub returns-in-Ok-clause-over : goal.returns-in-Ok-clause-over
returns-in-Ok-clause-over c = input_over c.args.plan.now (texts_of c.as_slice.result.now) c.in-Ok.command c.in-Ok.ensures

pub returns-in-Ok-clause-means : goal.returns-in-Ok-clause-means
returns-in-Ok-clause-means c = λ short utf8. (
  refl,
  (
    short,
    utf8,
    (
      c.in_ok-words.words.items,
      c.in_ok-words.ensures,
      subst (λ (l : List (Bor Text)). command_of (known_of c.args.plan.now) (texts_of l) ≡ Ok c.in-Ok.command) c.as_slice.ensures.value (sym c.in-Ok.ensures),
    ),
  ),
)

pub returns-clause-means : goal.returns-clause-means
returns-clause-means c = λ short utf8. (
  c.in-Err.error,
  (
    c.in_ok-words.words.items,
    c.in_ok-words.ensures,
    subst (λ (l : List (Bor Text)). command_of (known_of c.args.plan.now) (texts_of l) ≡ Err c.in-Err.error) c.as_slice.ensures.value (sym c.in-Err.ensures),
  ),
  refl,
)
