use Rattle.std.proofs.Common.{◌≡◌, List, Ok, subst, sym}
use Rattle.std.specs.Borrow.{Bor}
use Rattle.mx_plan.specs.Text.{Text}
use Rattle.mx_lines.specs.Lines.{line_of}
use Rattle.mx_lines.specs.Names.{known_of, texts_of}
use Rattle.mx_scripts.proofs.lines.line_in.Goals as goal

pub returns-in-Ok-clause-ok : goal.returns-in-Ok-clause-ok
returns-in-Ok-clause-ok c = (
  c.in_ok-words.words.items,
  c.in_ok-words.ensures,
  subst (λ (l : List (Bor Text)). line_of (known_of c.args.plan.now) (texts_of l) ≡ Ok c.in-Ok.line) c.as_slice.ensures.value (sym c.in-Ok.ensures),
)
