use Rattle.std.proofs.Common.{◌≡◌, ◌∙◌, ap, Ok, Err, Result, rules, sym}
use Rattle.mx_lines.specs.Names.{texts_of}
use Rattle.mx_lines.specs.Refusals.{and_then}
use Rattle.mx_lines.specs.Sides.{all_put}
use Rattle.mx_lines.specs.declared.errors.LineError.{LineError}
use Rattle.mx_lines.specs.declared.sides.Side.TheVariants.{Right}
use Rattle.mx_lines.specs.declared.sides.Sides.{Sides}
use Rattle.std.proofs.Common.{drop, ◌+◌}
use Rattle.mx_lines.proofs.SideLemmas.{error_is, left_over, sides_known}
use Rattle.mx_lines.proofs.sides.sides_at.Goals as goal

pub returns-in_err-left : goal.returns-in_err-left
returns-in_err-left g c =
    let e = c.in_err-left.field-0.0 in
    let failed : c.all_put.result ≡ Err e = search rules in
    let known = g.N.KnownNames.known c.args.names.now in
    let words = c.args.words.now in
    error_is c.from_residual.result e c.from_residual.ensures.1
    ∙ sym (sides_known known c.args.place c.args.bar words (search rules) (search rules)
    ∙ ap (λ (r : Result Sides LineError). and_then r (all_put known Right (c.args.place + c.args.bar + 2) (texts_of (drop (c.args.bar + 1) words)))) (sym (rw c.nobody.ensures at c.all_put.ensures) ∙ failed))

pub returns : goal.returns
returns g c =
    let done : c.all_put.result ≡ Ok c.in_ok-left.left = search rules in
    let known = g.N.KnownNames.known c.args.names.now in
    let words = c.args.words.now in
    rw (left_over known c.args.place c.args.bar words) at c.all_put-2.ensures
    ∙ sym (sides_known known c.args.place c.args.bar words (search rules) (search rules)
    ∙ ap (λ (r : Result Sides LineError). and_then r (all_put known Right (c.args.place + c.args.bar + 2) (texts_of (drop (c.args.bar + 1) words)))) (sym (rw c.nobody.ensures at c.all_put.ensures) ∙ done))
