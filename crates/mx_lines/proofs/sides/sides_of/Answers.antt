use Rattle.std.proofs.Common.{◌∙◌, None, Some, sym}
use Rattle.mx_lines.proofs.SideLemmas.{sides_by}
use Rattle.mx_lines.proofs.sides.sides_of.Goals as goal

pub returns-in-Some : goal.returns-in-Some
returns-in-Some g c = c.sides_at.ensures ∙ sym (sides_by (g.N.KnownNames.known c.args.names.now) c.args.place c.args.words.now (Some c.in-Some.bar) c.in-Some.ensures.value)

pub returns-in-None : goal.returns-in-None
returns-in-None g c = c.refuse.ensures ∙ sym (sides_by (g.N.KnownNames.known c.args.names.now) c.args.place c.args.words.now None c.in-None.ensures.value)
