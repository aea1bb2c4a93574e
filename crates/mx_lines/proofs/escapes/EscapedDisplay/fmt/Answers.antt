use Rattle.std.proofs.Common.{sym, rules}
use Rattle.std.proofs.Output.{has_written_append, has_written_of_eq}
use Rattle.std.proofs.lemmas.Iterator.{YieldsList-from_chars}
use Rattle.std.proofs.lemmas.Iterator.Consumers.{YieldsList-end}
use Rattle.mx_lines.proofs.EscapeLemmas.{shown_all, shown_chars_push}
use Rattle.mx_lines.proofs.escapes.EscapedDisplay.fmt.Goals as goal

pub loop-character-preserved : goal.loop-character-preserved
loop-character-preserved g c = λ plain.
    has_written_of_eq _ _ _ _ _ (sym (shown_chars_push c.loop-character.yielded c.in-Some.character)) (has_written_append _ _ _ _ _ _ (c.loop-character.invariant plain) (search rules))

pub returns-clause-writes : goal.returns-clause-writes
returns-clause-writes g c = λ plain _.
    let ended = YieldsList-end (YieldsList-from_chars c.args.self.now.0.now (search rules) cc) c.loop-character.yielded _ c.loop-character.yielded_by _ _ c.in-None.is c.next.ensures.steps in
    has_written_of_eq _ _ _ _ _ (shown_all c.loop-character.yielded c.args.self.now.0.now ended.0) (c.loop-character.invariant plain)
