use Rattle.std.proofs.Common.{◌≡◌, ◌∙◌, sym, true}
use Rattle.mx_ricart.specs.Step.{has_all_replies}
use Rattle.mx_ricart.proofs.ricart.Ricart.add_missing.Goals as goal

pub returns-then-has_all_replies : goal.returns-then-has_all_replies
returns-then-has_all_replies c =
    let all : has_all_replies c.args.self.now ≡ true = sym c.has_all_replies.ensures.value ∙ c.if-has_all_replies.true in
    rw all c.add_word.ensures
