use Rattle.std.proofs.Common.{◌≡◌, ◌∙◌, sym, true}
use Rattle.mx_maekawa.specs.RequesterStep.{holds_all}
use Rattle.mx_maekawa.proofs.requester.Requester.add_missing.Goals as goal

pub returns-then-holds_all : goal.returns-then-holds_all
returns-then-holds_all c =
    let all : holds_all c.args.self.now ≡ true = sym c.holds_all.ensures.value ∙ c.if-holds_all.true in
    rw all c.add_word.ensures
