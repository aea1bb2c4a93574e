use Rattle.std.proofs.Common.{◌<◌, ◌≡◌, ◌∙◌, length, ap, arith}
use Rattle.std.proofs.lemmas.Bool.Decides.{nat_tests}
use Rattle.mx_journal.specs.Bases.{BaseState}
use Rattle.mx_journal.specs.declared.receipts.Receipt.{Receipt}
use Rattle.mx_member.specs.Steps.{settled_fault}
use Rattle.mx_member.proofs.Choosing.{room_settled}
use Rattle.mx_member.proofs.member.Member.settled_or_full.Goals as goal

pub returns-else-is_full : goal.returns-else-is_full
returns-else-is_full g c =
    let same : length c.close.result.reads.items ≡ length c.self.inside.draft.reads = ap (λ (r : Receipt). length r.reads.items) c.close.ensures.value in
    let room : length c.close.result.reads.items < 8 = grind (arith, nat_tests, c.is_full.ensures.value, c.is_full.ensures.fits, c.if-is_full.false) in
    room_settled (length c.self.inside.draft.reads) c.self.inside.journal.base.upto c.upto.result (omega arith) (c.upto.ensures.value ∙ ap (λ (b : BaseState). b.upto) c.base.ensures)
    ∙ ap (λ m. settled_fault (length m.draft.reads) m.journal.base.upto) c.self.view_is
