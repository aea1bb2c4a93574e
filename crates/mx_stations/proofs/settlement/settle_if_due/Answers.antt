use Rattle.std.proofs.Common.{◌≡◌, ◌+◌, List, arith, inr, length, refl, subst, sym}
use Rattle.mx_stamps.proofs.Choices.{not_both}
use Rattle.mx_journal.specs.declared.receipts.Receipt.{Receipt}
use Rattle.mx_journal.specs.Settled.{JournalState}
use Rattle.mx_member.specs.Member.{first_gap}
use Rattle.mx_stations.specs.Works.{IsDue}
use Rattle.mx_stations.proofs.Rounding.{settling_due}
use Rattle.mx_stations.proofs.settlement.settle_if_due.Goals as goal

pub is_due-requires : goal.is_due-requires
is_due-requires g c = omega arith

pub returns-then-is_due : goal.returns-then-is_due
returns-then-is_due g c =
    settling_due g.C.Exclusion.core c.args.every c.gapless_to-upto.result c.args.before c.settle.result _ _
    (subst (λ (rs : List Receipt). IsDue c.args.every c.args.before (length rs)) c.receipts.ensures (c.if-is_due.ensures.0 refl))
    (subst (λ (j : JournalState). c.gapless_to-upto.result + 1 ≡ first_gap j) c.journal.ensures c.gapless_to-upto.ensures.value)
    c.settle.ensures.answer c.settle.ensures.done

pub returns-else-is_due : goal.returns-else-is_due
returns-else-is_due g c =
    inr ((λ due. not_both _ (c.is_due.ensures.1 (subst (λ (rs : List Receipt). IsDue c.args.every c.args.before (length rs)) (sym c.receipts.ensures) due)) c.if-is_due.false), refl)
