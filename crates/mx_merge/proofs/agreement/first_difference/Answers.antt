use Rattle.std.proofs.Common.{◌≡◌, subst}
use Rattle.mx_journal.specs.Bases.{BaseState}
use Rattle.mx_merge.proofs.Differences.{none_different, some_difference}
use Rattle.mx_merge.proofs.agreement.first_difference.Goals as goal

-- what is known of bases that were compared
same_bases : (seen other here there : BaseState) → seen ≡ here → other ≡ there → (seen.upto ≡ other.upto → seen ≡ other) → here.upto ≡ there.upto → here ≡ there
same_bases seen other here there e f h =
    subst (λ b. here.upto ≡ b.upto → here ≡ b) f (subst (λ b. b.upto ≡ other.upto → b ≡ other) e h)

pub returns-clause-some : goal.returns-clause-some
returns-clause-some c =
    some_difference c.first_conflict.result c.args.journal.now c.args.other.now
    (same_bases c.base.result.now c.base-2.result.now c.args.journal.now.base c.args.other.now.base c.base.ensures c.base-2.ensures (c.are_opposed.ensures.agreed c.if-are_opposed.false)) c.first_conflict.ensures.some

pub returns-clause-none : goal.returns-clause-none
returns-clause-none c =
    none_different c.first_conflict.result c.args.journal.now c.args.other.now
    (same_bases c.base.result.now c.base-2.result.now c.args.journal.now.base c.args.other.now.base c.base.ensures c.base-2.ensures (c.are_opposed.ensures.agreed c.if-are_opposed.false)) c.first_conflict.ensures.none
