use Rattle.std.proofs.Common.{◌∙◌, sym, subst, arith}
use Rattle.mx_stations.specs.Links.{slot_in}
use Rattle.mx_stations.specs.Running.{IsIdle}
use Rattle.mx_stations.specs.Slides.{Claims, HasUsed}
use Rattle.mx_stations.proofs.Gathers.{each_more}
use Rattle.mx_stations.proofs.slots.claim_empty.Goals as goal

pub claim-requires-clause-idle : goal.claim-requires-clause-idle
claim-requires-clause-idle g c = subst (λ m. IsIdle m c.args.link.now.from) (sym c.loop-index.invariant.2) c.requires.idle

pub returns-then-claim-eq-EMPTY-clause-some : goal.returns-then-claim-eq-EMPTY-clause-some
returns-then-claim-eq-EMPTY-clause-some g c = (
  c.loop-index-test.true,
  subst (λ m. Claims (slot_in c.args.field.now.nodes c.args.link.now c.loop-index.index) m c.claim.new.seat.me) c.loop-index.invariant.2 (c.claim.ensures.claimed.0 c.if-claim-eq-EMPTY.true),
)

pub loop-index-preserved : goal.loop-index-preserved
loop-index-preserved g c =
    let i = c.loop-index.invariant in let n = c.claim.ensures in let miss = n.claimed.1 c.if-claim-eq-EMPTY.false in
    let at = slot_in c.args.field.now.nodes c.args.link.now in
    (n.same.0 ∙ i.0, n.same.1 ∙ i.1, miss.0 ∙ i.2, each_more (λ j. HasUsed (at j) c.args.seat.now.me) _ i.3 (subst (λ m. HasUsed (at c.loop-index.index) m) i.2 miss.1))

pub returns-clause-none : goal.returns-clause-none
returns-clause-none g c =
    let i = c.loop-index.invariant in let end = c.loop-index-test.false in
    (i.2, λ j low. i.3 j (omega arith))
