use Rattle.std.proofs.Common.{◌∙◌, sym, subst, arith}
use Rattle.mx_stations.specs.Links.{slot_in}
use Rattle.mx_stations.specs.Running.{IsIdle}
use Rattle.mx_stations.specs.Slides.{HasEmptied, Takes}
use Rattle.mx_stations.proofs.Gathers.{each_more}
use Rattle.mx_stations.proofs.slots.grab_filled.Goals as goal

pub grab-requires-clause-idle : goal.grab-requires-clause-idle
grab-requires-clause-idle g c = subst (λ m. IsIdle m c.args.link.now.to) (sym c.loop-index.invariant.2) c.requires.idle

pub returns-then-grab-eq-FILLED-clause-some : goal.returns-then-grab-eq-FILLED-clause-some
returns-then-grab-eq-FILLED-clause-some g c = (
  c.loop-index-test.true,
  subst (λ m. Takes (slot_in c.args.field.now.nodes c.args.link.now c.loop-index.index) c.args.link.now.from m c.grab.new.seat.me) c.loop-index.invariant.2 (c.grab.ensures.taken.0 c.if-grab-eq-FILLED.true),
)

pub loop-index-preserved : goal.loop-index-preserved
loop-index-preserved g c =
    let i = c.loop-index.invariant in let n = c.grab.ensures in let miss = n.taken.1 c.if-grab-eq-FILLED.false in
    let at = slot_in c.args.field.now.nodes c.args.link.now in
    (n.same.0 ∙ i.0, n.same.1 ∙ i.1, miss.0 ∙ i.2, each_more (λ j. HasEmptied (at j) c.args.link.now.from c.args.seat.now.me) _ i.3 (subst (λ m. HasEmptied (at c.loop-index.index) c.args.link.now.from m) i.2 miss.1))

pub returns-clause-none : goal.returns-clause-none
returns-clause-none g c =
    let i = c.loop-index.invariant in let end = c.loop-index-test.false in
    (i.2, λ j low. i.3 j (omega arith))
