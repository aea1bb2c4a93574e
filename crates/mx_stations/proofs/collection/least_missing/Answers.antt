use Rattle.std.proofs.Common.{◌≡◌, ◌<◌, true, false, subst, arith}
use Rattle.mx_stations.specs.Gathered.{Has, nodes_in}
use Rattle.mx_stations.proofs.Gathers.{each_more}
use Rattle.mx_stations.proofs.collection.least_missing.Goals as goal

pub unreachable-requires : goal.unreachable-requires
unreachable-requires g c = let bad : false ≡ true = c.in_default.ensures.some.1 (let t = c.loop-index-test.true in let h = c.count_of-index-end.ensures.few in omega arith) in cc

pub returns-then-not-has-clause-some : goal.returns-then-not-has-clause-some
returns-then-not-has-clause-some g c =
    let is = c.in-Some.ensures.value in let t = c.loop-index-test.true in let count = c.count_of-index-end.ensures.value in
    let low : c.in-Some.node < nodes_in c.args.stations.now = omega arith in
    (low, c.if-not-has.ensures, (λ j less. c.loop-index.invariant j (omega arith)))

pub loop-index-preserved : goal.loop-index-preserved
loop-index-preserved g c =
    each_more (Has c.args.stations.now) _ c.loop-index.invariant (subst (Has c.args.stations.now) c.in-Some.ensures.value c.if-not-has.ensures)

pub returns-clause-none : goal.returns-clause-none
returns-clause-none g c =
    let t = c.loop-index-test.false in let count = c.count_of-index-end.ensures.value in
    (λ i low. c.loop-index.invariant i (omega arith))

pub loop-index-init : goal.loop-index-init
loop-index-init g c = λ j low. absurd (omega arith)
