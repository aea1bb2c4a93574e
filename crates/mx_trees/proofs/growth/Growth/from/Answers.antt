use Rattle.std.proofs.Common.{sym, subst}
use Rattle.mx_trees.specs.declared.growth.Growth.{Growth}
use Rattle.mx_trees.specs.Growth.{IsGrown}
use Rattle.mx_trees.proofs.Grown.{grown_with}
use Rattle.mx_trees.proofs.growth.Growth.from.Goals as goal

pub loop-near-init : goal.loop-near-init
loop-near-init c = c.at-growth.ensures c.args.edges.now

pub loop-near-preserved : goal.loop-near-preserved
loop-near-preserved c =
    let P : Growth → Type 0 = λ g. IsGrown c.args.edges.now c.args.root g in
    subst P (sym c.add.ensures) (grown_with c.args.edges.now c.args.root c.loop-near.growth c.in-Some.near c.in-Some.far c.loop-near.invariant c.in-Some.ensures.some)
