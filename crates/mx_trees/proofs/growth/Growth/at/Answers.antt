use Rattle.mx_trees.proofs.Grown.{grown_at}
use Rattle.mx_trees.proofs.growth.Growth.at.Goals as goal

pub returns : goal.returns
returns c = λ edges. grown_at edges c.args.root c.requires
