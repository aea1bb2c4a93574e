use Rattle.std.proofs.Common.{arith}
use Rattle.std.proofs.lemmas.Grind.{common_steps}
use Rattle.mx_picture.proofs.losses.LossesRecorderState.event.Goals as goal

pub cluster-requires : goal.cluster-requires
cluster-requires g c = (search c.requires-raw, grind (arith, common_steps))
