use Rattle.std.proofs.Common.{append_assoc}
use Rattle.mx_picture.proofs.opening.FrameDisplay.fmt.Goals as goal

pub returns-clause-writes : goal.returns-clause-writes
returns-clause-writes g c plain ok = simp append_assoc (simp append_assoc at (c.write.ensures.writes plain ok))
