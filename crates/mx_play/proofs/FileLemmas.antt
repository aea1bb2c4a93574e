-- The files that were read, one after the other.
use Rattle.std.proofs.Common.{List, [], Option, Some, None, append-nil, sym}
use Rattle.mx_plan.specs.Text.{Text}
use Rattle.mx_io.specs.Told.{Asks}

pub none_asked : (old : Option (List Text)) → Asks old old []
none_asked None = tt
none_asked (Some old) = sym (append-nil old)
