use Rattle.std.proofs.Common.{string_bytes}
use Rattle.mx_driver.proofs.replays.unknown_line.Goals as goal

pub returns : goal.returns
returns c = (string_bytes c.in_ok-message.message, c.in_ok-message.ensures, c.in_ok-line.ensures.ok)
