use Rattle.std.proofs.Common.{append_assoc}
use Rattle.mx_explorer.proofs.verdict_lines.add_broken_json.Goals as goal

pub returns : goal.returns
returns c = simp append_assoc c.write.ensures.bytes
