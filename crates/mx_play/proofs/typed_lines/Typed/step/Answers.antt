use Rattle.mx_play.specs.TypedLines.{to_come}
use Rattle.mx_play.proofs.TypedLemmas.{bytes_on, end_as}
use Rattle.mx_play.proofs.typed_lines.Typed.step.Goals as goal

pub returns-in-Byte : goal.returns-in-Byte
returns-in-Byte g c =
    bytes_on c.add_byte.result (to_come g.R.Read.remaining c.args.self.now) (to_come g.R.Read.remaining c.byte.new.self) c.args.is_long.now c.add_byte.new.is_long c.in-Byte.byte
    c.args.line.now.items c.add_byte.new.line.items c.in-Byte.ensures c.add_byte.ensures

pub returns-in-End-2 : goal.returns-in-End-2
returns-in-End-2 g c =
    λ first x. end_as first (to_come g.R.Read.remaining c.args.self.now) (to_come g.R.Read.remaining c.byte.new.self) c.args.is_long.now c.is_empty.result _ c.args.line.now.items c.line_read.result
    x c.in-End-2.ensures c.args.line.now.ok.0 c.is_empty.ensures c.if-is_empty.false c.line_read.ensures
