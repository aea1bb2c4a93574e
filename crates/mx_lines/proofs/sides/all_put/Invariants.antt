use Rattle.std.proofs.Common.{◌≡◌, ◌+◌, drop}
use Rattle.mx_lines.specs.Names.{texts_of}
use Rattle.mx_lines.specs.Sides.{all_put}
use Rattle.mx_lines.proofs.sides.all_put.Given as goal

abbrev pub invariant-loop-index : goal.invariant-loop-index
invariant-loop-index g l =
    all_put (g.N.KnownNames.known l.names) l.side l.place (texts_of l.words) l.fn.sides
    ≡ all_put (g.N.KnownNames.known l.names) l.side (l.place + l.index) (texts_of (drop l.index l.words)) l.sides
