use Rattle.std.proofs.Common.{◌≡◌, ◌++◌, string_bytes}
use Rattle.mx_format.specs.Lines.{each_text}
use Rattle.mx_play.specs.Cuts.{cut_lines, cut_lines_of}
use Rattle.mx_play.proofs.cuts.add_cuts.Given as goal

abbrev pub invariant-loop-node : goal.invariant-loop-node
invariant-loop-node l =
    string_bytes l.initial.text ++ cut_lines l.plan l.to l.in_flight.links ≡ string_bytes l.text ++ each_text (cut_lines_of l.plan l.to l.in_flight.links) l.node-iterator
