use Rattle.std.proofs.Common.{◌≡◌, ◌++◌, string_bytes}
use Rattle.mx_format.specs.Lines.{each_text}
use Rattle.mx_play.specs.Cuts.{cut_lines_of, cut_text}
use Rattle.mx_play.proofs.cuts.add_cuts_of.Given as goal

abbrev pub invariant-loop-other : goal.invariant-loop-other
invariant-loop-other l =
    string_bytes l.initial.text ++ cut_lines_of l.plan l.to l.in_flight.links l.one ≡ string_bytes l.text ++ each_text (cut_text l.plan l.to l.in_flight.links l.one) l.other-iterator
