use Rattle.std.proofs.Common.{◌≡◌, ◌++◌, string_bytes}
use Rattle.mx_format.specs.Lines.{each_text}
use Rattle.mx_picture.specs.Drawn.{name_text, names_text}
use Rattle.mx_picture.proofs.opening.add_names.Given as goal

abbrev pub invariant-loop-node : goal.invariant-loop-node
invariant-loop-node l = string_bytes l.initial.text ++ names_text l.plan ≡ string_bytes l.text ++ each_text (name_text l.plan) l.node-iterator
