use Rattle.std.proofs.Common.{◌≡◌, ◌++◌, string_bytes}
use Rattle.mx_format.specs.AskTexts.{asks_line}
use Rattle.mx_format.specs.Lines.{each_node, each_text}
use Rattle.mx_format.proofs.peers.add_asks.Given as goal

abbrev pub invariant-loop-node : goal.invariant-loop-node
invariant-loop-node l =
    string_bytes l.initial.text ++ each_node (asks_line l.is_json l.plan) l.plan ≡ string_bytes l.text ++ each_text (asks_line l.is_json l.plan) l.node-iterator
