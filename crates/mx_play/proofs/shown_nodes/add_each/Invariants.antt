use Rattle.std.proofs.Common.{◌≡◌, ◌++◌, drop, string_bytes}
use Rattle.mx_play.specs.Views.{node_shown}
use Rattle.mx_format.specs.Lines.{texts_from}
use Rattle.mx_play.proofs.shown_nodes.add_each.Given as goal

abbrev pub invariant-loop-index : goal.invariant-loop-index
invariant-loop-index g l =
    let lines = node_shown g.C.Exclusion.core g.C.Knowledge.knows l.setting.plan.now in
    string_bytes l.initial.text ++ texts_from lines 0 l.member-items ≡ string_bytes l.text ++ texts_from lines l.index (drop l.index l.member-items)
