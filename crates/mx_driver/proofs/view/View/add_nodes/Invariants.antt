use Rattle.std.proofs.Common.{◌≡◌, ◌++◌, drop, string_bytes}
use Rattle.mx_format.specs.Lines.{texts_from}
use Rattle.mx_driver.specs.Shown.{shown_member}
use Rattle.mx_driver.proofs.view.View.add_nodes.Given as goal

abbrev pub invariant-loop-index : goal.invariant-loop-index
invariant-loop-index g l =
    let lines = shown_member l.plan l.self g.C.Exclusion.core g.C.Knowledge.knows in
    string_bytes l.initial.text ++ texts_from lines 0 l.member-items ≡ string_bytes l.text ++ texts_from lines l.index (drop l.index l.member-items)
