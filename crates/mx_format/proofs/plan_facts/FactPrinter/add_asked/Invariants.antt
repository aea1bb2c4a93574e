use Rattle.std.proofs.Common.{◌≡◌, ◌++◌, string_bytes}
use Rattle.mx_format.specs.AskTexts.{asked_names, asked_text}
use Rattle.mx_format.specs.Lines.{each_text}
use Rattle.mx_format.proofs.plan_facts.FactPrinter.add_asked.Given as goal

abbrev pub invariant-loop-other : goal.invariant-loop-other
invariant-loop-other l =
    let p = l.self.plan.now in
    string_bytes l.initial.text ++ asked_names l.self.is_json p l.node ≡ string_bytes l.text ++ each_text (asked_text l.self.is_json p l.node) l.other-iterator
