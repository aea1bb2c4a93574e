use Rattle.std.proofs.Common.{◌≡◌, ◌++◌, string_bytes}
use Rattle.mx_format.specs.PlanTexts.{meeting_text, meetings_text}
use Rattle.mx_format.specs.Lines.{each_text}
use Rattle.mx_format.proofs.plan_facts.FactPrinter.add_meetings.Given as goal

abbrev pub invariant-loop-second : goal.invariant-loop-second
invariant-loop-second l =
    let p = l.self.plan.now in
    string_bytes l.initial.text ++ meetings_text l.self.is_json p l.sets l.first ≡ string_bytes l.text ++ each_text (meeting_text l.self.is_json p l.sets l.first) l.second-iterator
