use Rattle.std.proofs.Common.{◌≡◌, ◌++◌, drop, string_bytes}
use Rattle.mx_format.specs.Lines.{texts_from}
use Rattle.mx_judge.specs.EntryJson.{sending_json}
use Rattle.mx_judge.specs.Listed.{listed}
use Rattle.mx_judge.proofs.entry_json.add_entries.Given as goal

abbrev pub invariant-loop-index : goal.invariant-loop-index
invariant-loop-index l =
    string_bytes l.initial.text ++ texts_from (sending_json l.plan (listed l.trace)) 0 l.entries ≡ string_bytes l.text ++ texts_from (sending_json l.plan (listed l.trace)) l.index (drop l.index l.entries)
