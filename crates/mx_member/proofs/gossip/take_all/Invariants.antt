use Rattle.std.proofs.Common.{ℕ, ◌≡◌, ◌++◌, List, take}
use Rattle.mx_journal.specs.declared.records.Record.{Record}
use Rattle.mx_journal.specs.Bases.{BaseState}
use Rattle.mx_journal.specs.Settled.{beyond}
use Rattle.mx_registers.specs.Based.{registers_from}
use Rattle.mx_member.proofs.gossip.take_all.Given as goal

abbrev pub invariant-loop-entry : goal.invariant-loop-entry
invariant-loop-entry l = (base : BaseState) (count : ℕ) (before : List Record) → l.initial.shown ≡ registers_from base count before → l.shown ≡ registers_from base count (before ++ beyond l.upto (take l.entry-index l.records))
