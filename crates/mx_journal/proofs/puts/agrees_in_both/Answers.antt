use Rattle.std.proofs.Common.{inl, inr}
use Rattle.mx_stamps.proofs.Lists.{in_append, in_left, in_right}
use Rattle.mx_journal.proofs.Maps.{ascending_same}
use Rattle.mx_journal.specs.Runs.{flatten}
use Rattle.mx_journal.proofs.puts.agrees_in_both.Goals as goal

pub returns-then-in_order-clause-agrees : goal.returns-then-in_order-clause-agrees
returns-then-in_order-clause-agrees c = λ t x m e. elim (in_append x (flatten c.args.runs.now) c.args.list.now m) [
  | inl h ↦ c.agrees_at_place.ensures.agrees c.if-agrees_at_place.true x h e
  | inr h ↦ ascending_same 1 c.args.list.now (c.requires.ordered t) x c.args.entry.now h c.requires.member e
]

pub returns-else-in_order-clause-agrees : goal.returns-else-in_order-clause-agrees
returns-else-in_order-clause-agrees c = λ t x m e. elim (in_append x (flatten c.args.runs.now) c.args.list.now m) [
  | inl h ↦ c.agrees_at_place.ensures.agrees c.if-agrees_at_place.true x h e
  | inr h ↦ c.agrees_in.ensures.agrees t x h e
]

pub returns-else-in_order-clause-opposed : goal.returns-else-in_order-clause-opposed
returns-else-in_order-clause-opposed c = λ t.
    let w = c.agrees_in.ensures.opposed t in
    (w.0, in_right w.0 (flatten c.args.runs.now) c.args.list.now w.1, w.2, w.3)

pub returns-else-agrees_at_place-clause-opposed : goal.returns-else-agrees_at_place-clause-opposed
returns-else-agrees_at_place-clause-opposed c = λ t.
    let w = c.agrees_at_place.ensures.opposed t in
    (w.0, in_left w.0 (flatten c.args.runs.now) c.args.list.now w.1, w.2, w.3)
