use Rattle.std.proofs.Common.{◌++◌, append_assoc, sym, ◌∙◌, ap, arith}
use Rattle.mx_journal.proofs.runs.move_behind.Goals as goal

pub loop-other-preserved : goal.loop-other-preserved
loop-other-preserved c = record {
  moved = rw (c.push_back_reserved.ensures.items, append_assoc) (ap (λ l. c.loop-other.records.items ++ l) (sym c.in-Some.ensures.items) ∙ c.loop-other.invariant.moved);
  room = omega (arith, c.in-Some.ensures.cases);
}
