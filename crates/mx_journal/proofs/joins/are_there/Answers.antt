use Rattle.std.proofs.Common.{inl, refl, sym, ◌∙◌, ap, subst, arith}
use Rattle.mx_stamps.specs.Lists.{IsIn}
use Rattle.mx_journal.specs.Records.{above, with_records}
use Rattle.mx_journal.specs.Runs.{flatten}
use Rattle.mx_journal.proofs.Maps.{with_record_there}
use Rattle.mx_journal.proofs.Flat.{ascending_flat}
use Rattle.mx_journal.proofs.Going.{above_more}
use Rattle.mx_journal.proofs.Found.{above_has, in_above}
use Rattle.mx_journal.proofs.joins.are_there.Goals as goal

pub returns-then-not-is_there-clause-missing : goal.returns-then-not-is_there-clause-missing
returns-then-not-is_there-clause-missing c = λ _.
    let there = flatten c.args.other.now in
    let entry = c.in-Some.entry.now in
    let low = c.loop-entry.invariant.low in
    let high = above_more c.loop-entry.last there entry (above entry.number there) c.in-Some.ensures in
    (entry, above_has c.args.from there entry (in_above c.loop-entry.last there entry (subst (λ l. IsIn entry l) (sym c.in-Some.ensures) (inl refl))) (omega arith), c.is_there.ensures.missing c.if-not-is_there.true)

pub loop-entry-preserved : goal.loop-entry-preserved
loop-entry-preserved c =
    let here = flatten c.args.runs.now in
    let there = flatten c.args.other.now in
    let entry = c.in-Some.entry.now in
    let rest = above entry.number there in
    let t = c.is_there.ensures.there c.if-not-is_there.false in
    let low = c.loop-entry.invariant.low in
    let high = above_more c.loop-entry.last there entry rest c.in-Some.ensures in
    record {
      same = sym (ap (λ l. with_records rest l) (with_record_there 1 entry here (ascending_flat 1 c.args.runs.now c.requires.runs) t.0 t.1 t.2))
          ∙ sym (ap (λ l. with_records l here) c.in-Some.ensures) ∙ c.loop-entry.invariant.same;
      low = omega arith;
    }

pub returns-clause-there : goal.returns-clause-there
returns-clause-there c = λ _. sym c.loop-entry.invariant.same ∙ ap (λ l. with_records l (flatten c.args.runs.now)) c.in_default.ensures
