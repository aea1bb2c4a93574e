use Rattle.std.proofs.Common.{inl, inr, sym, subst, arith}
use Rattle.mx_stamps.proofs.Choices.{dec_le}
use Rattle.mx_journal.specs.declared.records.Record.{Record}
use Rattle.mx_journal.specs.Records.{above}
use Rattle.mx_journal.specs.Runs.{IsNextOfBoth, flatten}
use Rattle.mx_journal.proofs.Flat.{ascending_flat}
use Rattle.mx_journal.proofs.Joining.{least_behind, next_here, next_there, none_behind}
use Rattle.mx_journal.proofs.joins.next_of_both.Goals as goal

pub returns-in-Some-Some-clause-some : goal.returns-in-Some-Some-clause-some
returns-in-Some-Some-clause-some c =
    let xs = flatten c.args.runs.now in
    let ys = flatten c.args.other.now in
    let n = c.args.number in
    let here = c.in-Some-Some.here.now in
    let there = c.in-Some-Some.there.now in
    let a = ascending_flat 1 c.args.runs.now c.requires.runs in
    let b = ascending_flat 1 c.args.other.now c.requires.other in
    elim (dec_le here.number there.number) [
      | inl l ↦ subst (λ (r : Record). IsNextOfBoth n xs ys r) (sym (c.lower.ensures.here l))
          (next_here n 1 xs ys here (above here.number xs) a c.in-Some-Some.ensures (λ y h f. let q = least_behind n 1 ys there (above there.number ys) b c.in-Some-Some.ensures' y h f in omega arith))
      | inr l ↦ subst (λ (r : Record). IsNextOfBoth n xs ys r) (sym (c.lower.ensures.there l))
          (next_there n 1 xs ys there (above there.number ys) b c.in-Some-Some.ensures' (λ x h f. let q = least_behind n 1 xs here (above here.number xs) a c.in-Some-Some.ensures x h f in omega arith))
    ]

pub returns-in-Some-None-clause-some : goal.returns-in-Some-None-clause-some
returns-in-Some-None-clause-some c =
    let xs = flatten c.args.runs.now in
    let ys = flatten c.args.other.now in
    let here = c.in-Some-None.here.now in
    next_here c.args.number 1 xs ys here (above here.number xs) (ascending_flat 1 c.args.runs.now c.requires.runs) c.in-Some-None.ensures
    (λ y h f. absurd (none_behind c.args.number ys c.in-Some-None.ensures' y h f))

pub returns-in-None-Some-clause-some : goal.returns-in-None-Some-clause-some
returns-in-None-Some-clause-some c =
    let xs = flatten c.args.runs.now in
    let ys = flatten c.args.other.now in
    let there = c.in-None-Some.there.now in
    next_there c.args.number 1 xs ys there (above there.number ys) (ascending_flat 1 c.args.other.now c.requires.other) c.in-None-Some.ensures'
    (λ x h f. absurd (none_behind c.args.number xs c.in-None-Some.ensures x h f))
