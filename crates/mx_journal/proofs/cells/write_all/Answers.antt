use Rattle.std.proofs.Common.{ℕ, ◌∙◌, Some, None, get_or, refl, sym, ap, arith}
use Rattle.std.proofs.lemmas.List.{drop_all}
use Rattle.mx_journal.specs.Bases.{after_section, unwritten}
use Rattle.mx_journal.specs.Written.{after_each}
use Rattle.mx_journal.proofs.Written.{SecondCounts, after_each_last}
use Rattle.mx_journal.proofs.cells.write_all.Goals as goal

second : (n : ℕ) → SecondCounts (after_section n)
second n v None cell = refl
second n v (Some u) cell = refl

pub returns : goal.returns
returns c = λ register l.
    let writes = c.args.writes.now in
    let after = after_section c.args.number in
    ap (λ ws. after_each after register ws (get_or c.loop-write.cells register unwritten)) (sym (drop_all c.loop-write.write-index writes (omega (arith, c.loop-write-test.false))))
    ∙ c.loop-write.invariant register l
    ∙ after_each_last after (second c.args.number) (λ _. refl) register writes (get_or c.args.cells.now register unwritten)
