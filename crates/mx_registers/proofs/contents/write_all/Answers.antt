use Rattle.std.proofs.Common.{◌∙◌, get_or, refl, sym, ap, arith}
use Rattle.std.proofs.lemmas.List.{drop_all}
use Rattle.mx_journal.specs.Written.{after_each}
use Rattle.mx_journal.proofs.Written.{after_each_last}
use Rattle.mx_registers.specs.Registers.{after_write, blank}
use Rattle.mx_registers.proofs.Writing.{write_twice}
use Rattle.mx_registers.proofs.contents.write_all.Goals as goal

pub returns : goal.returns
returns c = λ register l.
    let writes = c.args.writes.now in
    let after = after_write c.args.number in
    ap (λ ws. after_each after register ws (get_or c.loop-write.contents register blank)) (sym (drop_all c.loop-write.write-index writes (omega (arith, c.loop-write-test.false))))
    ∙ c.loop-write.invariant register (omega arith)
    ∙ after_each_last after (write_twice c.args.number) (λ _. refl) register writes (get_or c.args.contents.now register blank)
