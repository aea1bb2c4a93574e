use Rattle.std.proofs.Common.{◌++◌, ap, sym, ◌∙◌, arith}
use Rattle.std.proofs.lemmas.Bool.Decides.{nat_tests}
use Rattle.mx_member.proofs.Sending.{sends_records}
use Rattle.mx_member.proofs.gossip.send_records.Goals as goal

pub returns-then-not-is_empty : goal.returns-then-not-is_empty
returns-then-not-is_empty g c =
    c.add.ensures ∙ ap (λ l. c.args.out.now ++ l) (sym (sends_records c.args.to c.args.records.items (let n = c.if-not-is_empty.ensures in grind (arith, nat_tests))))
