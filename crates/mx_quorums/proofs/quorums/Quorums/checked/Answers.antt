use Rattle.std.proofs.Common.{refl}
use Rattle.mx_quorums.proofs.RowLemmas.{rows_meet}
use Rattle.mx_quorums.proofs.quorums.Quorums.checked.Goals as goal

pub invariant_of-result : goal.invariant_of-result
invariant_of-result c =
    (rows_meet c.args.nodes c.args.rows c.requires.some c.requires.few c.requires.marks c.in_ok-check.ensures.0 c.in_ok-check.ensures.1, record { owners = λ i j h. (c.requires.marks i j h).0; members = λ i j h. (c.requires.marks i j h).1 })

pub returns : goal.returns
returns c =
    (refl, rows_meet c.args.nodes c.args.rows c.requires.some c.requires.few c.requires.marks c.in_ok-check.ensures.0 c.in_ok-check.ensures.1)
