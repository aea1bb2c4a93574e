use Rattle.std.proofs.Common.{ℕ, ◌∙◌, ◌+◌, ◌-◌, ◌∷◌, ap, arith, length, sym}
use Rattle.std.specs.List.{range_with_len}
use Rattle.mx_stamps.proofs.Nodes.{first_left}
use Rattle.mx_stamps.proofs.node_ids.NodeIdsIterator.next.Goals as goal

pub returns-clause-steps : goal.returns-clause-steps
returns-clause-steps c =
    let s = c.self.inside in
    sym c.self.view_is ∙ first_left s.next s.end c.if-self.false ∙ ap (λ (n : ℕ). n ∷ range_with_len (s.next + 1) (s.end - (s.next + 1))) (sym c.in_ok-node.ensures.value)

pub returns-clause-goes : goal.returns-clause-goes
returns-clause-goes c =
    let s = c.self.inside in
    let one_less = ap length (sym c.self.view_is ∙ first_left s.next s.end c.if-self.false) in
    record { on = λ finite. (tt, tt, omega (arith, one_less)); keeps = tt; rests = λ _. tt }
