use Rattle.std.proofs.Common.{ℕ, arith, ◌≡◌, ◌+◌, true, false, ap, ◌∙◌}
use Rattle.mx_stamps.specs.Lists.{each_below}
use Rattle.mx_member.specs.Steps.{start_of}
use Rattle.mx_network.proofs.Happening.{one_more}
use Rattle.mx_network.proofs.parts.start_members.Goals as goal
use Rattle.mx_network.proofs.parts.start_members.Goals.{in-Some+in_ok-push, in_default}

never : false ≡ true → ⊥
never e = cc

pub loop-i-preserved : goal.loop-i-preserved
loop-i-preserved g c = elim c.match-of.branch [
  | in-Some+in_ok-push w ↦ one_more _ _ _ c.loop-i.i (c.loop-i.i + 1) _ c.loop-i.invariant (ap (λ v. v.items) w.members-is ∙ w.in_ok-push.ensures.items)
      (w.start.ensures ∙ ap (λ (n : ℕ). start_of g.C.Exclusion.core c.args.shape.now n c.args.origin c.args.limit c.args.registers) w.in-Some.ensures.value) (omega arith)
  | in_default w ↦ absurd (never (w.in_default.ensures.some.1 (let t = c.loop-i-test.true in let h = c.nodes-i-end.ensures.high in omega arith)))
]

pub returns-clause-members : goal.returns-clause-members
returns-clause-members g c =
    let e : c.loop-i.i ≡ g.C.Exclusion.core.count c.args.shape.now =
    (let t = c.loop-i-test.false in let a = c.loop-i.auto.i-end in let e = c.nodes-i-end.ensures.value in omega arith) in
    c.loop-i.invariant
    ∙ ap (λ (n : ℕ). each_below (λ k. start_of g.C.Exclusion.core c.args.shape.now k c.args.origin c.args.limit c.args.registers) n) e
