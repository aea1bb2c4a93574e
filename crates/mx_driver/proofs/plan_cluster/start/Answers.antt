use Rattle.std.proofs.Common.{rules, arith, ◌≡◌, [], ℕ, IfOk, subst}
use Rattle.mx_stamps.specs.Lists.{each_below}
use Rattle.mx_member.specs.Steps.{start_of}
use Rattle.mx_driver.proofs.plan_cluster.start.Goals as goal

pub start-requires : goal.start-requires
start-requires g c = (search rules, (omega (arith, c.sections.ensures.low), (c.sections.ensures.high, (c.registers.ensures.low, c.registers.ensures.high))))

pub returns : goal.returns
returns g c =
    let core = g.C.Exclusion.core in
    let p = c.args.plan.now in
    let shape = c.args.shape.now in
    let Rests : ℕ → ℕ → ℕ → Type 0 = λ origin limit registers. IfOk c.start.result (λ cluster. cluster ≡ record {
      members = each_below (λ i. start_of core shape i origin limit registers) (core.count shape);
      sent = [];
      trace = [];
    }) in
    subst (λ registers. Rests p.origin p.sections registers) c.registers.ensures.value
    (subst (λ limit. Rests p.origin limit c.registers.result) c.sections.ensures.value
    (subst (λ origin. Rests origin c.sections.result c.registers.result) c.origin.ensures.value c.start.ensures))
