use Rattle.std.proofs.Common.{ℕ, ◌*◌, ◌≤◌, ◌∙◌, arith, subst}
use Rattle.std.proofs.lemmas.Result.{err_from_is_err_and}
use Rattle.mx_live.proofs.ProgressLemmas.{tells_none}
use Rattle.mx_live.proofs.ErrorLemmas.{none_ends, shown_ends}
use Rattle.mx_live.proofs.live_command.live_plan.Goals as goal

pub returns-in_err-gathered-clause-ends : goal.returns-in_err-gathered-clause-ends
returns-in_err-gathered-clause-ends g c = λ told read.
    let p = c.args.plan.now in
    let fits : c.from.result * c.args.options.now.sections ≤ p.sections =
    omega (arith, c.saturating_mul.ensures, c.if-saturating_mul-sections.false, c.sections.ensures.value, c.sections.ensures.high) in
    let e = err_from_is_err_and c.from_residual.result c.from_residual.ensures.1 in
    none_ends (g.O.Output.takes_all c.args.out.now) told c.args.options.now
    p c.from_residual.result e.0 c.in_err-gathered.field-0.0 (g.O.Output.written c.args.out.now) (g.O.Output.keeps_back c.args.out.now) e.1 e.2
    read (subst (λ (n : ℕ). n * c.args.options.now.sections ≤ p.sections) (c.from.ensures ∙ c.nodes.ensures.value) fits) c.in_err-gathered.ensures.err

pub returns : goal.returns
returns g c = record {
  ends = λ told read.
      let all = c.in_ok-gathered in
      let p = c.args.plan.now in
      let fits : c.from.result * c.args.options.now.sections ≤ p.sections =
      omega (arith, c.saturating_mul.ensures, c.if-saturating_mul-sections.false, c.sections.ensures.value, c.sections.ensures.high) in
      shown_ends (g.O.Output.takes_all c.args.out.now) told c.args.options.now
      p all.gathered.receipts.items all.gathered.journal c.show.result (g.O.Output.written c.args.out.now) (g.O.Output.written c.show.new.out) (g.O.Output.keeps_back c.show.new.out)
      read (subst (λ (n : ℕ). n * c.args.options.now.sections ≤ p.sections) (c.from.ensures ∙ c.nodes.ensures.value) fits) all.ensures.come all.ensures.serial all.ensures.sections c.show.ensures.ok c.show.ensures.passed c.show.ensures.err c.show.ensures.whole;
  progress = c.in_ok-gathered.ensures.progress;
  stays = c.in_ok-gathered.ensures.stays;
}

pub returns-then-saturating_mul-sections-clause-progress : goal.returns-then-saturating_mul-sections-clause-progress
returns-then-saturating_mul-sections-clause-progress g c = tells_none c.args.options.now.progress (g.E.Output.written c.args.err.now)
