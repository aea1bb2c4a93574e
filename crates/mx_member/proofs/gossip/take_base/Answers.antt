use Rattle.std.proofs.Common.{ℕ, ◌≡◌, ◌↔◌, Err, sym, subst}
use Rattle.mx_journal.specs.declared.settlement.BaseFault.TheVariants.{Conflict}
use Rattle.mx_journal.specs.Bases.{AreOpposed}
use Rattle.mx_member.specs.Member.{IsViewOf}
use Rattle.mx_member.proofs.Delivering.{same_refusal}
use Rattle.mx_member.proofs.Refusing.{is_err}
use Rattle.mx_member.proofs.gossip.take_base.Goals as goal

pub returns-in_err-take_base-clause-conflict : goal.returns-in_err-take_base-clause-conflict
returns-in_err-take_base-clause-conflict c = λ n.
    subst (λ r. (r ≡ Err (Conflict n)) ↔ ((n ≡ c.args.base.now.upto) × AreOpposed c.args.journal.now.base c.args.base.now))
    (sym (is_err c.from_residual.result c.in_err-take_base.field-0.0 c.from_residual.ensures.1))
    (same_refusal ℕ _ ((n ≡ c.args.base.now.upto) × AreOpposed c.args.journal.now.base c.args.base.now) c.in_err-take_base.field-0.0 (Conflict n) (c.in_err-take_base.ensures.conflict n))

pub returns-clause-shown : goal.returns-clause-shown
unfolding IsViewOf
returns-clause-shown c = λ was. c.view.ensures.value
