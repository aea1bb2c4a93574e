use Rattle.std.proofs.Common.{◌≤◌, ◌∙◌, length, subst, ap, refl, sym, arith}
use Rattle.mx_journal.specs.Drafted.{Drafted}
use Rattle.mx_member.specs.declared.faults.WriteFault.TheVariants as write
use Rattle.mx_member.proofs.Choosing.{not_full}
use Rattle.mx_member.proofs.Refusing.{is_err}
use Rattle.mx_member.proofs.Writing.{full_answer, full_state, no_register, ok_answer, ok_state, outside, write_noted}
use Rattle.mx_member.proofs.member.Member.write.Goals as goal

pub returns-in_default : goal.returns-in_default
returns-in_default g c =
    let w = outside g.C.Exclusion.core c.args.register c.args.value c.args.self.now _ c.self.view_is (λ n e. c.in_default.not-Inside n (c.phase.ensures.value ∙ e)) in
    record { state = sym (ap (λ d. d.state) w); answer = sym (ap (λ d. d.answer) w) }

pub returns-then-register-self : goal.returns-then-register-self
returns-then-register-self g c =
    let w = no_register g.C.Exclusion.core c.args.register c.args.value c.args.self.now _ c.self.view_is _ (sym c.phase.ensures.value ∙ c.in-Inside.is) (omega arith) in
    record { state = sym (ap (λ d. d.state) w); answer = sym (ap (λ d. d.answer) w) }

pub invariant_of-self : goal.invariant_of-self
invariant_of-self g c =
    let was = c.self.invariant in
    let same = sym c.in_err-write.ensures.err in
    (was.0, was.1, was.2, subst (λ (d : Drafted). length d.reads ≤ 8) same was.3, subst (λ (d : Drafted). length d.writes ≤ 8) same was.4, was.5)

pub invariant_of-self-2 : goal.invariant_of-self-2
invariant_of-self-2 g c =
    let was = c.self.invariant in
    let made = c.in_ok-write.ensures.ok in (
      was.0,
      was.1,
      was.2,
      subst (λ (d : Drafted). length d.reads ≤ 8) (sym made) was.3,
      write_noted c.args.register c.args.value c.self.inside.draft c.write.new.self made (not_full _ was.4 c.in_ok-write.ensures.full.1),
      was.5,
    )

pub returns-in_err-write-clause-state : goal.returns-in_err-write-clause-state
returns-in_err-write-clause-state g c =
    full_state g.C.Exclusion.core c.args.register c.args.value c.args.self.now _ c.self.view_is _ (sym c.phase.ensures.value ∙ c.in-Inside.is)
    c.write.new.self (omega arith) (let e = c.in_err-write.ensures.full.0 refl in omega arith) c.in_err-write.ensures.err

pub returns-in_err-write-clause-answer : goal.returns-in_err-write-clause-answer
returns-in_err-write-clause-answer g c =
    is_err c.from_residual.result write.Full c.from_residual.ensures.1
    ∙ full_answer g.C.Exclusion.core c.args.register c.args.value c.args.self.now _ c.self.view_is _ (sym c.phase.ensures.value ∙ c.in-Inside.is)
    (omega arith) (let e = c.in_err-write.ensures.full.0 refl in omega arith)

pub returns-clause-state : goal.returns-clause-state
returns-clause-state g c =
    ok_state g.C.Exclusion.core c.args.register c.args.value c.args.self.now _ c.self.view_is _ (sym c.phase.ensures.value ∙ c.in-Inside.is)
    c.write.new.self (omega arith) (not_full _ c.self.invariant.4 c.in_ok-write.ensures.full.1) c.in_ok-write.ensures.ok

pub returns-clause-answer : goal.returns-clause-answer
returns-clause-answer g c =
    ok_answer g.C.Exclusion.core c.args.register c.args.value c.args.self.now _ c.self.view_is _ (sym c.phase.ensures.value ∙ c.in-Inside.is)
    (omega arith) (not_full _ c.self.invariant.4 c.in_ok-write.ensures.full.1)
