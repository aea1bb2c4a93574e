use Rattle.std.proofs.Common.{◌+◌, ◌≤◌, ◌≡◌, ◌∙◌, ap, length, subst, sym, refl, unwrap_or, arith}
use Rattle.std.proofs.lemmas.Grind.{common_steps}
use Rattle.mx_journal.specs.Bases.{BaseState}
use Rattle.mx_journal.specs.Drafted.{Drafted, last_value}
use Rattle.mx_member.specs.declared.faults.ReadFault.TheVariants as read
use Rattle.mx_member.specs.Steps.{register_below}
use Rattle.mx_member.proofs.Refusing.{is_err}
use Rattle.mx_member.proofs.Choosing.{full_answer, full_state, gap_before, no_register, not_full, ok_answer, ok_state, read_noted, settled_answer, settled_state}
use Rattle.mx_member.proofs.member.Member.read.Given.{Over}
use Rattle.mx_member.proofs.member.Member.read.Goals as goal

pub returns-in_default : goal.returns-in_default
returns-in_default g c = grind (arith, common_steps)

pub returns-then-register-self : goal.returns-then-register-self
returns-then-register-self g c =
    let w = no_register g.C.Exclusion.core c.args.register c.in-Inside.number c.args.self.now _ c.self.view_is (sym c.phase.ensures.value ∙ c.in-Inside.is) (omega arith) in
    record { state = w.0; answer = w.1 }

pub returns-then-known-number : goal.returns-then-known-number
returns-then-known-number g c =
    let value = c.gapless_to-known.ensures.value in
    let w = gap_before g.C.Exclusion.core c.args.register c.in-Inside.number c.args.self.now _ c.self.view_is (sym c.phase.ensures.value ∙ c.in-Inside.is) (c.gapless_to-known.result + 1) (omega arith) (omega arith) value in
    record { state = w.0; answer = w.1 }

pub returns-then-number-upto-clause-state : goal.returns-then-number-upto-clause-state
returns-then-number-upto-clause-state g c =
    settled_state g.C.Exclusion.core c.args.register c.in-Inside.number c.args.self.now _ c.self.view_is (sym c.phase.ensures.value ∙ c.in-Inside.is) (omega arith)
    (let l = c.in-Inside.ensures.numbered in omega arith) (let u = c.upto.ensures.value in let b = ap (λ (b : BaseState). b.upto) c.base.ensures in omega arith)

pub returns-then-number-upto-clause-answer : goal.returns-then-number-upto-clause-answer
returns-then-number-upto-clause-answer g c =
    settled_answer g.C.Exclusion.core c.args.register c.in-Inside.number c.args.self.now _ c.self.view_is (sym c.phase.ensures.value ∙ c.in-Inside.is) (omega arith)
    (let l = c.in-Inside.ensures.numbered in omega arith) c.settled_or_full.result (let u = c.upto.ensures.value in let b = ap (λ (b : BaseState). b.upto) c.base.ensures in omega arith) c.settled_or_full.ensures

pub invariant_of-self-2 : goal.invariant_of-self-2
invariant_of-self-2 g c =
    let was = c.self.invariant in
    let made = c.in_ok-read.ensures.ok in (
      was.0,
      was.1,
      was.2,
      read_noted c.args.register c.unwrap_or-value.result c.self.inside.draft c.read.new.self made (not_full _ was.3 c.in_ok-read.ensures.full.1),
      subst (λ (d : Drafted). length d.writes ≤ 8) (sym made) was.4,
      was.5,
    )

pub invariant_of-self : goal.invariant_of-self
invariant_of-self g c =
    let was = c.self.invariant in
    let same = sym c.in_err-read.ensures.err in
    (was.0, was.1, was.2, subst (λ (d : Drafted). length d.reads ≤ 8) same was.3, subst (λ (d : Drafted). length d.writes ≤ 8) same was.4, was.5)

pub returns-in_err-read-clause-state : goal.returns-in_err-read-clause-state
returns-in_err-read-clause-state g c =
    full_state g.C.Exclusion.core c.args.register c.in-Inside.number c.args.self.now _ c.self.view_is (sym c.phase.ensures.value ∙ c.in-Inside.is) (omega arith)
    (let l = c.in-Inside.ensures.numbered in omega arith)
    c.read.new.self (let e = c.in_err-read.ensures.full.0 refl in omega arith) c.in_err-read.ensures.err

pub returns-in_err-read-clause-answer : goal.returns-in_err-read-clause-answer
returns-in_err-read-clause-answer g c =
    is_err c.from_residual.result read.Full c.from_residual.ensures.1
    ∙ full_answer g.C.Exclusion.core c.args.register c.in-Inside.number c.args.self.now _ c.self.view_is (sym c.phase.ensures.value ∙ c.in-Inside.is) (omega arith)
    (let l = c.in-Inside.ensures.numbered in omega arith)
    (let e = c.in_err-read.ensures.full.0 refl in omega arith)

-- the value is the draft's last write, or else what the sections below left
shown : (g : Over) (c : goal.In_ok-read g) → c.unwrap_or-value.result ≡ unwrap_or (last_value c.args.register c.self.inside.draft.writes) (register_below c.args.register c.in-Inside.number c.self.inside.journal).value
shown g c =
    let before = c.value_below-before.ensures ∙ ap (λ m. (register_below c.args.register c.in-Inside.number m.journal).value) (sym c.self.view_is) in
    c.unwrap_or-value.ensures
    ∙ ap (λ o. unwrap_or o c.value_below-before.result) c.last.ensures
    ∙ ap (λ k. unwrap_or (last_value c.args.register c.self.inside.draft.writes) k) before

pub returns-clause-state : goal.returns-clause-state
returns-clause-state g c =
    ok_state g.C.Exclusion.core c.args.register c.in-Inside.number c.args.self.now _ c.self.view_is (sym c.phase.ensures.value ∙ c.in-Inside.is) (omega arith)
    (let l = c.in-Inside.ensures.numbered in omega arith)
    c.unwrap_or-value.result c.read.new.self (not_full _ c.self.invariant.3 c.in_ok-read.ensures.full.1) (let u = c.upto.ensures.value in let b = ap (λ (b : BaseState). b.upto) c.base.ensures in omega arith)
    (shown g c)
    c.in_ok-read.ensures.ok

pub returns-clause-answer : goal.returns-clause-answer
returns-clause-answer g c =
    ok_answer g.C.Exclusion.core c.args.register c.in-Inside.number c.args.self.now _ c.self.view_is (sym c.phase.ensures.value ∙ c.in-Inside.is) (omega arith)
    (let l = c.in-Inside.ensures.numbered in omega arith)
    c.unwrap_or-value.result (not_full _ c.self.invariant.3 c.in_ok-read.ensures.full.1) (let u = c.upto.ensures.value in let b = ap (λ (b : BaseState). b.upto) c.base.ensures in omega arith)
    (shown g c)
