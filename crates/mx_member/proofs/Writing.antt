-- What a member's writes are, case by case.
use Rattle.std.proofs.Common.{ℕ, ◌<◌, ◌≤◌, ◌≡◌, ◌+◌, Ok, Err, length, nat_le, refl, sym, ◌∙◌, ap, subst, arith}
use Rattle.std.proofs.lemmas.List.{length-append}
use Rattle.std.proofs.lemmas.Bool.Decides.{nat_tests}
use Rattle.mx_stamps.proofs.Choices.{cond_false, cond_true}
use Rattle.mx_nodelaws.specs.Core.{Core}
use Rattle.mx_nodelaws.specs.declared.phase.Phase.{Phase}
use Rattle.mx_nodelaws.specs.declared.phase.Phase.TheVariants.{Idle, Waiting, Inside}
use Rattle.mx_journal.specs.Drafted.{Drafted, with_write}
use Rattle.mx_member.specs.declared.faults.WriteFault.{WriteFault}
use Rattle.mx_member.specs.declared.faults.WriteFault.TheVariants as write
use Rattle.mx_member.specs.Member.{MemberState, with_draft}
use Rattle.mx_member.specs.Steps.{refusing, write_at, write_inside, write_of}

inside_none : {S : Type 0} (register value : ℕ) (m : MemberState S) → m.setting.registers ≤ register → write_inside register value m ≡ refusing m write.NoRegister
inside_none register value m r = cond_true (nat_le m.setting.registers register) (refusing m write.NoRegister) _ (grind (arith, nat_tests))

inside_full : {S : Type 0} (register value : ℕ) (m : MemberState S) → register < m.setting.registers → 8 ≤ length m.draft.writes → write_inside register value m ≡ refusing m write.Full
inside_full register value m r f =
    cond_false (nat_le m.setting.registers register) (refusing m write.NoRegister) _ (grind (arith, nat_tests))
    ∙ cond_true (nat_le 8 (length m.draft.writes)) (refusing m write.Full) _ (grind (arith, nat_tests))

inside_ok : {S : Type 0} (register value : ℕ) (m : MemberState S) → register < m.setting.registers → length m.draft.writes < 8 → write_inside register value m ≡ record { state = with_draft (with_write register value m.draft) m; answer = Ok tt }
inside_ok register value m r room =
    cond_false (nat_le m.setting.registers register) (refusing m write.NoRegister) _ (grind (arith, nat_tests))
    ∙ cond_false (nat_le 8 (length m.draft.writes)) (refusing m write.Full) _ (grind (arith, nat_tests))

-- one write more, where there is room
pub write_noted : (register value : ℕ) (old new : Drafted) → new ≡ with_write register value old → length old.writes < 8 → length new.writes ≤ 8
write_noted register value old new made room =
    let size : length new.writes ≡ length old.writes + 1 = ap (λ (d : Drafted). length d.writes) made ∙ length-append old.writes _ in omega arith

module _ {H S M : Type 0} (core : Core H S M) (register value : ℕ) (m fields : MemberState S) (same : fields ≡ m) where
  at_outside : (p : Phase) → ((n : ℕ) → p ≡ Inside n → ⊥) → write_at core register value fields p ≡ refusing fields write.NotInside
  at_outside Idle out = refl
  at_outside Waiting out = refl
  at_outside (Inside n) out = absurd (out n refl)

  -- the write of a node that is not inside
  pub outside : ((n : ℕ) → core.phase fields.core ≡ Inside n → ⊥) → write_of core register value m ≡ refusing m write.NotInside
  outside out = subst (λ x. write_of core register value x ≡ refusing x write.NotInside) same (at_outside (core.phase fields.core) out)

  module _ (n : ℕ) (is : core.phase fields.core ≡ Inside n) where
    refused : (fault : WriteFault) → write_inside register value fields ≡ refusing fields fault → write_of core register value m ≡ refusing m fault
    refused fault h = subst (λ x. write_of core register value x ≡ refusing x fault) same (ap (λ p. write_at core register value fields p) is ∙ h)

    pub no_register : fields.setting.registers ≤ register → write_of core register value m ≡ refusing m write.NoRegister
    no_register r = refused write.NoRegister (inside_none register value fields r)

    pub full_state : (new : Drafted) → register < fields.setting.registers → 8 ≤ length fields.draft.writes → new ≡ fields.draft → with_draft new fields ≡ (write_of core register value m).state
    full_state new r f e = ap (λ d. with_draft d fields) e ∙ same ∙ sym (ap (λ d. d.state) (refused write.Full (inside_full register value fields r f)))

    pub full_answer : register < fields.setting.registers → 8 ≤ length fields.draft.writes → Err write.Full ≡ (write_of core register value m).answer
    full_answer r f = sym (ap (λ d. d.answer) (refused write.Full (inside_full register value fields r f)))

    written : register < fields.setting.registers → length fields.draft.writes < 8 → write_of core register value m ≡ record { state = with_draft (with_write register value fields.draft) fields; answer = Ok tt }
    written r room = ap (λ x. write_of core register value x) (sym same) ∙ ap (λ p. write_at core register value fields p) is ∙ inside_ok register value fields r room

    pub ok_state : (new : Drafted) → register < fields.setting.registers → length fields.draft.writes < 8 → new ≡ with_write register value fields.draft → with_draft new fields ≡ (write_of core register value m).state
    ok_state new r room e = ap (λ d. with_draft d fields) e ∙ sym (ap (λ d. d.state) (written r room))

    pub ok_answer : register < fields.setting.registers → length fields.draft.writes < 8 → Ok tt ≡ (write_of core register value m).answer
    ok_answer r room = sym (ap (λ d. d.answer) (written r room))
