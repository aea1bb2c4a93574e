-- What a member's reads and sends are, case by case.
use Rattle.std.proofs.Common.{ℕ, ◌<◌, ◌≤◌, ◌≡◌, ◌+◌, inl, inr, true, false, List, Option, Ok, Err, length, nat_le, nat_lt, unwrap_or, sym, ◌∙◌, ap, subst, arith}
use Rattle.std.specs.Option.{option_map}
use Rattle.std.proofs.lemmas.List.{length-append}
use Rattle.mx_stamps.proofs.Choices.{cond_false, cond_true}
use Rattle.std.proofs.lemmas.Bool.Decides.{nat_tests}
use Rattle.mx_stamps.proofs.Lists.{has_each_below}
use Rattle.mx_nodelaws.specs.Core.{Core}
use Rattle.mx_nodelaws.specs.declared.phase.Phase.TheVariants.{Inside}
use Rattle.mx_journal.specs.declared.records.Record.{Record}
use Rattle.mx_journal.specs.Bases.{BaseState}
use Rattle.mx_journal.specs.Drafted.{Drafted, with_read}
use Rattle.mx_journal.proofs.Choices.{compared}
use Rattle.mx_registers.specs.declared.contents.Content.{Content}
use Rattle.mx_registers.specs.Based.{cell_in, registers_from}
use Rattle.mx_registers.specs.Registers.{after_records, value_in}
use Rattle.mx_member.specs.declared.faults.ReadFault.TheVariants as read
use Rattle.mx_member.specs.declared.faults.ReadFault.{ReadFault}
use Rattle.mx_member.specs.Member.{MemberState, first_gap, with_draft}
use Rattle.mx_member.specs.Steps.{read_at, read_inside, read_of, refusing, settled_fault, shown_inside}

-- a read inside with nothing missing below, where the draft is full
inside_full : {S : Type 0} (register n : ℕ) (m : MemberState S) → register < m.setting.registers → n ≤ first_gap m.journal → 8 ≤ length m.draft.reads → read_inside register n m ≡ refusing m read.Full
inside_full register n m r g f = grind (arith, nat_tests)

-- where the base stands for n, for one of two causes
inside_settled : {S : Type 0} (register n : ℕ) (m : MemberState S) → register < m.setting.registers → n ≤ first_gap m.journal → n ≤ m.journal.base.upto → read_inside register n m ≡ refusing m (settled_fault (length m.draft.reads) m.journal.base.upto)
inside_settled register n m r g b = grind (arith, nat_tests)

-- and where it does not, and there is room
inside_ok : {S : Type 0} (register n v : ℕ) (m : MemberState S) → register < m.setting.registers → n ≤ first_gap m.journal → length m.draft.reads < 8 → m.journal.base.upto < n → v ≡ shown_inside register n m → read_inside register n m ≡ record { state = with_draft (with_read register v m.draft) m; answer = Ok v }
inside_ok register n v m r g f b e = grind (arith, nat_tests)

-- a register that is there, of the view of a base and some records
pub register_shown : (base : BaseState) (count register : ℕ) (xs : List Record) (cells : List Content) (found : Option ℕ) → cells ≡ registers_from base count xs → register < count → found ≡ value_in register cells → unwrap_or found 0 ≡ (after_records register xs (cell_in register base)).value
register_shown base count register xs cells found is there looked =
    ap (λ o. unwrap_or o 0) (looked ∙ ap (λ c. value_in register c) is
    ∙ ap (λ o. option_map (λ (cell : Content). cell.value) o) (has_each_below (λ r. after_records r xs (cell_in r base)) count register there))

-- where there is room, a settled section is why
pub room_settled : (reads upto told : ℕ) → reads < 8 → told ≡ upto → read.Settled told ≡ settled_fault reads upto
room_settled reads upto told room same =
    ap (λ n. read.Settled n) same ∙ sym (cond_false (nat_le 8 reads) read.Full (read.Settled upto) (grind (arith, nat_tests)))

-- a register that is not there, and a gap before the section
inside_none : {S : Type 0} (register n : ℕ) (m : MemberState S) → m.setting.registers ≤ register → read_inside register n m ≡ refusing m read.NoRegister
inside_none register n m r = cond_true (nat_le m.setting.registers register) (refusing m read.NoRegister) _ (grind (arith, nat_tests))

inside_gap : {S : Type 0} (register n k : ℕ) (m : MemberState S) → register < m.setting.registers → first_gap m.journal < n → k ≡ first_gap m.journal → read_inside register n m ≡ refusing m (read.Gap k)
inside_gap register n k m r g same =
    cond_false (nat_le m.setting.registers register) (refusing m read.NoRegister) _ (grind (arith, nat_tests))
    ∙ cond_true (nat_lt (first_gap m.journal) n) (refusing m (read.Gap (first_gap m.journal))) _ (grind (arith, nat_tests))
    ∙ ap (λ i. refusing m (read.Gap i)) (sym same)

-- one read more, where there is room
pub read_noted : (register value : ℕ) (old new : Drafted) → new ≡ with_read register value old → length old.reads < 8 → length new.reads ≤ 8
read_noted register value old new made room =
    let size : length new.reads ≡ length old.reads + 1 = ap (λ (d : Drafted). length d.reads) made ∙ length-append old.reads _ in omega arith

-- no number is below eight, at most eight and eight
pub not_full : (k : ℕ) → k ≤ 8 → (k ≡ 8 → false ≡ true) → k < 8
not_full k l h = elim (compared k 8) [
  | inl b ↦ b
  | inr (inl e) ↦ absurd (let q = h e in let bad : ⊥ = cc in bad)
  | inr (inr b) ↦ absurd (omega arith)
]

-- a refused read, of a member whose fields are known
module _ {H S M : Type 0} (core : Core H S M) (register n : ℕ) (m fields : MemberState S) (same : fields ≡ m) (is : core.phase fields.core ≡ Inside n) where
  refused : (fault : ReadFault) → read_inside register n fields ≡ refusing fields fault → (m ≡ (read_of core register m).state) × (Err fault ≡ (read_of core register m).answer)
  refused fault h =
      let all : read_of core register m ≡ refusing m fault = subst (λ x. read_of core register x ≡ refusing x fault) same (ap (λ p. read_at core register fields p) is ∙ h) in
      (sym (ap (λ d. d.state) all), sym (ap (λ d. d.answer) all))

  pub no_register : fields.setting.registers ≤ register → (m ≡ (read_of core register m).state) × (Err read.NoRegister ≡ (read_of core register m).answer)
  no_register r = refused read.NoRegister (inside_none register n fields r)

  pub gap_before : (k : ℕ) → register < fields.setting.registers → first_gap fields.journal < n → k ≡ first_gap fields.journal → (m ≡ (read_of core register m).state) × (Err (read.Gap k) ≡ (read_of core register m).answer)
  gap_before k r g e = refused (read.Gap k) (inside_gap register n k fields r g e)

-- a read, of a member whose fields are known
module _ {H S M : Type 0} (core : Core H S M) (register n : ℕ) (m fields : MemberState S) (same : fields ≡ m) (is : core.phase fields.core ≡ Inside n) (there : register < fields.setting.registers) (gapless : n ≤ first_gap fields.journal) where
  full : 8 ≤ length fields.draft.reads → read_of core register m ≡ refusing m read.Full
  full f = subst (λ x. read_of core register x ≡ refusing x read.Full) same (ap (λ p. read_at core register fields p) is ∙ inside_full register n fields there gapless f)

  pub full_state : (new : Drafted) → 8 ≤ length fields.draft.reads → new ≡ fields.draft → with_draft new fields ≡ (read_of core register m).state
  full_state new f e = ap (λ d. with_draft d fields) e ∙ same ∙ sym (ap (λ d. d.state) (full f))

  pub full_answer : 8 ≤ length fields.draft.reads → Err read.Full ≡ (read_of core register m).answer
  full_answer f = sym (ap (λ d. d.answer) (full f))

  -- the base stands for n
  settled : n ≤ fields.journal.base.upto → read_of core register m ≡ refusing m (settled_fault (length fields.draft.reads) fields.journal.base.upto)
  settled b =
      subst (λ x. read_of core register x ≡ refusing x (settled_fault (length fields.draft.reads) fields.journal.base.upto)) same
      (ap (λ p. read_at core register fields p) is ∙ inside_settled register n fields there gapless b)

  pub settled_state : n ≤ fields.journal.base.upto → m ≡ (read_of core register m).state
  settled_state b = sym (ap (λ d. d.state) (settled b))

  pub settled_answer : (fault : ReadFault) → n ≤ fields.journal.base.upto → fault ≡ settled_fault (length m.draft.reads) m.journal.base.upto → Err fault ≡ (read_of core register m).answer
  settled_answer fault b e =
      ap (λ (f : ReadFault). Err f) e
      ∙ ap (λ (x : MemberState S). Err (settled_fault (length x.draft.reads) x.journal.base.upto)) (sym same)
      ∙ sym (ap (λ d. d.answer) (settled b))

  ok : (v : ℕ) → length fields.draft.reads < 8 → fields.journal.base.upto < n → v ≡ shown_inside register n fields → read_of core register m ≡ record { state = with_draft (with_read register v fields.draft) fields; answer = Ok v }
  ok v f b e = ap (λ x. read_of core register x) (sym same) ∙ ap (λ p. read_at core register fields p) is ∙ inside_ok register n v fields there gapless f b e

  pub ok_state : (v : ℕ) (new : Drafted) → length fields.draft.reads < 8 → fields.journal.base.upto < n → v ≡ shown_inside register n fields → new ≡ with_read register v fields.draft → with_draft new fields ≡ (read_of core register m).state
  ok_state v new f b e w = ap (λ d. with_draft d fields) w ∙ sym (ap (λ d. d.state) (ok v f b e))

  pub ok_answer : (v : ℕ) → length fields.draft.reads < 8 → fields.journal.base.upto < n → v ≡ shown_inside register n fields → Ok v ≡ (read_of core register m).answer
  ok_answer v f b e = sym (ap (λ d. d.answer) (ok v f b e))
