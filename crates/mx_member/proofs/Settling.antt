-- What settling answers, from what the journal tells, and the view that stays.
use Rattle.std.proofs.Common.{ℕ, suc, ◌<◌, ◌≤◌, ◌≡◌, ◌↔◌, Result, Ok, Err, IsOk, OnErr, OnOk, List, nat_le, nat_lt, refl, sym, ◌∙◌, ap, arith}
use Rattle.std.proofs.lemmas.Bool.Decides.{nat_tests}
use Rattle.mx_stamps.proofs.Choices.{cond_false, cond_true, lt_is, lt_not}
use Rattle.mx_journal.specs.declared.settlement.SettleFault.{SettleFault}
use Rattle.mx_journal.specs.declared.settlement.SettleFault.TheVariants as settle
use Rattle.mx_journal.specs.Bases.{AreCellsOf}
use Rattle.mx_journal.specs.Records.{Ascending}
use Rattle.mx_journal.specs.Settled.{IsCovered, IsFirstGap, JournalState, settled}
use Rattle.mx_nodelaws.specs.World.{Quiet}
use Rattle.mx_registers.specs.declared.contents.Content.{Content}
use Rattle.mx_registers.specs.Based.{registers_in}
use Rattle.mx_registers.proofs.Based.{registers_settled}
use Rattle.mx_member.specs.Member.{IsViewOf, MemberState, first_gap, with_journal}
use Rattle.mx_member.specs.Steps.{refusing, settle_of}
use Rattle.mx_member.proofs.Covering.{gap_is, gap_past}

-- a member whose journal is now this one, and its answer
abbrev pub settling : {S : Type 0} → Result (Unit {0}) SettleFault → JournalState → MemberState S → Quiet (MemberState S) (Result (Unit {0}) SettleFault)
settling r new m = record { state = with_journal new m; answer = r }

module _ {S : Type 0} (k : ℕ) (m : MemberState S) (new : JournalState) (order : Ascending (suc m.journal.base.upto) m.journal.records) where
  abbrev done : Quiet (MemberState S) (Result (Unit {0}) SettleFault)
  done = record { state = with_journal (settled k m.journal) m; answer = Ok tt }

  abbrev gap : Quiet (MemberState S) (Result (Unit {0}) SettleFault)
  gap = refusing m (settle.Gap (first_gap m.journal))

  abbrev below : Quiet (MemberState S) (Result (Unit {0}) SettleFault)
  below = refusing m (settle.Below m.journal.base.upto)

  pub settles : (r : Result (Unit {0}) SettleFault) →
      ((n : ℕ) → (r ≡ Err (settle.Below n)) ↔ ((k < m.journal.base.upto) × (n ≡ m.journal.base.upto))) →
      ((n : ℕ) → (r ≡ Err (settle.Gap n)) ↔ ((m.journal.base.upto ≤ k) × (n ≤ k) × IsFirstGap n m.journal)) →
      (IsOk r ↔ ((m.journal.base.upto ≤ k) × IsCovered k m.journal)) →
      OnOk r (new ≡ settled k m.journal) → OnErr r (new ≡ m.journal) → settle_of k m ≡ settling r new m
  settles (Ok d) low first all made kept =
      let w = all.0 refl in
      let past = gap_past k m.journal order w.1 in
      cond_false (nat_lt k m.journal.base.upto) below _ (lt_not k m.journal.base.upto w.0)
      ∙ cond_false (nat_le (first_gap m.journal) k) gap done (grind (arith, nat_tests))
      ∙ ap (λ j. settling (Ok tt) j m) (sym made)
  settles (Err (settle.Below n)) low first all made kept =
      let w = (low n).0 refl in
      cond_true (nat_lt k m.journal.base.upto) below _ (lt_is k m.journal.base.upto w.0)
      ∙ ap (λ j. settling (Err (settle.Below m.journal.base.upto)) j m) (sym kept)
      ∙ ap (λ i. settling (Err (settle.Below i)) new m) (sym w.1)
  settles (Err (settle.Gap n)) low first all made kept =
      let w = (first n).0 refl in
      let same : n ≡ first_gap m.journal = gap_is n m.journal order w.2 in
      let within = w.1 in
      cond_false (nat_lt k m.journal.base.upto) below _ (lt_not k m.journal.base.upto w.0)
      ∙ cond_true (nat_le (first_gap m.journal) k) gap done (let l : first_gap m.journal ≤ k = omega arith in grind (arith, nat_tests))
      ∙ ap (λ j. settling (Err (settle.Gap (first_gap m.journal))) j m) (sym kept)
      ∙ ap (λ i. settling (Err (settle.Gap i)) new m) (sym same)

-- the same of the whole member
pub settled_over : {S : Type 0} (r : Result (Unit {0}) SettleFault) (k : ℕ) (new : JournalState) (fields m : MemberState S) → fields ≡ m → settle_of k fields ≡ settling r new fields → (with_journal new fields ≡ (settle_of k m).state) × (r ≡ (settle_of k m).answer)
settled_over r k new fields m same is = (
  sym (ap (λ d. d.state) is) ∙ ap (λ x. (settle_of k x).state) same,
  sym (ap (λ d. d.answer) is) ∙ ap (λ x. (settle_of k x).answer) same,
)

-- a view of the journal stays its view
pub shown_settled : (r : Result (Unit {0}) SettleFault) (count k : ℕ) (old new : JournalState) (cells : List Content) → count ≤ 32 → Ascending (suc old.base.upto) old.records → AreCellsOf old.base.upto old.base.cells → OnOk r (new ≡ settled k old) → OnErr r (new ≡ old) → IsViewOf count old cells → IsViewOf count new cells
unfolding IsViewOf
shown_settled (Ok d) count k old new cells few order of made kept is = is ∙ sym (registers_settled count k old few order of) ∙ ap (λ j. registers_in count j) (sym made)
shown_settled (Err fault) count k old new cells few order of made kept is = is ∙ ap (λ j. registers_in count j) (sym kept)
