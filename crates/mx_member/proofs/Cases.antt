-- What a call of a member gives: a refusal, after which the member is as it was, or the step of the call.
use Rattle.std.proofs.Common.{[], ℕ, ◌<◌, ◌≤◌, ◌≡◌, Result, Ok, Err, length, nat_le, nat_lt, refl, if◌then◌else◌}
use Rattle.mx_stamps.proofs.Choices.{cond_case, le_false, le_true, lt_false}
use Rattle.mx_nodelaws.specs.World.{Done, Quiet}
use Rattle.mx_nodelaws.specs.Core.{Core}
use Rattle.mx_nodelaws.specs.declared.phase.Phase.{Phase}
use Rattle.mx_nodelaws.specs.declared.phase.Phase.TheVariants.{Idle, Waiting, Inside}
use Rattle.mx_nodelaws.specs.declared.faults.LeaveFault.{LeaveFault}
use Rattle.mx_nodelaws.specs.declared.faults.LeaveFault.TheVariants as leave
use Rattle.mx_journal.specs.declared.receipts.Receipt.{Receipt}
use Rattle.mx_journal.specs.declared.settlement.SettleFault.{SettleFault}
use Rattle.mx_journal.specs.declared.settlement.SettleFault.TheVariants as settle
use Rattle.mx_journal.specs.Drafted.{with_read, with_write}
use Rattle.mx_journal.specs.Settled.{settled}
use Rattle.mx_member.specs.declared.faults.ReadFault.{ReadFault}
use Rattle.mx_member.specs.declared.faults.ReadFault.TheVariants as read
use Rattle.mx_member.specs.declared.faults.WriteFault.{WriteFault}
use Rattle.mx_member.specs.declared.faults.WriteFault.TheVariants as write
use Rattle.mx_member.specs.declared.parcel.Parcel.{Parcel}
use Rattle.mx_member.specs.Member.{MemberState, first_gap, with_draft, with_journal}
use Rattle.mx_member.specs.Steps.{leave_at, left, read_at, refusing, settle_of, shown_inside, write_at}

module _ {H S M : Type 0} (core : Core H S M) (m : MemberState S) where
  -- a read is refused since its section is settled only if the base covers the section
  abbrev pub Cause : Phase → ReadFault → Type 0
  Cause p (read.Settled k) = (n : ℕ) × (p ≡ Inside n) × (n ≤ m.journal.base.upto)
  Cause p _ = Unit {0}

  pub reads : (register : ℕ) (p : Phase) (P : Quiet (MemberState S) (Result ℕ ReadFault) → Type 0) → ((fault : ReadFault) → Cause p fault → P (refusing m fault)) →
      ((n : ℕ) → p ≡ Inside n → register < m.setting.registers → n ≤ first_gap m.journal → P (record { state = with_draft (with_read register (shown_inside register n m) m.draft) m; answer = Ok (shown_inside register n m) })) →
      P (read_at core register m p)
  reads register Idle P refused done = refused read.NotInside tt
  reads register Waiting P refused done = refused read.NotInside tt
  reads register (Inside n) P refused done =
      let got : Quiet (MemberState S) (Result ℕ ReadFault) = record { state = with_draft (with_read register (shown_inside register n m) m.draft) m; answer = Ok (shown_inside register n m) } in
      let free = if nat_le n m.journal.base.upto then refusing m (read.Settled m.journal.base.upto) else got in
      let room = if nat_le 8 (length m.draft.reads) then refusing m read.Full else free in
      let gap = if nat_lt (first_gap m.journal) n then refusing m (read.Gap (first_gap m.journal)) else room in
      cond_case P (nat_le m.setting.registers register) (refusing m read.NoRegister) gap (λ _. refused read.NoRegister tt)
      (λ there. cond_case P (nat_lt (first_gap m.journal) n) (refusing m (read.Gap (first_gap m.journal))) room (λ _. refused (read.Gap (first_gap m.journal)) tt)
      (λ all. cond_case P (nat_le 8 (length m.draft.reads)) (refusing m read.Full) free (λ _. refused read.Full tt)
      (λ _. cond_case P (nat_le n m.journal.base.upto) (refusing m (read.Settled m.journal.base.upto)) got
      (λ low. refused (read.Settled m.journal.base.upto) (n, refl, le_true n m.journal.base.upto low))
      (λ _. done n refl (le_false m.setting.registers register there) (lt_false (first_gap m.journal) n all)))))

  pub writes : (register value : ℕ) (p : Phase) (P : Quiet (MemberState S) (Result (Unit {0}) WriteFault) → Type 0) → ((fault : WriteFault) → P (refusing m fault)) →
      ((n : ℕ) → p ≡ Inside n → P (record { state = with_draft (with_write register value m.draft) m; answer = Ok tt })) → P (write_at core register value m p)
  writes register value Idle P refused done = refused write.NotInside
  writes register value Waiting P refused done = refused write.NotInside
  writes register value (Inside n) P refused done =
      let wrote : Quiet (MemberState S) (Result (Unit {0}) WriteFault) = record { state = with_draft (with_write register value m.draft) m; answer = Ok tt } in
      let room = if nat_le 8 (length m.draft.writes) then refusing m write.Full else wrote in
      cond_case P (nat_le m.setting.registers register) (refusing m write.NoRegister) room (λ _. refused write.NoRegister)
      (λ _. cond_case P (nat_le 8 (length m.draft.writes)) (refusing m write.Full) wrote (λ _. refused write.Full) (λ _. done n refl))

  pub leaves : (p : Phase) (P : Done (MemberState S) (Result Receipt LeaveFault) (Parcel M) → Type 0) → P (record { state = m; answer = Err leave.NotInside; letters = [] }) →
      ((n : ℕ) → p ≡ Inside n → P (left core n m)) → P (leave_at core m p)
  leaves Idle P refused done = refused
  leaves Waiting P refused done = refused
  leaves (Inside n) P refused done = done n refl

  pub settles : (k : ℕ) (P : Quiet (MemberState S) (Result (Unit {0}) SettleFault) → Type 0) → ((fault : SettleFault) → P (refusing m fault)) →
      (m.journal.base.upto ≤ k → k < first_gap m.journal → P (record { state = with_journal (settled k m.journal) m; answer = Ok tt })) → P (settle_of k m)
  settles k P refused done =
      let stands : Quiet (MemberState S) (Result (Unit {0}) SettleFault) = record { state = with_journal (settled k m.journal) m; answer = Ok tt } in
      let gap = if nat_le (first_gap m.journal) k then refusing m (settle.Gap (first_gap m.journal)) else stands in
      cond_case P (nat_lt k m.journal.base.upto) (refusing m (settle.Below m.journal.base.upto)) gap (λ _. refused (settle.Below m.journal.base.upto))
      (λ high. cond_case P (nat_le (first_gap m.journal) k) (refusing m (settle.Gap (first_gap m.journal))) stands (λ _. refused (settle.Gap (first_gap m.journal)))
      (λ past. done (lt_false k m.journal.base.upto high) (le_false (first_gap m.journal) k past)))
