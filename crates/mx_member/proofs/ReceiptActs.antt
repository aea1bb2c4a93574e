-- What one act does to a node's receipts and to its journal.
use Rattle.std.proofs.Common.{ℕ, suc, ◌≡◌, inl, inr, List, [], ◌∷◌, Result, Ok, Err, refl, sym, ap, subst, arith}
use Rattle.mx_stamps.specs.Lists.{IsIn}
use Rattle.mx_nodelaws.specs.World.{World}
use Rattle.mx_nodelaws.specs.Core.{Core}
use Rattle.mx_nodelaws.specs.declared.faults.EnterFault.{EnterFault}
use Rattle.mx_journal.specs.declared.receipts.Receipt.{Receipt}
use Rattle.mx_journal.specs.Drafted.{receipt_of, record_of}
use Rattle.mx_journal.specs.Records.{Ascending}
use Rattle.mx_journal.specs.Settled.{Covers}
use Rattle.mx_member.specs.declared.acts.Act.{Act}
use Rattle.mx_member.specs.declared.acts.Act.TheVariants as act
use Rattle.mx_member.specs.declared.acts.Answer.TheVariants as answer
use Rattle.mx_member.specs.declared.parcel.Parcel.{Parcel}
use Rattle.mx_member.specs.declared.parcel.Parcel.TheVariants.{Guard, Want, Base, Records}
use Rattle.mx_member.specs.Acts.{act_of}
use Rattle.mx_member.specs.Member.{MemberState, with_core}
use Rattle.mx_member.specs.Receipts.{closed_by}
use Rattle.mx_trace.specs.Sections.{Section}
use Rattle.mx_member.specs.Told.{told}
use Rattle.mx_member.specs.Steps.{entered, left, take_of}
use Rattle.mx_member.specs.World.{IsMember, IsSound}
use Rattle.mx_member.proofs.Cases.{leaves, reads, settles, writes}
use Rattle.mx_member.proofs.Covering.{CoversMore, covers_put, put_covers, settled_covers, taken_covers}
use Rattle.mx_member.proofs.EntrySteps.{drafted}
use Rattle.mx_member.proofs.ReceiptLists.{closed_in}

module _ {H S M : Type 0} (core : Core H S M) where
  entry_tells : (i : ℕ) (r : Result ℕ EnterFault) → closed_in (told {M = M} i act.Enter (answer.Entered r)) ≡ []
  entry_tells i (Ok n) = refl
  entry_tells i (Err fault) = refl

  -- what an act tells of receipts is what its answer hands out
  pub tells_receipts : (i : ℕ) (a : Act M) (m : MemberState S) → closed_in (told i a (act_of core a m).answer) ≡ closed_by (act_of core a m).answer
  tells_receipts i act.Enter m = entry_tells i (core.enter m.core).answer
  tells_receipts i (act.Read register) m = reads core m register (core.phase m.core) (λ q. closed_in (told {M = M} i (act.Read register) (answer.Read q.answer)) ≡ []) (λ fault _. refl) (λ n is there all. refl)
  tells_receipts i (act.Write register value) m = writes core m register value (core.phase m.core) (λ q. closed_in (told {M = M} i (act.Write register value) (answer.Written q.answer)) ≡ []) (λ fault. refl) (λ n is. refl)
  tells_receipts i act.Leave m = leaves core m (core.phase m.core) (λ q. closed_in (told {M = M} i act.Leave (answer.Left q.answer)) ≡ closed_by (answer.Left q.answer)) refl (λ n is. refl)
  tells_receipts i _ m = refl

  -- a receipt is of the node that leaves
  pub closed_here : (a : Act M) (m : MemberState S) (r : Receipt) → IsIn r (closed_by (act_of core a m).answer) → r.node ≡ m.setting.me
  closed_here act.Leave m r h =
      leaves core m (core.phase m.core) (λ q. IsIn r (closed_by (answer.Left q.answer)) → r.node ≡ m.setting.me) (λ bad. absurd bad)
      (λ n is of. elim of [ inl e ↦ ap (λ (x : Receipt). x.node) e | inr bad ↦ absurd bad ]) h
  closed_here _ m r h = absurd h

  -- a journal goes on covering what it covers
  entered_grows : (r : Result ℕ EnterFault) (m : MemberState S) → CoversMore m.journal (entered r m).journal
  entered_grows (Ok n) m k h = h
  entered_grows (Err fault) m k h = h

  take_grows : (from : ℕ) (p : Parcel M) (m : MemberState S) → Ascending (suc m.journal.base.upto) m.journal.records → CoversMore m.journal (take_of core from p m).state.journal
  take_grows from (Guard letter) m order k h = h
  take_grows from (Want ranges) m order k h = h
  take_grows from (Base base) m order k h = taken_covers base m.journal order k h
  take_grows from (Records records) m order k h = put_covers records.items m.journal k h

  pub journal_grows : (a : Act M) (m : MemberState S) → Ascending (suc m.journal.base.upto) m.journal.records → CoversMore m.journal (act_of core a m).state.journal
  journal_grows act.Enter m order n h = entered_grows (core.enter m.core).answer (with_core (core.enter m.core).state m) n h
  journal_grows (act.Read register) m order n h = reads core m register (core.phase m.core) (λ q. Covers n q.state.journal) (λ fault _. h) (λ k is there all. h)
  journal_grows (act.Write register value) m order n h = writes core m register value (core.phase m.core) (λ q. Covers n q.state.journal) (λ fault. h) (λ k is. h)
  journal_grows act.Leave m order n h = leaves core m (core.phase m.core) (λ q. Covers n q.state.journal) h (λ k is. put_covers (record_of (receipt_of k m.setting.me m.draft) ∷ []) m.journal n h)
  journal_grows (act.Settle k) m order n h = settles core m k (λ q. Covers n q.state.journal) (λ fault. h) (λ low past. settled_covers k m.journal order low n h)
  journal_grows (act.Deliver from parcel) m order n h = take_grows from parcel m order n h
  journal_grows _ m order n h = h

module _ {H S M : Type 0} (core : Core H S M) (Good : World S M → Type 0) (ss : List Section) (members : List (MemberState S)) (sent : List (ℕ × ℕ × Parcel M)) (sound : IsSound core Good ss members sent) (i : ℕ) (m : MemberState S) (at : IsMember members i m) where
  -- the journal after an act covers the receipt that it hands out
  pub closed_recorded : (a : Act M) (r : Receipt) → IsIn r (closed_by (act_of core a m).answer) → Covers r.number (act_of core a m).state.journal
  closed_recorded act.Leave r h =
      leaves core m (core.phase m.core) (λ q. IsIn r (closed_by (answer.Left q.answer)) → Covers r.number q.state.journal) (λ bad. absurd bad)
      (λ n is of. elim of [
        | inl e ↦
            let d = drafted m n ss (sound.inside i n m at is) in
            subst (λ (q : Receipt). Covers q.number (left core n m).state.journal) (sym e)
            (covers_put (record_of (receipt_of n m.setting.me m.draft)) m.journal (omega (arith, d.2)))
        | inr bad ↦ absurd bad
      ]) h
  closed_recorded _ r h = absurd h
