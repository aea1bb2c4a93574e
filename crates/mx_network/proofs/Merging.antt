-- Merging members' journals, one after another.
use Rattle.std.proofs.Common.{ℕ, suc, ◌<◌, ◌+◌, ◌≡◌, ◌⊎◌, inl, inr, List, [], ◌∷◌, ◌++◌, None, Result, Ok, Err, IsOk, IsErrAnd, slice_get, get_or, length, take, refl, sym, ◌∙◌, ap, subst, arith}
use Rattle.std.proofs.lemmas.List.{take_more}
use Rattle.std.proofs.lemmas.Option.{same_Some}
use Rattle.mx_stamps.specs.Lists.{IsIn}
use Rattle.mx_stamps.proofs.Lists.{in_append, in_left, in_right, none_is_no_some}
use Rattle.mx_journal.specs.declared.records.Record.{Record}
use Rattle.mx_journal.specs.declared.receipts.Receipt.{Receipt}
use Rattle.mx_journal.specs.Records.{Ascending, IsThere}
use Rattle.mx_journal.specs.Settled.{Covers, DoAgree, IsWithin, JournalState, joined, settled, unsettled}
use Rattle.mx_merge.specs.declared.join.MergeFault.{MergeFault}
use Rattle.mx_merge.specs.declared.join.MergeFault.TheVariants.{Conflict, Memory}
use Rattle.mx_merge.specs.Join.{IsLeastJournal}
use Rattle.mx_nodelaws.specs.World.{World}
use Rattle.mx_nodelaws.specs.Core.{Core}
use Rattle.mx_member.specs.Journals.{IsJournalOf}
use Rattle.mx_member.specs.Member.{MemberState}
use Rattle.mx_member.specs.World.{IsMember}
use Rattle.mx_member.specs.Receipts.{own_in, receipts_in}
use Rattle.mx_member.specs.Running.{owners_from}
use Rattle.mx_member.proofs.Covering.{within_covers}
use Rattle.mx_member.proofs.Joining.{within_within}
use Rattle.mx_member.proofs.OfSections.{joined_of, journals_of_one, whole_is}
use Rattle.mx_member.proofs.Owners.{members_owners, owner_at}
use Rattle.mx_member.proofs.OwnReceipts.{own_has}
use Rattle.mx_member.proofs.ReceiptHistory.{in_records}
use Rattle.mx_member.proofs.ReceiptLists.{receipts_journal}
use Rattle.mx_member.proofs.Running.{members_count}
use Rattle.mx_member.proofs.SectionLists.{journal_ascends}
use Rattle.mx_network.specs.Kept.{IsKept}
use Rattle.mx_network.specs.Merged.{IsAboveAll, IsBelowEach, IsOfAll}
use Rattle.mx_trace.specs.Trace.{journal_of, sections}
use Rattle.mx_network.specs.Step.{ClusterState}
use Rattle.mx_network.proofs.Happening.{held}
use Rattle.mx_network.proofs.KeptSound.{kept_sound}

-- of a list cut behind its k-th element, the members are those of the shorter cut and that element
cut : (nodes : List ℕ) (k n i : ℕ) (P : Type 0) → k < length nodes → n ≡ get_or nodes k n → IsIn i (take (k + 1) nodes) → (IsIn i (take k nodes) → P) → (i ≡ n → P) → P
cut nodes k n i P lt is h before here =
    elim (in_append i (take k nodes) (n ∷ []) (subst (λ l. IsIn i l) (take_more nodes k n lt ∙ ap (λ x. take k nodes ++ x ∷ []) (sym is)) h)) [
      | inl a ↦ before a
      | inr (inl e) ↦ here e
      | inr (inr bad) ↦ absurd bad
    ]

-- one more is merged
pub merged_more : {S : Type 0} (members : List (MemberState S)) (nodes : List ℕ) (k n : ℕ) (m : MemberState S) (all new journal : JournalState) → IsAboveAll members (take k nodes) all → IsMember members n m → journal ≡ m.journal → IsLeastJournal all journal new → k < length nodes → n ≡ get_or nodes k n → IsAboveAll members (take (k + 1) nodes) new
merged_more {S} members nodes k n m all new journal merged at same join lt is i t h tat =
    cut nodes k n i (IsWithin t.journal new) lt is h
    (λ a. within_within t.journal all new (merged i t a tat) join.left)
    (λ e. subst (λ (y : MemberState S). IsWithin y.journal new) (sym (same_Some t m (sym tat ∙ ap (λ j. slice_get members j) e ∙ at))) (subst (λ j. IsWithin j new) same join.right))

-- a node that isn't there adds nothing
pub merged_same : {S : Type 0} (members : List (MemberState S)) (nodes : List ℕ) (k n : ℕ) (all : JournalState) → IsAboveAll members (take k nodes) all → slice_get members n ≡ None → k < length nodes → n ≡ get_or nodes k n → IsAboveAll members (take (k + 1) nodes) all
merged_same members nodes k n all merged none lt is i t h tat =
    cut nodes k n i (IsWithin t.journal all) lt is h
    (λ a. merged i t a tat)
    (λ e. absurd (none_is_no_some t (sym none ∙ ap (λ j. slice_get members j) (sym e) ∙ tat)))

-- what is above the journals of one node more is above those before it
above_fewer : {S : Type 0} (members : List (MemberState S)) (nodes : List ℕ) (k n : ℕ) (journal : JournalState) → k < length nodes → n ≡ get_or nodes k n → IsAboveAll members (take (k + 1) nodes) journal → IsAboveAll members (take k nodes) journal
above_fewer members nodes k n journal lt is above i m h at =
    above i m (subst (λ l. IsIn i l) (sym (take_more nodes k n lt)) (in_left i (take k nodes) (get_or nodes k n ∷ []) h)) at

-- so the least is still the least, with one more merged, or where a node isn't there
pub least_more : {S : Type 0} (members : List (MemberState S)) (nodes : List ℕ) (k n : ℕ) (m : MemberState S) (all new journal : JournalState) → IsBelowEach members (take k nodes) all → IsMember members n m → journal ≡ m.journal → IsLeastJournal all journal new → k < length nodes → n ≡ get_or nodes k n → IsBelowEach members (take (k + 1) nodes) new
least_more members nodes k n m all new journal below at same join lt is other empty above =
    join.least other (below other empty (above_fewer members nodes k n other lt is above))
    (subst (λ j. IsWithin j other) (sym same) (above n m (subst (λ l. IsIn n l) (sym (take_more nodes k n lt)) (in_right n (take k nodes) (get_or nodes k n ∷ []) (inl is))) at))

pub least_same : {S : Type 0} (members : List (MemberState S)) (nodes : List ℕ) (k n : ℕ) (all : JournalState) → IsBelowEach members (take k nodes) all → k < length nodes → n ≡ get_or nodes k n → IsBelowEach members (take (k + 1) nodes) all
least_same members nodes k n all below lt is other empty above = below other empty (above_fewer members nodes k n other lt is above)

module _ {H S M : Type 0} (core : Core H S M) (Good : World S M → Type 0) (g : ClusterState S M) (kept : IsKept core Good g) where
  -- what is merged so far agrees with each member's journal
  pub mergeable : (all journal : JournalState) (n : ℕ) (m : MemberState S) → IsJournalOf (journal_of g.trace) all → IsMember g.members n m → journal ≡ m.journal → DoAgree all journal
  mergeable all journal n m low at same =
      journals_of_one (journal_of g.trace) all journal (journal_ascends (sections g.trace)) low (subst (λ j. IsJournalOf (journal_of g.trace) j) (sym same) ((kept_sound core Good g kept).journals n m at))

  -- and stays of the sections
  pub merged_within : (all new journal : JournalState) (n : ℕ) (m : MemberState S) → IsJournalOf (journal_of g.trace) all → IsMember g.members n m → journal ≡ m.journal → new ≡ joined journal all → IsJournalOf (journal_of g.trace) new
  merged_within all new journal n m low at same made =
      subst (λ j. IsJournalOf (journal_of g.trace) j) (sym made)
      (joined_of (journal_of g.trace) all journal low (subst (λ j. IsJournalOf (journal_of g.trace) j) (sym same) ((kept_sound core Good g kept).journals n m at)))

  -- each section that was left is covered by the journal of its node
  pub all_have : (nodes : List ℕ) (all : JournalState) → IsOfAll g.members nodes → IsAboveAll g.members nodes all → (n : ℕ) → IsThere n (journal_of g.trace) → Covers n all
  all_have nodes all every above n there =
      let rs : List Receipt = receipts_in (sections g.trace) in
      let r = in_records rs there.0 (subst (λ l. IsIn there.0 l) (receipts_journal (sections g.trace)) there.1) in
      let i : ℕ = r.0.node in
      let count : length (owners_from 0 rs g.members) ≡ length g.members = sym (members_count (owners_from 0 rs g.members)) ∙ ap length (members_owners 0 rs g.members) in
      let inside : i < length g.members = subst (λ k. i < k) count (kept.run.placed r.0 r.1) in
      let m : MemberState S = (held g.members i inside).0 in
      let at : IsMember g.members i m = (held g.members i inside).1 in
      let zero : i ≡ 0 + i = omega arith in
      let own : IsIn r.0 (own_in (0 + i) rs) = subst (λ k. IsIn r.0 (own_in k rs)) zero (own_has i rs r.0 r.1 refl) in
      let number : r.0.number ≡ n = sym (ap (λ (x : Record). x.number) r.2) ∙ there.2 in
      subst (λ k. Covers k all) number
      (within_covers m.journal all ((kept_sound core Good g kept).ordered i m at) (above i m (every i inside) at) r.0.number
      (kept.run.recorded i (record { member = m; receipts = own_in (0 + i) rs }) r.0 (owner_at 0 rs g.members i m at) own))

  -- so the journals of all nodes, merged, are the section journal, settled up to the base
  pub merged_whole : (nodes : List ℕ) (all : JournalState) → Ascending (suc all.base.upto) all.records → IsJournalOf (journal_of g.trace) all → IsAboveAll g.members nodes all → IsOfAll g.members nodes → all ≡ settled all.base.upto (unsettled (journal_of g.trace))
  merged_whole nodes all ascends low above every =
      whole_is (journal_of g.trace) all (journal_ascends (sections g.trace)) ascends low (all_have nodes all every above)

-- journals that agree want nothing but memory, so that no conflict is answered
pub no_conflict : {A : Type 0} (fault : MergeFault) (r : Result A MergeFault) (n : ℕ) → IsOk {T = ℕ} {E = MergeFault} (Err fault) ⊎ (◌≡◌ {A = Result ℕ MergeFault} (Err fault) (Err Memory)) → IsErrAnd r (λ f. f ≡ fault) → r ≡ Err (Conflict n) → ⊥
no_conflict fault (Ok a) n memory is e = cc
no_conflict fault (Err f) n (inl bad) is e = cc
no_conflict fault (Err f) n (inr m) is e = cc
