-- What a running world tells: who is inside, what can be done, what the receipts of all nodes are, and what the
-- join of all journals has.
use Rattle.std.proofs.Common.{ℕ, suc, ◌<◌, ◌≤◌, ◌≡◌, ◌↔◌, List, Some, length, refl, sym, ◌∙◌, ap, subst, arith}
use Rattle.mx_stamps.specs.Lists.{IsIn}
use Rattle.mx_stamps.proofs.Lists.{greatest_below, in_get}
use Rattle.mx_nodelaws.specs.World.{World}
use Rattle.mx_nodelaws.specs.Core.{Core, IsInside}
use Rattle.mx_nodelaws.specs.Laws.{KeepsGood}
use Rattle.mx_journal.specs.declared.records.Record.{Record}
use Rattle.mx_journal.specs.declared.receipts.Read.{Read}
use Rattle.mx_journal.specs.declared.receipts.Receipt.{Receipt}
use Rattle.mx_journal.specs.Drafted.{record_of}
use Rattle.mx_journal.specs.Records.{Ascending, IsThere, record_at}
use Rattle.mx_journal.specs.Settled.{Covers, DoAgree, JournalState, settled, unsettled}
use Rattle.mx_journal.proofs.Found.{above_has}
use Rattle.mx_journal.proofs.Maps.{found_at}
use Rattle.mx_registers.specs.Based.{registers_in}
use Rattle.mx_registers.specs.Registers.{AreApplied, writes_to}
use Rattle.mx_registers.proofs.Applying.{gapless_view}
use Rattle.mx_member.specs.declared.acts.Act.{Act}
use Rattle.mx_member.specs.declared.acts.Act.TheVariants as act
use Rattle.mx_member.specs.declared.parcel.Parcel.{Parcel}
use Rattle.mx_member.specs.Acts.{Arrives, IsDoable}
use Rattle.mx_member.specs.Journals.{IsJournalOf}
use Rattle.mx_member.specs.Receipts.{receipts_in, records_of}
use Rattle.mx_member.specs.Running.{IsAccount, IsHistory, IsJoinOfNodes, IsNode, IsReceiptAt, IsRunning, Owned, members_of, receipt_count}
use Rattle.mx_trace.specs.Sections.{section_journal}
use Rattle.mx_trace.specs.Serial.{IsSerialRead}
use Rattle.mx_member.specs.Steps.{IsTakeable}
use Rattle.mx_member.proofs.ActsKept.{doable}
use Rattle.mx_member.proofs.Consequences.{journals_agree, one_member_inside}
use Rattle.mx_member.proofs.Covering.{within_covers}
use Rattle.mx_member.proofs.Joining.{whole_of_sections}
use Rattle.mx_member.proofs.OfSections.{covered_there, whole_is, whole_registers}
use Rattle.mx_member.proofs.ReceiptHistory.{history_ascends, history_each, history_has, history_held, history_once, history_within, in_records, reads_ordered, records_have}
use Rattle.mx_member.proofs.ReceiptLists.{receipts_journal}
use Rattle.mx_member.proofs.Running.{member_at, members_count, run_history}
use Rattle.mx_member.proofs.SectionLists.{journal_ascends}

module _ {H S M : Type 0} (core : Core H S M) (IsShape : H → Type 0) (Good : World S M → Type 0) (laws : KeepsGood core IsShape Good) where
  -- at most one node is inside
  pub one_node_inside : (nodes : List (Owned S)) (sent : List (ℕ × ℕ × Parcel M)) (i j : ℕ) (o p : Owned S) →
      IsRunning core Good nodes sent → IsNode nodes i o → IsNode nodes j p → IsInside core o.member.core → IsInside core p.member.core → i ≡ j
  one_node_inside nodes sent i j o p running here there a b =
      one_member_inside core IsShape Good laws running.sections (members_of nodes) sent i j o.member p.member running.run.sound (member_at nodes i o here) (member_at nodes j p there) a b

module _ {H S M : Type 0} (core : Core H S M) (Good : World S M → Type 0) (nodes : List (Owned S)) (sent : List (ℕ × ℕ × Parcel M)) (running : IsRunning core Good nodes sent) where
  -- any two nodes' journals agree
  pub nodes_agree : (i j : ℕ) (o p : Owned S) → IsNode nodes i o → IsNode nodes j p → DoAgree o.member.journal p.member.journal
  nodes_agree i j o p here there =
      journals_agree core Good running.sections (members_of nodes) sent running.run.sound i j o.member p.member (member_at nodes i o here) (member_at nodes j p there)

  -- a node can do whatever arrives
  pub node_can_do : (i : ℕ) (a : Act M) (o : Owned S) → IsNode nodes i o → Arrives (length nodes) sent i a → IsDoable a o.member
  node_can_do i a o here arrives =
      doable core Good running.sections (members_of nodes) sent i a o.member running.run.sound (member_at nodes i o here) (subst (λ n. Arrives n sent i a) (sym (members_count nodes)) arrives)

  -- so a parcel that was sent to it meets no stranger and no conflict
  pub node_can_take : (i from : ℕ) (parcel : Parcel M) (o : Owned S) → IsNode nodes i o → IsIn (from, i, parcel) sent → IsTakeable from parcel o.member
  node_can_take i from parcel o here was = node_can_do i (act.Deliver from parcel) o here was

  -- all receipts, the newest first
  abbrev all_receipts : List Receipt
  all_receipts = receipts_in running.sections

  its_history : IsHistory nodes all_receipts
  its_history = run_history core Good running.sections nodes sent running.run

  -- their records
  abbrev sections : List Record
  sections = records_of all_receipts

  sections_are : section_journal running.sections ≡ sections
  sections_are = receipts_journal running.sections

  sections_ascend : Ascending 1 sections
  sections_ascend = subst (λ l. Ascending 1 l) sections_are (journal_ascends running.sections)

  record_known : (i k : ℕ) (r : Receipt) → IsReceiptAt nodes i k r → IsIn (record_of r) sections
  record_known i k r at = records_have all_receipts r (history_has nodes all_receipts its_history i k r at).0

  -- each is its node's, and bears a number from 1 to how many there are
  pub receipt_within : (i k : ℕ) (r : Receipt) → IsReceiptAt nodes i k r → (r.node ≡ i) × (1 ≤ r.number) × (r.number ≤ receipt_count nodes)
  receipt_within = history_within nodes all_receipts its_history

  -- each of these numbers is borne
  pub receipt_each : (n : ℕ) → 1 ≤ n → n ≤ receipt_count nodes → (i : ℕ) × (k : ℕ) × (r : Receipt) × IsReceiptAt nodes i k r × (r.number ≡ n)
  receipt_each = history_each nodes all_receipts its_history

  -- at one place alone
  pub receipt_once : (i k j l : ℕ) (r s : Receipt) → IsReceiptAt nodes i k r → IsReceiptAt nodes j l s → r.number ≡ s.number → (i ≡ j) × (k ≡ l) × (r ≡ s)
  receipt_once = history_once nodes all_receipts its_history

  -- the records of all receipts: each is one receipt's
  pub section_of : (x : Record) → IsIn x sections → (i : ℕ) × (k : ℕ) × (r : Receipt) × IsReceiptAt nodes i k r × (x ≡ record_of r)
  section_of x h =
      let r = in_records all_receipts x h in
      let held = history_held nodes all_receipts its_history r.0 r.1 in
      (r.0.node, held.0, r.0, held.1, r.2)

  -- their numbers are 1 to how many receipts there are
  pub section_keys : (n : ℕ) → IsThere n sections ↔ ((1 ≤ n) × (n ≤ receipt_count nodes))
  section_keys n = (
    (λ there.
        let x = section_of there.0 there.1 in
        let w = receipt_within x.0 x.1 x.2 x.3 in
        let e : n ≡ x.2.number = sym there.2 ∙ ap (λ (z : Record). z.number) x.4 in
        (omega (arith, w.1), omega (arith, w.2))),
    (λ l. let e = receipt_each n l.0 l.1 in (record_of e.2, record_known e.0 e.1 e.2 e.3, e.4)),
  )

  -- the record that bears n is that of the receipt that bears n
  pub section_at : (i k : ℕ) (r : Receipt) → IsReceiptAt nodes i k r → record_at r.number sections ≡ Some (record_of r)
  section_at i k r at = found_at 1 sections sections_ascend (record_of r) (record_known i k r at)

  -- each read of each receipt has the value that the writes of those before, in order, and its own first writes leave
  pub section_reads : (i k n : ℕ) (r : Receipt) (x : Read) → IsReceiptAt nodes i k r → r.number ≡ suc n → IsIn x r.reads.items → IsSerialRead (writes_to n sections) r.writes.items x
  section_reads i k n r x at e h = reads_ordered all_receipts its_history.ordered r (history_has nodes all_receipts its_history i k r at).0 n e x h

  module _ (journal : JournalState) (join : IsJoinOfNodes nodes journal) where
    -- the join knows of these sections alone
    pub join_of : IsJournalOf sections journal
    join_of = subst (λ l. IsJournalOf l journal) sections_are (whole_of_sections core Good nodes sent running journal join)

    -- and covers the number of each receipt
    pub join_covers : (n : ℕ) → Covers n journal ↔ ((1 ≤ n) × (n ≤ receipt_count nodes))
    join_covers n = (
      (λ h. (section_keys n).0 (covered_there sections journal join_of n h)),
      (λ l.
          let e = receipt_each n l.0 l.1 in
          let o : Owned S = e.3.0 in
          let here = e.3.1 in
          subst (λ m. Covers m journal) e.4
          (within_covers o.member.journal journal (running.run.sound.ordered e.0 o.member (member_at nodes e.0 o here)) (join.above e.0 o here) e.2.number (running.run.recorded e.0 o e.2 here (in_get o.receipts e.1 e.2 e.3.2)))),
    )

    module _ (ascends : Ascending (suc journal.base.upto) journal.records) where
      -- it is the records of all receipts, settled up to its base
      pub join_is : journal ≡ settled journal.base.upto (unsettled sections)
      join_is = whole_is sections journal sections_ascend ascends join_of (λ n there. (join_covers n).1 ((section_keys n).0 there))

      -- its records above the base are those of the receipts
      pub join_at : (i k : ℕ) (r : Receipt) → IsReceiptAt nodes i k r → journal.base.upto < r.number → record_at r.number journal.records ≡ Some (record_of r)
      join_at i k r at past =
          found_at (suc journal.base.upto) journal.records ascends (record_of r)
          (subst (λ (j : JournalState). IsIn (record_of r) j.records) (sym join_is) (above_has journal.base.upto sections (record_of r) (record_known i k r at) past))

      -- its registers are what the writes of all receipts, in order, leave
      pub join_shows : (count : ℕ) → count ≤ 32 → AreApplied (writes_to (receipt_count nodes) sections) (registers_in count journal)
      join_shows count few =
          subst (λ cells. AreApplied (writes_to (receipt_count nodes) sections) cells) (sym (whole_registers count sections journal few sections_ascend join_is))
          (gapless_view count (receipt_count nodes) sections sections_ascend (λ n low high. (section_keys n).1 (low, high))
          (greatest_below (λ (x : Record). x.number) sections (receipt_count nodes) (λ i x at. ((section_keys x.number).0 (x, in_get sections i x at, refl)).1)))

      -- altogether
      pub join_account : IsAccount nodes sections journal
      join_account = record {
        within = receipt_within;
        each = receipt_each;
        once = receipt_once;
        ascends = history_ascends nodes all_receipts its_history;
        ordered = sections_ascend;
        keys = section_keys;
        records = section_at;
        whole = join_is;
        covers = join_covers;
        kept = join_at;
        reads = section_reads;
        shows = join_shows;
      }
