-- Stations whose seats are one: their journals agree, and where all are there what is gathered is one serial order.
use Rattle.std.proofs.Common.{◌≡◌, ◌↔◌, inl, inr, ℕ, zero, suc, ◌<◌, ◌≤◌, List, [], ◌∷◌, Some, map, length, take, slice_get, refl, sym, ap, ◌∙◌, subst, arith}
use Rattle.std.proofs.lemmas.List.Sorted.{length_permutation}
use Rattle.std.proofs.lemmas.Option.{same_Some}
use mathlib.Core.Option.{some, some-injective, some-ne-none}
use lib.ListN.{get_elem?}
use Rattle.mx_stamps.specs.Lists.{IsIn}
use Rattle.mx_stamps.proofs.Lists.{in_first, in_get, in_left, in_right, in_append, none_is_no_some}
use Rattle.mx_journal.specs.declared.records.Record.{Record}
use Rattle.mx_journal.specs.declared.receipts.Receipt.{Receipt}
use Rattle.mx_journal.specs.Drafted.{record_of}
use Rattle.mx_journal.specs.Settled.{Covers, IsWithin, JournalState, settled, unsettled}
use Rattle.mx_journal.proofs.Maps.{found_in, same_members}
use Rattle.mx_registers.specs.Based.{registers_in}
use Rattle.mx_registers.specs.Registers.{AreApplied, writes_to}
use Rattle.mx_nodelaws.specs.World.{World}
use Rattle.mx_nodelaws.specs.Core.{Core}
use Rattle.mx_member.specs.declared.parcel.Parcel.{Parcel}
use Rattle.mx_member.specs.Member.{MemberState}
use Rattle.mx_member.specs.Receipts.{receipts_in, records_of}
use Rattle.mx_member.specs.Running.{IsAccount, IsJoinOfNodes, IsNode, IsReceiptAt, Owned, receipt_count}
use Rattle.mx_member.proofs.CorePart.{get_map}
use Rattle.mx_member.proofs.Joining.{joins_agree}
use Rattle.mx_member.proofs.OwnReceipts.{place_in}
use Rattle.mx_trace.specs.Serial.{IsSerialRead}
use Rattle.mx_member.proofs.RunningTells.{join_account, section_of}
use Rattle.mx_stations.specs.Entries.{Node, owned_of}
use Rattle.mx_stations.specs.Posts.{Post}
use Rattle.mx_stations.specs.Running.{sent_of}
use Rattle.mx_stations.specs.Gathered.{Disagree, IsGathered, IsTogether, IsWhole, me_of, nodes_in, owned_in, receipts_of}
use Rattle.mx_stations.specs.Together.{RunTogether}
use Rattle.mx_stations.proofs.Acting.{node_at}
use Rattle.mx_stations.proofs.Numbers.{HasEach, in_first_order, in_map, in_other_order, of_map, records_ascend, sorted_in_turn}
use Rattle.mx_stations.proofs.Places.{as_slice_at, one_at, within}
use Rattle.mx_stations.proofs.Totals.{receipts_counted, receipts_totalled, same_total}

module _ {A : Type 0} where
  in_place : (l : List A) (k : ℕ) (x : A) → get_elem? l k ≡ some x → IsIn x l
  in_place [] k x at = absurd (some-ne-none x (sym at))
  in_place (y ∷ l) zero x at = inl (sym (some-injective y x at))
  in_place (y ∷ l) (suc k) x at = inr (in_place l k x at)

  place_of : (l : List A) (x : A) → IsIn x l → (k : ℕ) × (get_elem? l k ≡ some x)
  place_of [] x h = absurd h
  place_of (y ∷ l) x (inl e) = (0, ap some (sym e))
  place_of (y ∷ l) x (inr h) = let r = place_of l x h in (suc r.0, r.1)

module _ {T P : Type 0} where
  -- a station's receipts are among all
  pub has_receipt : (posts : List (Post T P)) (j : ℕ) (s : Post T P) (r : Receipt) → get_elem? posts j ≡ some s → IsIn r s.me.receipts → IsIn r (receipts_of posts)
  has_receipt [] j s r at h = absurd (some-ne-none s (sym at))
  has_receipt (t ∷ posts) zero s r at h = in_left r t.me.receipts (receipts_of posts) (subst (λ (z : Post T P). IsIn r z.me.receipts) (sym (some-injective t s at)) h)
  has_receipt (t ∷ posts) (suc j) s r at h = in_right r t.me.receipts (receipts_of posts) (has_receipt posts j s r at h)

  -- and there are no others
  pub of_station : (posts : List (Post T P)) (r : Receipt) → IsIn r (receipts_of posts) → (j : ℕ) × (s : Post T P) × (get_elem? posts j ≡ some s) × IsIn r s.me.receipts
  of_station [] r h = absurd h
  of_station (t ∷ posts) r h = elim (in_append r t.me.receipts (receipts_of posts) h) [
    | inl a ↦ (0, t, refl, a)
    | inr b ↦ let s = of_station posts r b in (suc s.0, s.1, s.2, s.3)
  ]

entry_of : {S M : Type 0} (world : List (Node S M)) (i : ℕ) (o : Owned S) → IsNode (map owned_of world) i o → (e : Node S M) × (get_elem? world i ≡ some e) × (owned_of e ≡ o)
entry_of [] i o at = absurd (none_is_no_some o at)
entry_of (e ∷ world) zero o at = (e, refl, same_Some (owned_of e) o at)
entry_of (e ∷ world) (suc i) o at = entry_of world i o at

module _ {H S M : Type 0} (core : Core H S M) (Good : World S M → Type 0) (posts : List (Post (MemberState S) (Parcel M))) (known : RunTogether core Good (nodes_in posts) (map me_of posts)) where
  abbrev nodes : List (Owned S)
  nodes = map owned_of known.world

  in_view : (j : ℕ) (s : Post (MemberState S) (Parcel M)) → get_elem? posts j ≡ some s → IsIn s.me (map me_of posts)
  in_view j s at = in_map me_of posts s (in_place posts j s at)

  -- a station's node is as the station shows it
  at_seat : (j : ℕ) (s : Post (MemberState S) (Parcel M)) → get_elem? posts j ≡ some s → IsNode nodes s.me.node (owned_of s.me)
  at_seat j s at = node_at core Good known.world s.me.node s.me (known.stands s.me (in_view j s at))

  seat_of : (o : Owned S) → IsIn o (owned_in posts) → (i : ℕ) × IsNode nodes i o
  seat_of o h =
      let s = of_map (λ (p : Post (MemberState S) (Parcel M)). owned_of p.me) posts o h in
      let k = place_of posts s.0 s.1 in
      (s.0.me.node, subst (λ (z : Owned S). IsNode nodes s.0.me.node z) (sym s.2) (at_seat k.0 s.0 k.1))

  -- so no two journals conflict
  pub no_disagreement : Disagree (owned_in posts) → ⊥
  no_disagreement (k, o, all, at, join, differ) =
      let seat = seat_of o (in_get (owned_in posts) k o at) in
      differ (joins_agree core Good nodes (sent_of known.world) known.shown.runs (take k (owned_in posts)) seat.0 o all
      (λ i p here. seat_of p (in_first k (owned_in posts) p (in_get (take k (owned_in posts)) i p here))) join seat.1)

  module _ (whole : IsWhole posts) where
    -- the station of each node
    station_at : (i : ℕ) (e : Node S M) → get_elem? known.world i ≡ some e → (j : ℕ) × (s : Post (MemberState S) (Parcel M)) × (get_elem? posts j ≡ some s) × (s.me ≡ e)
    station_at i e at =
        let h = whole i (subst (λ (n : ℕ). i < n) known.long (within known.world i e at)) in
        (h.0, h.1, h.2, one_at known.world i h.1.me e (ap (λ (n : ℕ). get_elem? known.world n) (sym h.3) ∙ known.stands h.1.me (in_view h.0 h.1 h.2)) at)

    station_of : (i : ℕ) (o : Owned S) → IsNode nodes i o → (j : ℕ) × (s : Post (MemberState S) (Parcel M)) × (get_elem? posts j ≡ some s) × (owned_of s.me ≡ o)
    station_of i o at =
        let e = entry_of known.world i o at in
        let s = station_at i e.0 e.1 in
        (s.0, s.1, s.2, ap owned_of s.3 ∙ e.2)

    module _ (journal : JournalState) (receipts : List Receipt) (together : IsTogether posts journal receipts) where
      joined : IsJoinOfNodes nodes journal
      joined = record {
        above = λ i o at.
            let s = station_of i o at in
            subst (λ (z : Owned S). IsWithin z.member.journal journal) s.3
            (together.join.above s.0 (owned_of s.1.me) (get_map (λ (p : Post (MemberState S) (Parcel M)). owned_of p.me) posts s.0 s.1 (as_slice_at posts s.0 s.1 s.2)));
        base = elim together.join.base [
          | inl none ↦ inl none
          | inr w ↦ (let seat = seat_of w.1 (in_get (owned_in posts) w.0 w.1 w.2) in inr (seat.0, w.1, seat.1, w.3))
        ];
        records = λ x h.
            let w = together.join.records x h in
            let seat = seat_of w.1 (in_get (owned_in posts) w.0 w.1 w.2) in
            (seat.0, w.1, seat.1, w.3);
      }

      -- the records of all receipts that the nodes hold
      abbrev sections : List Record
      sections = records_of (receipts_in known.shown.runs.sections)

      account : IsAccount nodes sections journal
      account = join_account core Good nodes (sent_of known.world) known.shown.runs journal joined together.ordered

      -- as many receipts as all nodes hold
      size : length receipts ≡ receipt_count nodes
      size =
          length_permutation (receipts_of posts) receipts together.each
          ∙ receipts_counted posts
          ∙ same_total (λ (e : Node S M). length e.receipts) known.world (map me_of posts) known.numbered known.stands known.once
          (λ i e at. let s = station_at i e at in subst (λ (z : Node S M). IsIn z (map me_of posts)) s.3 (in_view s.0 s.1 s.2))
          ∙ sym (receipts_totalled known.world)

      -- each of them a node holds
      held : (r : Receipt) → IsIn r receipts → (i : ℕ) × (k : ℕ) × IsReceiptAt nodes i k r
      held r h =
          let s = of_station posts r (in_first_order (receipts_of posts) receipts r together.each h) in
          let k = place_in s.1.me.receipts r s.3 in
          (s.1.me.node, k.0, (owned_of s.1.me, at_seat s.0 s.1 s.2, k.1))

      -- and each that a node holds is there
      has : (i k : ℕ) (r : Receipt) → IsReceiptAt nodes i k r → IsIn r receipts
      has i k r (o, here, at) =
          let s = station_of i o here in
          in_other_order (receipts_of posts) receipts r together.each
          (has_receipt posts s.0 s.1 r s.2 (in_get s.1.me.receipts k r (ap (λ (z : Owned S). slice_get z.receipts k) s.3 ∙ at)))

      has_each : HasEach (λ (r : Receipt). r.number) 0 (length receipts) receipts
      has_each n above below =
          let e = account.each n (omega arith) (let same = size in omega arith) in
          (e.2, has e.0 e.1 e.2 e.3, e.4)

      numbered : (k : ℕ) (r : Receipt) → slice_get receipts k ≡ Some r → r.number ≡ suc k
      numbered = sorted_in_turn (λ (r : Receipt). r.number) receipts together.sorted has_each

      -- these are the receipts' records, in order
      records : sections ≡ map record_of receipts
      records =
          same_members 1 1 sections (map record_of receipts) account.ordered (records_ascend receipts numbered)
          (λ x h.
          let r = section_of core Good nodes (sent_of known.world) known.shown.runs x h in
          subst (λ (z : Record). IsIn z (map record_of receipts)) (sym r.4) (in_map record_of receipts r.2 (has r.0 r.1 r.2 r.3)))
          (λ x h.
          let r = of_map record_of receipts x h in
          let p = held r.0 r.1 in
          subst (λ (z : Record). IsIn z sections) (sym r.2) (found_in r.0.number sections (record_of r.0) (account.records p.0 p.1 r.0 p.2)).0)

      pub gathered : IsGathered posts journal receipts
      gathered = record {
        each = together.each;
        own = λ j s r at h. let k = place_in s.me.receipts r h in (account.within s.me.node k.0 r (owned_of s.me, at_seat j s at, k.1)).0;
        ascends = λ j k l s r t at here there less. account.ascends s.me.node k l r t (owned_of s.me, at_seat j s at, here) (owned_of s.me, at_seat j s at, there) less;
        numbered = numbered;
        records = subst (λ (l : List Record). journal ≡ settled journal.base.upto (unsettled l)) records account.whole;
        covers = λ n. subst (λ (m : ℕ). Covers n journal ↔ ((1 ≤ n) × (n ≤ m))) (sym size) (account.covers n);
        reads = λ k r x at h.
            let p = held r (in_get receipts k r at) in
            subst (λ (l : List Record). IsSerialRead (writes_to k l) r.writes.items x) records (account.reads p.0 p.1 k r x p.2 (numbered k r at) h);
        shows = λ count few.
            subst (λ (z : ℕ × List Record). AreApplied (writes_to z.0 z.1) (registers_in count journal)) (λ j. (sym size j, records j)) (account.shows count few);
      }
