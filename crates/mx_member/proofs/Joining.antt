-- The join of all nodes' journals, made of one after another.
use Rattle.std.proofs.Common.{ℕ, ◌+◌, ◌≡◌, ◌⊎◌, inl, inr, List, [], ◌∷◌, ◌++◌, length, take, refl, sym, ◌∙◌, ap, subst, arith}
use Rattle.mx_stamps.specs.Lists.{IsIn}
use Rattle.mx_stamps.proofs.Lists.{get_append_left, get_at_end, get_snoc, none_is_no_some, take_at}
use Rattle.mx_journal.specs.declared.records.Record.{Record}
use Rattle.mx_journal.specs.Bases.{BaseState}
use Rattle.mx_journal.specs.Records.{above, with_records}
use Rattle.mx_journal.specs.Settled.{DoAgree, IsWithin, JournalState, joined, unsettled}
use Rattle.mx_journal.proofs.Found.{in_above}
use Rattle.mx_journal.proofs.Maps.{in_with_records}
use Rattle.mx_merge.proofs.Joins.{with_base_case}
use Rattle.mx_merge.specs.Join.{IsLeastJournal}
use Rattle.mx_nodelaws.specs.World.{World}
use Rattle.mx_nodelaws.specs.Core.{Core}
use Rattle.mx_member.specs.declared.parcel.Parcel.{Parcel}
use Rattle.mx_member.specs.Journals.{IsBaseOf, IsJournalOf}
use Rattle.mx_member.specs.Running.{IsJoinOfNodes, IsNode, IsRunning, Owned}
use Rattle.mx_trace.specs.Sections.{section_journal}
use Rattle.mx_member.proofs.OfSections.{journals_of_one, origin_of}
use Rattle.mx_member.proofs.Running.{member_at}
use Rattle.mx_member.proofs.SectionLists.{journal_ascends}

-- above a journal that is above another
pub within_within : (a b c : JournalState) → IsWithin a b → IsWithin b c → IsWithin a c
within_within a b c ab bc =
    let l = ab.upto in
    let m = bc.upto in
    record {
      upto = omega arith;
      base = λ e. ab.base (omega arith) ∙ bc.base (omega arith);
      records = λ x h past. bc.records x (ab.records x h (omega arith)) past;
    }

-- the base of a join is one of both, and so is each record
joined_base : (a b : JournalState) → ((joined b a).base ≡ a.base) ⊎ ((joined b a).base ≡ b.base)
joined_base a b =
    with_base_case (λ j. (j.base ≡ a.base) ⊎ (j.base ≡ b.base)) b.base (record { base = a.base; records = with_records (above a.base.upto b.records) a.records })
    (λ _. inr refl) (λ _. inl refl)

joined_records : (a b : JournalState) (x : Record) → IsIn x (joined b a).records → IsIn x a.records ⊎ IsIn x b.records
joined_records a b x was =
    with_base_case (λ j. IsIn x j.records → IsIn x a.records ⊎ IsIn x b.records) b.base (record { base = a.base; records = both })
    (λ _ h. either (in_above b.base.upto both x h)) (λ _ h. either h) was
  where
    both : List Record
    both = with_records (above a.base.upto b.records) a.records

    either : IsIn x both → IsIn x a.records ⊎ IsIn x b.records
    either h = elim (in_with_records (above a.base.upto b.records) a.records x h) [ inl k ↦ inl k | inr k ↦ inr (in_above a.base.upto b.records x k) ]

-- of no nodes
pub join_nothing : {S : Type 0} → IsJoinOfNodes {S = S} [] (unsettled [])
join_nothing {S} = record { above = λ i o at. absurd (none_is_no_some o at); base = inl refl; records = λ x h. absurd h }

-- of one node more
pub join_more : {S : Type 0} (nodes : List (Owned S)) (o : Owned S) (all new : JournalState) → IsJoinOfNodes nodes all → new ≡ joined o.member.journal all → IsLeastJournal all o.member.journal new → IsJoinOfNodes (nodes ++ o ∷ []) new
join_more {S} nodes o all new join made bound = record {
  above = λ i p at. elim (get_snoc nodes o i p at) [
    | inl old ↦ within_within p.member.journal all new (join.above i p old) bound.left
    | inr last ↦ subst (λ (q : Owned S). IsWithin q.member.journal new) (sym last.1) bound.right
  ];
  base = elim (joined_base all o.member.journal) [
    | inl first ↦ elim join.base [
      | inl none ↦ inl (ap (λ (j : JournalState). j.base) made ∙ first ∙ none)
      | inr w ↦ inr (w.0, w.1, get_append_left nodes (o ∷ []) w.0 w.1 w.2, ap (λ (j : JournalState). j.base) made ∙ first ∙ w.3)
    ]
    | inr second ↦ inr (length nodes, o, get_at_end nodes o, ap (λ (j : JournalState). j.base) made ∙ second)
  ];
  records = λ x h. elim (joined_records all o.member.journal x (subst (λ (j : JournalState). IsIn x j.records) made h)) [
    | inl a ↦ (let w = join.records x a in (w.0, w.1, get_append_left nodes (o ∷ []) w.0 w.1 w.2, w.3))
    | inr b ↦ (length nodes, o, get_at_end nodes o, b)
  ];
}

-- of the first k + 1 nodes
pub join_next : {S : Type 0} (nodes : List (Owned S)) (k : ℕ) (o : Owned S) (all new : JournalState) → IsNode nodes k o → IsJoinOfNodes (take k nodes) all → new ≡ joined o.member.journal all → IsLeastJournal all o.member.journal new → IsJoinOfNodes (take (k + 1) nodes) new
join_next nodes k o all new at join made bound = subst (λ ns. IsJoinOfNodes ns new) (sym (take_at nodes k o at)) (join_more (take k nodes) o all new join made bound)

module _ {H S M : Type 0} (core : Core H S M) (Good : World S M → Type 0) (nodes : List (Owned S)) (sent : List (ℕ × ℕ × Parcel M)) (running : IsRunning core Good nodes sent) where
  -- the sections that were left
  abbrev its_sections : List Record
  its_sections = section_journal running.sections

  node_of : (i : ℕ) (o : Owned S) → IsNode nodes i o → IsJournalOf its_sections o.member.journal
  node_of i o at = running.run.sound.journals i o.member (member_at nodes i o at)

  -- the join of some nodes knows of these sections alone
  join_of_sections : (some : List (Owned S)) (all : JournalState) → ((j : ℕ) (p : Owned S) → IsNode some j p → (l : ℕ) × IsNode nodes l p) → IsJoinOfNodes some all → IsJournalOf its_sections all
  join_of_sections some all within join = record {
    base = elim join.base [
      | inl none ↦ subst (λ (b : BaseState). IsBaseOf its_sections b) (sym none) (origin_of its_sections (journal_ascends running.sections))
      | inr w ↦ (
          let l = within w.0 w.1 w.2 in
          subst (λ (b : BaseState). IsBaseOf its_sections b) (sym w.3) (node_of l.0 w.1 l.1).base)
    ];
    records = λ x h. let w = join.records x h in let l = within w.0 w.1 w.2 in (node_of l.0 w.1 l.1).records x w.3;
  }

  -- and agrees with each node's journal
  pub joins_agree : (some : List (Owned S)) (i : ℕ) (o : Owned S) (all : JournalState) → ((j : ℕ) (p : Owned S) → IsNode some j p → (l : ℕ) × IsNode nodes l p) → IsJoinOfNodes some all → IsNode nodes i o → DoAgree all o.member.journal
  joins_agree some i o all within join at =
      journals_of_one its_sections all o.member.journal (journal_ascends running.sections) (join_of_sections some all within join) (node_of i o at)

  -- the join of all
  pub whole_of_sections : (all : JournalState) → IsJoinOfNodes nodes all → IsJournalOf its_sections all
  whole_of_sections all join = join_of_sections nodes all (λ j p here. (j, here)) join
