-- What the promise says of a cluster, from what every cluster keeps.
use Rattle.std.proofs.Common.{ℕ, ◌≡◌, ◌↔◌, List, [], Some, slice_get, sym, subst}
use Rattle.mx_stamps.specs.Lists.{IsIn}
use Rattle.mx_stamps.proofs.Lists.{in_get}
use Rattle.mx_journal.specs.Records.{Ascending}
use Rattle.mx_journal.specs.Settled.{DoAgree}
use Rattle.mx_nodelaws.specs.World.{World}
use Rattle.mx_nodelaws.specs.Core.{Core}
use Rattle.mx_nodelaws.specs.Laws.{KeepsGood}
use Rattle.mx_member.specs.Journals.{IsJournalOf}
use Rattle.mx_member.specs.declared.parcel.Parcel.{Parcel}
use Rattle.mx_member.specs.Member.{MemberState}
use Rattle.mx_member.specs.Steps.{IsTakeable}
use Rattle.mx_trace.specs.Serial.{AllClosed, IsInSection}
use Rattle.mx_member.specs.World.{IsMember, core_part}
use Rattle.mx_member.specs.declared.acts.Act.TheVariants as act
use Rattle.mx_member.proofs.ActsKept.{doable}
use Rattle.mx_member.proofs.Consequences.{journals_agree, member_shows}
use Rattle.mx_member.proofs.CorePart.{get_map}
use Rattle.mx_member.proofs.Histories.{alternate_if_fit, numbered_if_fit}
use Rattle.mx_member.proofs.Inside.{in_section, nobody_in, section_in}
use Rattle.mx_member.proofs.SectionLists.{journal_ascends}
use Rattle.mx_trace.specs.declared.outcome.Entry.{Entry}
use Rattle.mx_network.specs.Kept.{IsKept}
use Rattle.mx_trace.specs.Trace.{IsSerial, ShowsInOrder, journal_of, sections, IsExclusive, IsNumbered, marks}
use Rattle.mx_network.specs.Step.{AreTakeable, ClusterState, IsInsideAt, IsInsideWith}
use Rattle.mx_network.proofs.KeptSound.{kept_sound}

pub exclusive : (trace : List Entry) → IsSerial trace → IsExclusive trace
exclusive trace serial = alternate_if_fit (marks trace) serial

pub numbered : (trace : List Entry) → IsSerial trace → IsNumbered trace
numbered trace serial = numbered_if_fit [] (marks trace) serial

pub journal_ordered : (trace : List Entry) → Ascending 1 (journal_of trace)
journal_ordered trace = journal_ascends (sections trace)

module _ {H S M : Type 0} (core : Core H S M) (IsShape : H → Type 0) (Good : World S M → Type 0) (laws : KeepsGood core IsShape Good) (g : ClusterState S M) (kept : IsKept core Good g) where
  -- two nodes that are inside are one
  pub one_alone : (i j : ℕ) → IsInsideAt core g i → IsInsideAt core g j → j ≡ i
  one_alone i j a b =
      let state : MemberState S → S = λ m. m.core in
      laws.one_inside (core_part g.members g.sent) j i b.0.core a.0.core (kept_sound core Good g kept).good
      (get_map state g.members j b.0 b.1) (get_map state g.members i a.0 a.1) b.2 a.2

module _ {H S M : Type 0} (core : Core H S M) (Good : World S M → Type 0) (g : ClusterState S M) (kept : IsKept core Good g) where
  -- any two journals agree
  pub agreed : (i j : ℕ) (m k : MemberState S) → IsMember g.members i m → IsMember g.members j k → DoAgree m.journal k.journal
  agreed = journals_agree core Good (sections g.trace) g.members g.sent (kept_sound core Good g kept)

  -- each journal knows of the section journal alone
  pub of_sections : (i : ℕ) (m : MemberState S) → IsMember g.members i m → IsJournalOf (journal_of g.trace) m.journal
  of_sections = (kept_sound core Good g kept).journals

  -- a parcel that was sent can be taken by the member to which it was sent
  pub takeable : AreTakeable g
  takeable from to parcel m was at = doable core Good (sections g.trace) g.members g.sent to (act.Deliver from parcel) m (kept_sound core Good g kept) at was

  -- so can the member at its place
  pub taken_at : (k from to i : ℕ) (parcel : Parcel M) (m : MemberState S) (sent : List (ℕ × ℕ × Parcel M)) → sent ≡ g.sent → slice_get sent k ≡ Some (from, to, parcel) → i ≡ to → slice_get g.members i ≡ Some m → IsTakeable from parcel m
  taken_at k from to i parcel m sent same was place at =
      takeable from to parcel m (subst (λ (l : List (ℕ × ℕ × Parcel M)). IsIn (from, to, parcel) l) same (in_get sent k (from, to, parcel) was))
      (subst (λ j. slice_get g.members j ≡ Some m) place at)

  -- said of the trace that is handed out
  pub journals_of : (trace : List Entry) → trace ≡ g.trace → (i : ℕ) (m : MemberState S) → IsMember g.members i m → IsJournalOf (journal_of trace) m.journal
  journals_of trace is i m at = subst (λ (t : List Entry). IsJournalOf (journal_of t) m.journal) (sym is) (of_sections i m at)

  -- a journal without gaps shows the writes of the first sections, in order of entry
  pub shows_in_order : (i : ℕ) (m : MemberState S) → IsMember g.members i m → ShowsInOrder g.trace m.journal
  shows_in_order i m at k count few all top = member_shows core Good (sections g.trace) g.members g.sent (kept_sound core Good g kept) i k count m at few all top

  -- a node is inside exactly in the newest section, while that is open
  pub inside_is : (trace : List Entry) → trace ≡ g.trace → (i n : ℕ) → IsInsideWith core g i n ↔ IsInSection i n (sections trace)
  inside_is trace is i n =
      subst (λ (t : List Entry). IsInsideWith core g i n ↔ IsInSection i n (sections t)) (sym is) (
        (λ h. in_section core Good (sections g.trace) g.members g.sent (kept_sound core Good g kept) i n h.0 h.1 h.2),
        (λ h. section_in core Good (sections g.trace) g.members g.sent (kept_sound core Good g kept) i n h),
      )

  -- nobody is inside exactly where all sections were left
  pub nobody_is : (trace : List Entry) → trace ≡ g.trace → ((i : ℕ) → IsInsideAt core g i → ⊥) ↔ AllClosed (sections trace)
  nobody_is trace is =
      subst (λ (t : List Entry). ((i : ℕ) → IsInsideAt core g i → ⊥) ↔ AllClosed (sections t)) (sym is) (
        (λ none. (kept_sound core Good g kept).nobody (λ i m at inside. none i (m, at, inside))),
        (λ closed i h. nobody_in core Good (sections g.trace) g.members g.sent (kept_sound core Good g kept) closed i h.0 h.1 h.2),
      )
