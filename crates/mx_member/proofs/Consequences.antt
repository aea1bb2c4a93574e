-- What a sound world says of its members: who is inside, and what their journals show.
use Rattle.std.proofs.Common.{ℕ, ◌<◌, ◌≤◌, ◌≡◌, List, Err, subst, arith}
use Rattle.mx_nodelaws.specs.World.{World}
use Rattle.mx_nodelaws.specs.Core.{Core, IsInside}
use Rattle.mx_nodelaws.specs.Laws.{KeepsGood}
use Rattle.mx_nodelaws.specs.declared.phase.Phase.TheVariants.{Inside}
use Rattle.mx_journal.specs.Settled.{DoAgree, IsCovered, top_covered}
use Rattle.mx_registers.specs.Based.{registers_in}
use Rattle.mx_registers.specs.Registers.{AreApplied}
use Rattle.mx_member.specs.declared.parcel.Parcel.{Parcel}
use Rattle.mx_member.specs.declared.faults.ReadFault.TheVariants as read
use Rattle.mx_member.specs.Journals.{IsJournalOf}
use Rattle.mx_member.specs.Member.{MemberState}
use Rattle.mx_member.specs.Steps.{read_of}
use Rattle.mx_trace.specs.Sections.{Section, oldest, section_journal, writes_in}
use Rattle.mx_member.specs.World.{IsMember, IsSound, core_part}
use Rattle.mx_member.proofs.Cases.{Cause, reads}
use Rattle.mx_member.proofs.CorePart.{get_map}
use Rattle.mx_member.proofs.EntrySteps.{drafted, journal_rest}
use Rattle.mx_member.proofs.OfSections.{journals_of_one}
use Rattle.mx_member.proofs.SectionLists.{base_high, journal_ascends}
use Rattle.mx_member.proofs.SectionWrites.{covered_shows}

module _ {H S M : Type 0} (core : Core H S M) (IsShape : H → Type 0) (Good : World S M → Type 0) (laws : KeepsGood core IsShape Good) where
  -- no two members are inside together
  pub one_member_inside : (ss : List Section) (members : List (MemberState S)) (sent : List (ℕ × ℕ × Parcel M)) (i j : ℕ) (m k : MemberState S) →
      IsSound core Good ss members sent → IsMember members i m → IsMember members j k → IsInside core m.core → IsInside core k.core → i ≡ j
  one_member_inside ss members sent i j m k sound a b =
      laws.one_inside (core_part members sent) i j m.core k.core sound.good (get_map (λ (x : MemberState S). x.core) members i m a) (get_map (λ (x : MemberState S). x.core) members j k b)

module _ {H S M : Type 0} (core : Core H S M) (Good : World S M → Type 0) (ss : List Section) (members : List (MemberState S)) (sent : List (ℕ × ℕ × Parcel M)) (sound : IsSound core Good ss members sent) where
  -- no base reaches the section that its node is inside
  pub never_settled : (i n : ℕ) (m : MemberState S) → IsMember members i m → core.phase m.core ≡ Inside n → m.journal.base.upto < n
  never_settled i n m at h =
      let d = drafted m n ss (sound.inside i n m at h) in
      let high = base_high d.0 m.journal (subst (λ l. IsJournalOf l m.journal) (journal_rest m ss d.0 d.1) (sound.journals i m at)) in
      omega (arith, d.2)

  -- so no read is refused since its section is settled
  pub read_unsettled : (i register k : ℕ) (m : MemberState S) → IsMember members i m → (read_of core register m).answer ≡ Err (read.Settled k) → ⊥
  read_unsettled i register k m at =
      reads core m register (core.phase m.core) (λ q. q.answer ≡ Err (read.Settled k) → ⊥)
      (λ fault cause e.
      let is : fault ≡ read.Settled k = cc in
      let c = subst (λ f. Cause core m (core.phase m.core) f) is cause in
      omega (arith, never_settled i c.0 m at c.1, c.2))
      (λ n is there all e. let bad : ⊥ = cc in bad)

  -- any two members' journals agree
  pub journals_agree : (i j : ℕ) (m k : MemberState S) → IsMember members i m → IsMember members j k → DoAgree m.journal k.journal
  journals_agree i j m k a b = journals_of_one (section_journal ss) m.journal k.journal (journal_ascends ss) (sound.journals i m a) (sound.journals j k b)

  -- a member's journal without gaps shows the writes of the first k sections, applied in order of entry
  pub member_shows : (i k count : ℕ) (m : MemberState S) → IsMember members i m → count ≤ 32 → IsCovered k m.journal → top_covered m.journal ≤ k → AreApplied (writes_in (oldest k ss)) (registers_in count m.journal)
  member_shows i k count m at few all top = covered_shows k count ss m.journal few (sound.ordered i m at) (sound.journals i m at) all top
