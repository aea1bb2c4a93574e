-- A moment of a sound world at which one member acts, and what the world after it has to show.
use Rattle.std.proofs.Common.{ℕ, suc, ◌<◌, ◌≤◌, ◌≡◌, ◌≢◌, inl, inr, List, Some, length, map, slice_get, slice_set, sym, ◌∙◌, ap, subst}
use Rattle.std.proofs.lemmas.Option.{slice_get_within}
use Rattle.mx_stamps.specs.Lists.{IsIn}
use Rattle.mx_stamps.proofs.Lists.{get_after, in_append, length_set}
use Rattle.mx_nodelaws.specs.World.{World, sent_by}
use Rattle.mx_nodelaws.specs.Core.{Core, IsInside}
use Rattle.mx_nodelaws.specs.Laws.{greatest_mine}
use Rattle.mx_nodelaws.specs.declared.phase.Phase.TheVariants.{Inside}
use Rattle.mx_nodelaws.proofs.Worlds.{in_sent_by}
use Rattle.mx_journal.specs.Agreement.{IsSubmap}
use Rattle.mx_journal.specs.Records.{Ascending}
use Rattle.mx_member.specs.declared.parcel.Parcel.{Parcel}
use Rattle.mx_member.specs.Journals.{IsJournalOf, IsParcelOf}
use Rattle.mx_member.specs.Member.{MemberState}
use Rattle.mx_member.specs.Acts.{Grows}
use Rattle.mx_trace.specs.Sections.{Section, section_journal}
use Rattle.mx_trace.specs.Serial.{AllClosed, ReadSerially}
use Rattle.mx_member.specs.World.{IsDraftOf, IsMember, IsSound, core_part}
use Rattle.mx_member.proofs.CorePart.{get_map}
use Rattle.mx_member.proofs.OfSections.{journal_stays, parcel_stays}
use Rattle.mx_member.proofs.SectionLists.{journal_ascends}

-- a sound world, and the member of it that acts
pub record Moment {H S M : Type 0} (core : Core H S M) (Good : World S M → Type 0) : Type 0 where
  pub sections : List Section
  pub members : List (MemberState S)
  pub sent : List (ℕ × ℕ × Parcel M)
  pub node : ℕ
  pub member : MemberState S
  pub sound : IsSound core Good sections members sent
  pub here : IsMember members node member

-- the members after the act
abbrev pub moved_in : {H S M : Type 0} {core : Core H S M} {Good : World S M → Type 0} → Moment core Good → MemberState S → List (MemberState S)
moved_in w moved = slice_set w.members w.node moved

-- the core part of its world
abbrev pub part_of : {H S M : Type 0} {core : Core H S M} {Good : World S M → Type 0} → Moment core Good → World S M
part_of w = core_part w.members w.sent

-- the core of the member that acts
pub core_here : {H S M : Type 0} {core : Core H S M} {Good : World S M → Type 0} (w : Moment core Good) → slice_get (map (λ (m : MemberState S). m.core) w.members) w.node ≡ Some w.member.core
core_here {S} w = get_map (λ (m : MemberState S). m.core) w.members w.node w.member w.here

-- the member sends these, and nothing else
abbrev pub GrowsBy : {H S M : Type 0} {core : Core H S M} {Good : World S M → Type 0} → Moment core Good → List (ℕ × Parcel M) → List (ℕ × ℕ × Parcel M) → Type 0
GrowsBy w letters grown = Grows w.sent w.node letters grown

-- what an act has to show of the sections after it and of the member that it moved
pub record IsSoundStep {H S M : Type 0} {core : Core H S M} {Good : World S M → Type 0} (w : Moment core Good) (after : List Section) (moved : MemberState S) (letters : List (ℕ × Parcel M)) (grown : List (ℕ × ℕ × Parcel M)) : Type 0 where
  pub good : Good (core_part (moved_in w moved) grown)
  pub counted : length after ≡ greatest_mine core (core_part (moved_in w moved) grown)
  pub inside : (n : ℕ) → core.phase moved.core ≡ Inside n → IsDraftOf moved n after
  pub others : (j n : ℕ) (t : MemberState S) → j ≢ w.node → IsMember w.members j t → core.phase t.core ≡ Inside n → IsDraftOf t n after
  pub nobody : ((j : ℕ) (t : MemberState S) → IsMember (moved_in w moved) j t → IsInside core t.core → ⊥) → AllClosed after
  pub serial : ReadSerially after
  pub setting : moved.setting ≡ w.member.setting
  pub journal : IsJournalOf (section_journal after) moved.journal
  pub ordered : Ascending (suc moved.journal.base.upto) moved.journal.records
  -- what was recorded stands
  pub older : IsSubmap (section_journal w.sections) (section_journal after)
  pub sends : (b : ℕ) (p : Parcel M) → IsIn (b, p) letters → (b < length w.members) × IsParcelOf (section_journal after) p

-- such an act leaves a sound world
pub step_sound : {H S M : Type 0} {core : Core H S M} {Good : World S M → Type 0} (w : Moment core Good) (after : List Section) (moved : MemberState S) (letters : List (ℕ × Parcel M)) (grown : List (ℕ × ℕ × Parcel M)) →
    IsSoundStep w after moved letters grown → GrowsBy w letters grown → IsSound core Good after (moved_in w moved) grown
step_sound {S} {M} {core} w after moved letters grown step grows = record {
  good = step.good;
  counted = step.counted;
  inside = λ j n t at p. elim (get_after w.members w.node j w.member moved t w.here at) [
    | inl e ↦ subst (λ x. IsDraftOf x n after) (sym e.1) (step.inside n (subst (λ (x : MemberState S). core.phase x.core ≡ Inside n) e.1 p))
    | inr e ↦ step.others j n t e.0 e.1 p
  ];
  nobody = step.nobody;
  serial = step.serial;
  named = λ j t at. elim (get_after w.members w.node j w.member moved t w.here at) [
    | inl e ↦ ap (λ (x : MemberState S). x.setting.me) e.1 ∙ ap (λ s. s.me) step.setting ∙ w.sound.named w.node w.member w.here ∙ sym e.0
    | inr e ↦ w.sound.named j t e.1
  ];
  known = λ j t at. elim (get_after w.members w.node j w.member moved t w.here at) [
    | inl e ↦ ap (λ (x : MemberState S). x.setting.nodes) e.1 ∙ ap (λ s. s.nodes) step.setting ∙ w.sound.known w.node w.member w.here ∙ sym size
    | inr e ↦ w.sound.known j t e.1 ∙ sym size
  ];
  few = λ j t at. elim (get_after w.members w.node j w.member moved t w.here at) [
    | inl e ↦ subst (λ n. n ≤ 32) (sym (ap (λ (x : MemberState S). x.setting.registers) e.1 ∙ ap (λ s. s.registers) step.setting)) (w.sound.few w.node w.member w.here)
    | inr e ↦ w.sound.few j t e.1
  ];
  journals = λ j t at. elim (get_after w.members w.node j w.member moved t w.here at) [
    | inl e ↦ subst (λ (x : MemberState S). IsJournalOf (section_journal after) x.journal) (sym e.1) step.journal
    | inr e ↦ journal_stays (section_journal w.sections) (section_journal after) (journal_ascends w.sections) (journal_ascends after) step.older t.journal (w.sound.journals j t e.1)
  ];
  ordered = λ j t at. elim (get_after w.members w.node j w.member moved t w.here at) [
    | inl e ↦ subst (λ (x : MemberState S). Ascending (suc x.journal.base.upto) x.journal.records) (sym e.1) step.ordered
    | inr e ↦ w.sound.ordered j t e.1
  ];
  parcels = λ a b p h. elim (in_append (a, b, p) w.sent (sent_by w.node letters) ((grows (a, b, p)).1 h)) [
    | inl k ↦ parcel_stays (section_journal w.sections) (section_journal after) (journal_ascends w.sections) (journal_ascends after) step.older p (w.sound.parcels a b p k)
    | inr k ↦ (step.sends b p (in_sent_by w.node a b p letters k).1).1
  ];
  between = λ a b p h. elim (in_append (a, b, p) w.sent (sent_by w.node letters) ((grows (a, b, p)).1 h)) [
    | inl k ↦ let l = w.sound.between a b p k in (subst (λ n. a < n) (sym size) l.0, subst (λ n. b < n) (sym size) l.1)
    | inr k ↦
        let s = in_sent_by w.node a b p letters k in
        (subst (λ n. a < n) (sym size) (subst (λ j. j < length w.members) (sym s.0) (slice_get_within w.members w.node w.member w.here)), subst (λ n. b < n) (sym size) (step.sends b p s.1).0)
  ];
}
  where
    size : length (moved_in w moved) ≡ length w.members
    size = length_set w.members w.node moved
