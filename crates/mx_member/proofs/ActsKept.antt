-- Each act of one member fits the sections so far, and leaves a sound world of the sections after it.
use Rattle.std.proofs.Common.{ℕ, ◌<◌, List, length, take, slice_set, refl, sym, subst}
use Rattle.mx_stamps.specs.Lists.{IsIn}
use Rattle.mx_nodelaws.specs.World.{World}
use Rattle.mx_nodelaws.specs.Core.{Core, KeepsPhases}
use Rattle.mx_nodelaws.specs.Laws.{KeepsGood}
use Rattle.mx_journal.specs.Settled.{JournalState}
use Rattle.mx_merge.specs.Missing.{gaps_in}
use Rattle.mx_member.specs.declared.acts.Act.{Act}
use Rattle.mx_member.specs.declared.acts.Act.TheVariants as act
use Rattle.mx_member.specs.declared.parcel.Parcel.{Parcel}
use Rattle.mx_member.specs.declared.parcel.Parcel.TheVariants.{Guard, Want, Base, Records}
use Rattle.mx_member.specs.Journals.{IsJournalOf, IsParcelOf}
use Rattle.mx_member.specs.Member.{MemberState}
use Rattle.mx_member.specs.Steps.{IsAcceptable, IsTakeable}
use Rattle.mx_member.specs.Acts.{Arrives, Grows, IsDoable, act_of}
use Rattle.mx_trace.specs.Sections.{Section, after_marks, section_journal}
use Rattle.mx_member.specs.Told.{told}
use Rattle.mx_trace.specs.Serial.{AllFit}
use Rattle.mx_member.specs.World.{IsMember, IsSound}
use Rattle.mx_member.proofs.CallsKept.{Keeps, ask_kept, cancel_kept, enter_kept, leave_kept, read_kept, settle_kept, take_kept, tick_kept, want_kept, write_kept}
use Rattle.mx_member.proofs.DraftSteps.{wake_sound}
use Rattle.mx_member.proofs.Moments.{Moment}
use Rattle.mx_member.proofs.OfSections.{bases_of_one, puttable_of}
use Rattle.mx_member.proofs.SectionLists.{journal_ascends}

module _ {H S M : Type 0} (core : Core H S M) (IsShape : H → Type 0) (Good : World S M → Type 0) (phases : KeepsPhases core) (laws : KeepsGood core IsShape Good) where
  -- what every act of a member tells fits, and it leaves a sound world
  pub act_kept : (ss : List Section) (members : List (MemberState S)) (sent grown : List (ℕ × ℕ × Parcel M)) (i : ℕ) (a : Act M) (m : MemberState S) →
      IsSound core Good ss members sent → IsMember members i m → Arrives (length members) sent i a → Grows sent i (act_of core a m).letters grown →
      AllFit ss (told i a (act_of core a m).answer)
      × IsSound core Good (after_marks ss (told i a (act_of core a m).answer)) (slice_set members i (act_of core a m).state) grown
  act_kept ss members sent grown i a m sound at arrives grows =
      by a arrives grows
    where
      w : Moment core Good
      w = record { sections = ss; members = members; sent = sent; node = i; member = m; sound = sound; here = at }

      by : (a : Act M) → Arrives (length members) sent i a → Grows sent i (act_of core a m).letters grown → Keeps core IsShape Good phases laws w (told i a (act_of core a m).answer) (act_of core a m).state grown
      by act.Ask arrives grows = ask_kept core IsShape Good phases laws w grown grows
      by act.Enter arrives grows = enter_kept core IsShape Good phases laws w grown (core.enter m.core).answer refl grows
      by (act.Read register) arrives grows = read_kept core IsShape Good phases laws w register grown grows
      by (act.Write register value) arrives grows = write_kept core IsShape Good phases laws w register value grown grows
      by act.Leave arrives grows = leave_kept core IsShape Good phases laws w grown grows
      by act.Cancel arrives grows = cancel_kept core IsShape Good phases laws w grown grows
      by (act.Settle k) arrives grows = settle_kept core IsShape Good phases laws w k grown grows
      by act.Tick arrives grows = tick_kept core IsShape Good phases laws w grown grows
      by (act.Want to) arrives grows = want_kept core IsShape Good phases laws w to (take 8 (gaps_in m.setting.limit m.journal)) grown arrives grows
      by (act.Deliver from parcel) arrives grows = take_kept core IsShape Good phases laws w from parcel grown arrives grows
      by act.Restart arrives grows = ((tt, tt), wake_sound core IsShape Good phases laws w grown grows)

-- what a parcel of the sections brings, a journal of them can take
acceptable : {M : Type 0} (ss : List Section) (p : Parcel M) (journal : JournalState) → IsJournalOf (section_journal ss) journal → IsParcelOf (section_journal ss) p → IsAcceptable p journal
acceptable ss (Guard letter) journal of known = tt
acceptable ss (Want ranges) journal of known = tt
acceptable ss (Base base) journal of known = bases_of_one (section_journal ss) journal.base base of.base known
acceptable ss (Records records) journal of known = puttable_of (section_journal ss) records.items journal (journal_ascends ss) of known

-- a parcel that was sent to a member is of no stranger and meets no conflict
taken : {H S M : Type 0} (core : Core H S M) (Good : World S M → Type 0) (ss : List Section) (members : List (MemberState S)) (sent : List (ℕ × ℕ × Parcel M)) (i from : ℕ) (parcel : Parcel M) (m : MemberState S) →
    IsSound core Good ss members sent → IsMember members i m → IsIn (from, i, parcel) sent → IsTakeable from parcel m
taken core Good ss members sent i from parcel m sound at was = (
  subst (λ n. from < n) (sym (sound.known i m at)) (sound.between from i parcel was).0,
  acceptable ss parcel m.journal (sound.journals i m at) (sound.parcels from i parcel was),
)

-- so a member can do whatever arrives
pub doable : {H S M : Type 0} (core : Core H S M) (Good : World S M → Type 0) (ss : List Section) (members : List (MemberState S)) (sent : List (ℕ × ℕ × Parcel M)) (i : ℕ) (a : Act M) (m : MemberState S) →
    IsSound core Good ss members sent → IsMember members i m → Arrives (length members) sent i a → IsDoable a m
doable core Good ss members sent i (act.Deliver from parcel) m sound at arrives = taken core Good ss members sent i from parcel m sound at arrives
doable core Good ss members sent i _ m sound at arrives = tt
