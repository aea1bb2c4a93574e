-- Acts of which no section tells: the core takes a step, or the journal changes and parcels of it are sent.
use Rattle.std.proofs.Common.{ℕ, suc, ◌<◌, ◌≡◌, ◌↔◌, inl, inr, List, [], ◌∷◌, length, refl, sym, ◌∙◌, subst}
use Rattle.std.proofs.lemmas.Option.{same_Some}
use Rattle.mx_stamps.specs.Lists.{IsIn}
use Rattle.mx_stamps.proofs.Lists.{dec_eq, get_set_other, get_set_same}
use Rattle.mx_nodelaws.specs.World.{World, Done, after, sent_by}
use Rattle.mx_nodelaws.specs.Core.{Core, KeepsPhases}
use Rattle.mx_nodelaws.specs.Laws.{KeepsGood}
use Rattle.mx_nodelaws.specs.declared.phase.Phase.TheVariants.{Inside}
use Rattle.mx_journal.specs.Records.{Ascending}
use Rattle.mx_journal.specs.Settled.{JournalState}
use Rattle.mx_member.specs.declared.parcel.Parcel.{Parcel}
use Rattle.mx_member.specs.Journals.{IsJournalOf, IsParcelOf}
use Rattle.mx_member.specs.Member.{MemberState, guarded, with_core, with_journal}
use Rattle.mx_trace.specs.Sections.{Section, section_journal}
use Rattle.mx_member.specs.World.{IsDraftOf, IsMember, IsSound, core_part, draft_of, letters_in}
use Rattle.mx_member.proofs.CorePart.{letters_guarded}
use Rattle.mx_member.proofs.CoreSteps.{core_kept, core_still, counted_same, letters_sent}
use Rattle.mx_member.proofs.Moments.{GrowsBy, Moment, moved_in, step_sound, part_of}

-- only the draft decides what section it is of
pub same_draft : {S : Type 0} (m k : MemberState S) (n : ℕ) (ss : List Section) → draft_of m ≡ draft_of k → IsDraftOf m n ss → IsDraftOf k n ss
same_draft m k n [] e d = d
same_draft m k n (s ∷ ss) e d = (d.0 ∙ e, d.1, d.2)

-- an act of which no section tells
pub record IsUntold {H S M : Type 0} {core : Core H S M} {Good : World S M → Type 0} (w : Moment core Good) (moved : MemberState S) (letters : List (ℕ × Parcel M)) (grown : List (ℕ × ℕ × Parcel M)) : Type 0 where
  pub good : Good (core_part (moved_in w moved) grown)
  pub mine : core.mine moved.core ≡ core.mine w.member.core
  pub phase : (n : ℕ) → (core.phase moved.core ≡ Inside n) ↔ (core.phase w.member.core ≡ Inside n)
  pub draft : (n : ℕ) → core.phase w.member.core ≡ Inside n → draft_of w.member ≡ draft_of moved
  pub setting : moved.setting ≡ w.member.setting
  pub journal : IsJournalOf (section_journal w.sections) moved.journal
  pub ordered : Ascending (suc moved.journal.base.upto) moved.journal.records
  pub sends : (b : ℕ) (p : Parcel M) → IsIn (b, p) letters → (b < length w.members) × IsParcelOf (section_journal w.sections) p

module _ {H S M : Type 0} (core : Core H S M) (IsShape : H → Type 0) (Good : World S M → Type 0) (phases : KeepsPhases core) (laws : KeepsGood core IsShape Good) where
  -- it leaves a sound world of the same sections
  pub untold_sound : (w : Moment core Good) (moved : MemberState S) (letters : List (ℕ × Parcel M)) (grown : List (ℕ × ℕ × Parcel M)) →
      IsUntold w moved letters grown → GrowsBy w letters grown → IsSound core Good w.sections (moved_in w moved) grown
  untold_sound w moved letters grown untold grows = step_sound w w.sections moved letters grown (record {
    good = untold.good;
    counted = w.sound.counted ∙ sym (counted_same core IsShape Good phases laws w moved grown untold.mine);
    inside = λ n h. let was = (untold.phase n).0 h in same_draft w.member moved n w.sections (untold.draft n was) (w.sound.inside w.node n w.member w.here was);
    others = λ j n t ne at h. w.sound.inside j n t at h;
    nobody = λ none. w.sound.nobody (λ j t at inside. elim (dec_eq j w.node) [
      | inl e ↦
          let same : t ≡ w.member = same_Some t w.member (sym at ∙ subst (λ k. IsMember w.members k w.member) (sym e) w.here) in
          none w.node moved (get_set_same w.members w.node w.member moved w.here) (inside.0, (untold.phase inside.0).1 (subst (λ (x : MemberState S). core.phase x.core ≡ Inside inside.0) same inside.1))
      | inr ne ↦ none j t (get_set_other w.members w.node j moved ne ∙ at) inside
    ]);
    serial = w.sound.serial;
    setting = untold.setting;
    journal = untold.journal;
    ordered = untold.ordered;
    older = λ x h. h;
    sends = untold.sends;
  }) grows

  -- the core takes a step that keeps phase and number
  pub core_sound : {A : Type 0} (w : Moment core Good) (done : Done S A M) (grown : List (ℕ × ℕ × Parcel M)) →
      Good (after (part_of w) w.node done) → core.mine done.state ≡ core.mine w.member.core →
      ((n : ℕ) → (core.phase done.state ≡ Inside n) ↔ (core.phase w.member.core ≡ Inside n)) → GrowsBy w (guarded done.letters) grown →
      IsSound core Good w.sections (moved_in w (with_core done.state w.member)) grown
  core_sound w done grown good mine phase grows = untold_sound w (with_core done.state w.member) (guarded done.letters) grown (record {
    good = core_kept core IsShape Good phases laws w done (with_core done.state w.member) (guarded done.letters) grown good refl (letters_guarded w.node done.letters) grows;
    mine = mine;
    phase = phase;
    draft = λ n h. refl;
    setting = refl;
    journal = w.sound.journals w.node w.member w.here;
    ordered = w.sound.ordered w.node w.member w.here;
    sends = letters_sent core IsShape Good phases laws w done (section_journal w.sections) good;
  }) grows

  -- the core stays; the journal becomes another one of the sections, and parcels of them are sent
  pub gossip_sound : (w : Moment core Good) (journal : JournalState) (letters : List (ℕ × Parcel M)) (grown : List (ℕ × ℕ × Parcel M)) →
      IsJournalOf (section_journal w.sections) journal → Ascending (suc journal.base.upto) journal.records → letters_in (sent_by w.node letters) ≡ [] →
      ((b : ℕ) (p : Parcel M) → IsIn (b, p) letters → (b < length w.members) × IsParcelOf (section_journal w.sections) p) → GrowsBy w letters grown →
      IsSound core Good w.sections (moved_in w (with_journal journal w.member)) grown
  gossip_sound w journal letters grown known order none sends grows =
      let moved : MemberState S = with_journal journal w.member in
      untold_sound w moved letters grown (record {
        good = core_still core IsShape Good phases laws w moved letters grown refl none grows;
        mine = refl;
        phase = λ n. (λ h. h, λ h. h);
        draft = λ n h. refl;
        setting = refl;
        journal = known;
        ordered = order;
        sends = sends;
      }) grows

  -- nothing changes, and parcels of the sections may be sent
  pub still_sound : (w : Moment core Good) (letters : List (ℕ × Parcel M)) (grown : List (ℕ × ℕ × Parcel M)) → letters_in (sent_by w.node letters) ≡ [] →
      ((b : ℕ) (p : Parcel M) → IsIn (b, p) letters → (b < length w.members) × IsParcelOf (section_journal w.sections) p) → GrowsBy w letters grown →
      IsSound core Good w.sections (moved_in w w.member) grown
  still_sound w letters grown none sends grows =
      gossip_sound w w.member.journal letters grown (w.sound.journals w.node w.member w.here) (w.sound.ordered w.node w.member w.here) none sends grows

  -- a refusal
  pub refused_sound : (w : Moment core Good) (grown : List (ℕ × ℕ × Parcel M)) → GrowsBy w [] grown → IsSound core Good w.sections (moved_in w w.member) grown
  refused_sound w grown grows = still_sound w [] grown refl (λ b p h. absurd h) grows
