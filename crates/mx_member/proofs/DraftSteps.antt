-- Acts inside a section: reads, writes, and a node that wakes up again.
use Rattle.std.proofs.Common.{ℕ, zero, suc, ◌<◌, ◌≤◌, ◌≡◌, ◌≢◌, ◌⊎◌, inl, inr, List, [], ◌∷◌, ◌++◌, length, refl, sym, ◌∙◌, ap, subst, arith}
use Rattle.mx_stamps.specs.Lists.{IsIn}
use Rattle.mx_stamps.proofs.Lists.{get_set_same, none_is_no_some}
use Rattle.std.proofs.lemmas.Option.{same_Some}
use Rattle.mx_nodelaws.specs.World.{World}
use Rattle.mx_nodelaws.specs.Core.{Core, KeepsPhases, IsInside}
use Rattle.mx_nodelaws.specs.Laws.{KeepsGood}
use Rattle.mx_nodelaws.specs.declared.phase.Phase.TheVariants.{Inside}
use Rattle.mx_journal.specs.declared.receipts.Read.{Read}
use Rattle.mx_journal.specs.Drafted.{Drafted, with_read, with_write, fresh}
use Rattle.mx_registers.specs.Registers.{applied}
use Rattle.mx_member.specs.declared.parcel.Parcel.{Parcel}
use Rattle.mx_member.specs.Journals.{IsJournalOf}
use Rattle.mx_member.specs.Member.{MemberState, first_gap, with_draft}
use Rattle.mx_member.specs.Steps.{shown_inside}
use Rattle.mx_trace.specs.Sections.{Section, Got, Wrote, at_open, redrafted, section_journal, writes_in}
use Rattle.mx_trace.specs.Serial.{Fits, IsInNewest, IsSerialRead, ReadSerially}
use Rattle.mx_member.specs.World.{IsMember, IsSound, draft_of}
use Rattle.mx_member.proofs.Consequences.{never_settled}
use Rattle.mx_member.proofs.CoreSteps.{alone, core_still, counted_same}
use Rattle.mx_member.proofs.EntrySteps.{drafted, journal_rest}
use Rattle.mx_member.proofs.Moments.{GrowsBy, Moment, moved_in, step_sound}
use Rattle.mx_member.proofs.Phases.{inside_inj, inside_or_not}
use Rattle.mx_member.proofs.UntoldSteps.{untold_sound}
use Rattle.mx_member.proofs.OfSections.{journal_stays}
use Rattle.mx_member.proofs.SectionLists.{at_open_newest, at_open_none, at_open_other, journal_ascends, journal_older}
use Rattle.mx_member.proofs.SectionWrites.{shown_value}
use Rattle.mx_member.proofs.SerialReads.{serial_read, serial_write}

-- each of these reads is serial behind the sections
abbrev AreSerial : List Section → Drafted → Type 0
AreSerial ss draft = (x : Read) → IsIn x draft.reads → IsSerialRead (writes_in ss) draft.writes x

-- some member is inside, or none is
pub someone : {H S M : Type 0} (core : Core H S M) (members : List (MemberState S)) →
    ((j : ℕ) × (t : MemberState S) × IsMember members j t × IsInside core t.core) ⊎ ((j : ℕ) (t : MemberState S) → IsMember members j t → IsInside core t.core → ⊥)
someone core [] = inr (λ j t at h. none_is_no_some t at)
someone {S} core (m ∷ ms) = elim (inside_or_not (core.phase m.core)) [
  | inl here ↦ inl (0, m, refl, here)
  | inr gone ↦ elim (someone core ms) [
    | inl other ↦ inl (suc other.0, other.1, other.2, other.3)
    | inr none ↦ inr (nowhere gone none)
  ]
]
  where
    nowhere : ((n : ℕ) → core.phase m.core ≡ Inside n → ⊥) → ((j : ℕ) (t : MemberState S) → IsMember ms j t → IsInside core t.core → ⊥) → (j : ℕ) (t : MemberState S) → IsMember (m ∷ ms) j t → IsInside core t.core → ⊥
    nowhere gone none zero t at h = gone h.0 (subst (λ (x : MemberState S). core.phase x.core ≡ Inside h.0) (sym (same_Some m t at)) h.1)
    nowhere gone none (suc j) t at h = none j t at h

module _ {H S M : Type 0} (core : Core H S M) (IsShape : H → Type 0) (Good : World S M → Type 0) (phases : KeepsPhases core) (laws : KeepsGood core IsShape Good) where
  -- the newest section is that of the member that is inside
  newest_here : (w : Moment core Good) (n : ℕ) → core.phase w.member.core ≡ Inside n → IsInNewest w.node w.sections
  newest_here w n inside =
      let d = drafted w.member n w.sections (w.sound.inside w.node n w.member w.here inside) in
      subst (λ ss. IsInNewest w.node ss) (sym d.1) (w.sound.named w.node w.member w.here, refl)

  -- the draft of the member that is inside changes, and its reads stay serial
  redraft_sound : (w : Moment core Good) (n : ℕ) (f : Drafted → Drafted) (grown : List (ℕ × ℕ × Parcel M)) → core.phase w.member.core ≡ Inside n →
      ((rest : List Section) → w.sections ≡ draft_of w.member ∷ rest → n ≡ suc (length rest) → AreSerial rest w.member.draft → AreSerial rest (f w.member.draft)) → GrowsBy w [] grown →
      IsSound core Good (at_open w.node (redrafted f) w.sections) (moved_in w (with_draft (f w.member.draft) w.member)) grown
  redraft_sound w n f grown inside kept grows =
      let moved : MemberState S = with_draft (f w.member.draft) w.member in
      let d = drafted w.member n w.sections (w.sound.inside w.node n w.member w.here inside) in
      let rest : List Section = d.0 in
      let was : ReadSerially (draft_of w.member ∷ rest) = subst ReadSerially d.1 w.sound.serial in
      let same : section_journal w.sections ≡ section_journal rest = journal_rest w.member w.sections rest d.1 in
      let after : at_open w.node (redrafted f) w.sections ≡ draft_of moved ∷ rest =
      ap (λ l. at_open w.node (redrafted f) l) d.1 ∙ at_open_newest w.node (redrafted f) (draft_of w.member) rest (w.sound.named w.node w.member w.here) refl in
      subst (λ ss. IsSound core Good ss (moved_in w moved) grown) (sym after)
      (step_sound w (draft_of moved ∷ rest) moved [] grown
      (record {
        good = core_still core IsShape Good phases laws w moved [] grown refl refl grows;
        counted = sym (ap length d.1) ∙ w.sound.counted ∙ sym (counted_same core IsShape Good phases laws w moved grown refl);
        inside = λ k h. (refl, sym (inside_inj n k (sym inside ∙ h)) ∙ d.2, d.3);
        others = λ j k t ne at h. absurd (ne (alone core IsShape Good phases laws w j n k t inside at h));
        nobody = λ none. absurd (none w.node moved (get_set_same w.members w.node w.member moved w.here) (n, inside));
        serial = (kept rest d.1 d.2 was.0, was.1);
        setting = refl;
        journal = journal_stays (section_journal rest) (section_journal (draft_of moved ∷ rest)) (journal_ascends rest) (journal_ascends (draft_of moved ∷ rest)) (journal_older (draft_of moved) rest) w.member.journal
            (subst (λ l. IsJournalOf l w.member.journal) same (w.sound.journals w.node w.member w.here));
        ordered = w.sound.ordered w.node w.member w.here;
        older = λ x h. journal_older (draft_of moved) rest x (subst (λ l. IsIn x l) same h);
        sends = λ b p h. absurd h;
      })
      grows)

  -- a read where the journal lacks none of the sections before
  pub read_sound : (w : Moment core Good) (n register : ℕ) (grown : List (ℕ × ℕ × Parcel M)) → core.phase w.member.core ≡ Inside n → register < w.member.setting.registers → n ≤ first_gap w.member.journal → GrowsBy w [] grown →
      Fits w.sections (Got w.node register (shown_inside register n w.member))
      × IsSound core Good (at_open w.node (redrafted (with_read register (shown_inside register n w.member))) w.sections)
      (moved_in w (with_draft (with_read register (shown_inside register n w.member) w.member.draft) w.member)) grown
  read_sound w n register grown inside there full grows =
      let value : ℕ = shown_inside register n w.member in
      let few = w.sound.few w.node w.member w.here in
      let shown : (rest : List Section) → w.sections ≡ draft_of w.member ∷ rest → n ≡ suc (length rest) → value ≡ applied register (writes_in rest ++ w.member.draft.writes) 0 =
      λ rest e next. shown_value register n rest w.member.journal w.member.draft.writes (omega arith) (w.sound.ordered w.node w.member w.here)
      (subst (λ l. IsJournalOf l w.member.journal) (journal_rest w.member w.sections rest e) (w.sound.journals w.node w.member w.here)) next (never_settled core Good w.sections w.members w.sent w.sound w.node n w.member w.here inside) full in
      let d = drafted w.member n w.sections (w.sound.inside w.node n w.member w.here inside) in (
        (newest_here w n inside, shown d.0 d.1 d.2 ∙ ap (λ ss. applied register (writes_in ss) 0) (sym d.1)),
        redraft_sound w n (with_read register value) grown inside
            (λ rest e next old. serial_read (writes_in rest) w.member.draft.writes w.member.draft.reads register value old (shown rest e next)) grows,
      )

  -- a write
  pub write_sound : (w : Moment core Good) (n register value : ℕ) (grown : List (ℕ × ℕ × Parcel M)) → core.phase w.member.core ≡ Inside n → GrowsBy w [] grown →
      Fits w.sections (Wrote w.node register value)
      × IsSound core Good (at_open w.node (redrafted (with_write register value)) w.sections) (moved_in w (with_draft (with_write register value w.member.draft) w.member)) grown
  write_sound w n register value grown inside grows = (
    newest_here w n inside,
    redraft_sound w n (with_write register value) grown inside
        (λ rest e next old x h. serial_write (writes_in rest) w.member.draft.writes (record { register = register; value = value }) x (old x h)) grows,
  )

  -- a node that is inside nowhere has no section that its waking up could change
  outside : (w : Moment core Good) (f : Section → Section) → ((n : ℕ) → core.phase w.member.core ≡ Inside n → ⊥) → at_open w.node f w.sections ≡ w.sections
  outside w f gone = elim (someone core w.members) [
    | inl other ↦
        let d = drafted other.1 other.3.0 w.sections (w.sound.inside other.0 other.3.0 other.1 other.2 other.3.1) in
        let apart : other.1.setting.me ≢ w.node = λ e.
        let same : other.0 ≡ w.node = sym (w.sound.named other.0 other.1 other.2) ∙ e in
        let one : other.1 ≡ w.member = same_Some other.1 w.member (sym other.2 ∙ subst (λ k. IsMember w.members k w.member) (sym same) w.here) in
        gone other.3.0 (subst (λ (x : MemberState S). core.phase x.core ≡ Inside other.3.0) one other.3.1) in
        ap (λ l. at_open w.node f l) d.1 ∙ at_open_other w.node f (draft_of other.1) d.0 apart d.3 ∙ sym d.1
    | inr none ↦ at_open_none w.node f w.sections (w.sound.nobody none)
  ]

  -- a node wakes up again: inside, its draft is emptied
  pub wake_sound : (w : Moment core Good) (grown : List (ℕ × ℕ × Parcel M)) → GrowsBy w [] grown →
      IsSound core Good (at_open w.node (redrafted (λ draft. fresh)) w.sections) (moved_in w (with_draft fresh w.member)) grown
  wake_sound w grown grows = elim (inside_or_not (core.phase w.member.core)) [
    | inl inside ↦ redraft_sound w inside.0 (λ draft. fresh) grown inside.1 (λ rest e next old x h. absurd h) grows
    | inr gone ↦
        let moved : MemberState S = with_draft fresh w.member in
        subst (λ ss. IsSound core Good ss (moved_in w moved) grown) (sym (outside w (redrafted (λ draft. fresh)) gone))
        (untold_sound core IsShape Good phases laws w moved [] grown (record {
          good = core_still core IsShape Good phases laws w moved [] grown refl refl grows;
          mine = refl;
          phase = λ n. (λ h. h, λ h. h);
          draft = λ n h. absurd (gone n h);
          setting = refl;
          journal = w.sound.journals w.node w.member w.here;
          ordered = w.sound.ordered w.node w.member w.here;
          sends = λ b p h. absurd h;
        }) grows)
  ]
