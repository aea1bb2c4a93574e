-- Each call of one member fits the sections so far, and leaves a sound world of the sections after it.
use Rattle.std.proofs.Common.{ℕ, ◌<◌, ◌≡◌, ◌↔◌, inl, inr, List, [], ◌∷◌, ◌++◌, Result, Ok, Err, length, take, refl, sym, ◌∙◌, ap, subst}
use Rattle.mx_stamps.specs.declared.stamp.Stamp.{Stamp}
use Rattle.mx_stamps.specs.Lists.{IsIn}
use Rattle.std.specs.List.{list_any}
use Rattle.mx_stamps.proofs.Lists.{cond_case, in_append}
use Rattle.mx_nodelaws.specs.World.{World, sent_by}
use Rattle.mx_nodelaws.specs.Core.{Core, KeepsPhases}
use Rattle.mx_nodelaws.specs.Laws.{KeepsGood}
use Rattle.mx_nodelaws.specs.declared.phase.Phase.TheVariants.{Inside}
use Rattle.mx_nodelaws.specs.declared.faults.AskFault.{AskFault}
use Rattle.mx_nodelaws.specs.declared.faults.CancelFault.{CancelFault}
use Rattle.mx_nodelaws.specs.declared.faults.EnterFault.{EnterFault}
use Rattle.mx_journal.specs.declared.records.Record.{Record}
use Rattle.mx_journal.specs.declared.ranges.Range.{Range}
use Rattle.mx_journal.specs.Agreement.{IsSubmap}
use Rattle.mx_journal.specs.Settled.{settled, with_base, with_list}
use Rattle.mx_journal.proofs.Settled.{ascending_beyond}
use Rattle.mx_merge.specs.Missing.{in_ranges}
use Rattle.mx_merge.proofs.Answered.{answered_known}
use Rattle.mx_member.specs.declared.acts.Act.TheVariants as act
use Rattle.mx_member.specs.declared.acts.Answer.TheVariants as answer
use Rattle.mx_member.specs.declared.parcel.Parcel.{Parcel}
use Rattle.mx_member.specs.declared.parcel.Parcel.TheVariants.{Guard, Want, Base, Records}
use Rattle.mx_member.specs.Journals.{IsParcelOf}
use Rattle.mx_member.specs.Member.{MemberState, guarded, with_core}
use Rattle.mx_member.specs.Steps.{answers_to, base_to, entered, leave_of, read_of, reaches, records_to, settle_of, take_of, want_to, write_of}
use Rattle.mx_trace.specs.Sections.{Mark, after_marks, section_journal}
use Rattle.mx_member.specs.Told.{told}
use Rattle.mx_trace.specs.Serial.{AllFit}
use Rattle.mx_member.specs.World.{IsSound, letters_in}
use Rattle.mx_member.proofs.Cases.{leaves, reads, settles, writes}
use Rattle.mx_member.proofs.CorePart.{letter_of}
use Rattle.mx_member.proofs.DraftSteps.{read_sound, write_sound}
use Rattle.mx_member.proofs.EntrySteps.{enter_sound, leave_sound}
use Rattle.mx_member.proofs.Moments.{GrowsBy, Moment, moved_in, core_here, part_of}
use Rattle.mx_member.proofs.Covering.{covered_to_gap}
use Rattle.mx_member.proofs.OfSections.{put_of, settled_ascends, settled_of, taken_ascends, taken_of}
use Rattle.mx_member.proofs.Phases.{idle_apart, waiting_apart}
use Rattle.mx_member.proofs.SectionLists.{journal_ascends}
use Rattle.mx_member.proofs.UntoldSteps.{core_sound, gossip_sound, refused_sound, still_sound}

-- parcels of two lists, neither of which has a letter
no_letters : {M : Type 0} (i : ℕ) (ps qs : List (ℕ × Parcel M)) → letters_in (sent_by i ps) ≡ [] → letters_in (sent_by i qs) ≡ [] → letters_in (sent_by i (ps ++ qs)) ≡ []
no_letters i [] qs a b = b
no_letters i ((to, Guard letter) ∷ ps) qs a b = absurd (let bad : ⊥ = cc in bad)
no_letters i ((to, Want ranges) ∷ ps) qs a b = no_letters i ps qs a b
no_letters i ((to, Base base) ∷ ps) qs a b = no_letters i ps qs a b
no_letters i ((to, Records records) ∷ ps) qs a b = no_letters i ps qs a b

module _ {H S M : Type 0} (core : Core H S M) (IsShape : H → Type 0) (Good : World S M → Type 0) (phases : KeepsPhases core) (laws : KeepsGood core IsShape Good) where
  -- what the act tells fits, and the world after it is sound
  abbrev pub Keeps : Moment core Good → List Mark → MemberState S → List (ℕ × ℕ × Parcel M) → Type 0
  Keeps w marks moved grown = AllFit w.sections marks × IsSound core Good (after_marks w.sections marks) (moved_in w moved) grown

  ask_phase : (s : S) (r : Result Stamp AskFault) → (core.ask s).answer ≡ r → (n : ℕ) → (core.phase (core.ask s).state ≡ Inside n) ↔ (core.phase s ≡ Inside n)
  ask_phase s (Ok stamp) is n =
      let p = phases.ask_ok s stamp is in (λ h. absurd (waiting_apart n (sym p.1 ∙ h)), λ h. absurd (idle_apart n (sym p.0 ∙ h)))
  ask_phase s (Err fault) is n = let e = ap core.phase (phases.ask_err s fault is).0 in (λ h. sym e ∙ h, λ h. e ∙ h)

  pub ask_kept : (w : Moment core Good) (grown : List (ℕ × ℕ × Parcel M)) → GrowsBy w (guarded (core.ask w.member.core).letters) grown → Keeps w [] (with_core (core.ask w.member.core).state w.member) grown
  ask_kept w grown grows = (
    tt,
    core_sound core IsShape Good phases laws w (core.ask w.member.core) grown
        (laws.after_ask (part_of w) w.node w.member.core w.sound.good (core_here w))
        (phases.ask_mine w.member.core) (ask_phase w.member.core (core.ask w.member.core).answer refl) grows,
  )

  cancel_phase : (s : S) (r : Result (Unit {0}) CancelFault) → (core.cancel s).answer ≡ r → (n : ℕ) → (core.phase (core.cancel s).state ≡ Inside n) ↔ (core.phase s ≡ Inside n)
  cancel_phase s (Ok done) is n =
      let p = phases.cancel_ok s is in (λ h. absurd (idle_apart n (sym p.1 ∙ h)), λ h. absurd (waiting_apart n (sym p.0 ∙ h)))
  cancel_phase s (Err fault) is n = let e = ap core.phase (phases.cancel_err s fault is).0 in (λ h. sym e ∙ h, λ h. e ∙ h)

  pub cancel_kept : (w : Moment core Good) (grown : List (ℕ × ℕ × Parcel M)) → GrowsBy w (guarded (core.cancel w.member.core).letters) grown → Keeps w [] (with_core (core.cancel w.member.core).state w.member) grown
  cancel_kept w grown grows = (
    tt,
    core_sound core IsShape Good phases laws w (core.cancel w.member.core) grown
        (laws.after_cancel (part_of w) w.node w.member.core w.sound.good (core_here w))
        (phases.cancel_mine w.member.core) (cancel_phase w.member.core (core.cancel w.member.core).answer refl) grows,
  )

  pub tick_kept : (w : Moment core Good) (grown : List (ℕ × ℕ × Parcel M)) → GrowsBy w (guarded (core.tick w.member.core).letters) grown → Keeps w [] (with_core (core.tick w.member.core).state w.member) grown
  tick_kept w grown grows = (
    tt,
    core_sound core IsShape Good phases laws w (core.tick w.member.core) grown
        (laws.after_tick (part_of w) w.node w.member.core w.sound.good (core_here w))
        (phases.tick_mine w.member.core) (λ n. let e = phases.tick_phase w.member.core in (λ h. sym e ∙ h, λ h. e ∙ h)) grows,
  )

  pub enter_kept : (w : Moment core Good) (grown : List (ℕ × ℕ × Parcel M)) (r : Result ℕ EnterFault) → (core.enter w.member.core).answer ≡ r → GrowsBy w [] grown →
      Keeps w (told {M = M} w.node act.Enter (answer.Entered r)) (entered r (with_core (core.enter w.member.core).state w.member)) grown
  enter_kept w grown (Ok n) is grows = let k = enter_sound core IsShape Good phases laws w n grown is grows in ((k.0, tt), k.1)
  enter_kept w grown (Err fault) is grows = (
    tt,
    subst (λ s. IsSound core Good w.sections (moved_in w (with_core s w.member)) grown) (sym (phases.enter_err w.member.core fault is)) (refused_sound core IsShape Good phases laws w grown grows),
  )

  pub read_kept : (w : Moment core Good) (register : ℕ) (grown : List (ℕ × ℕ × Parcel M)) → GrowsBy w [] grown →
      Keeps w (told {M = M} w.node (act.Read register) (answer.Read (read_of core register w.member).answer)) (read_of core register w.member).state grown
  read_kept w register grown grows =
      reads core w.member register (core.phase w.member.core) (λ q. Keeps w (told {M = M} w.node (act.Read register) (answer.Read q.answer)) q.state grown)
      (λ fault _. (tt, refused_sound core IsShape Good phases laws w grown grows))
      (λ n is there all. let k = read_sound core IsShape Good phases laws w n register grown is there all grows in ((k.0, tt), k.1))

  pub write_kept : (w : Moment core Good) (register value : ℕ) (grown : List (ℕ × ℕ × Parcel M)) → GrowsBy w [] grown →
      Keeps w (told {M = M} w.node (act.Write register value) (answer.Written (write_of core register value w.member).answer)) (write_of core register value w.member).state grown
  write_kept w register value grown grows =
      writes core w.member register value (core.phase w.member.core) (λ q. Keeps w (told {M = M} w.node (act.Write register value) (answer.Written q.answer)) q.state grown)
      (λ fault. (tt, refused_sound core IsShape Good phases laws w grown grows))
      (λ n is. let k = write_sound core IsShape Good phases laws w n register value grown is grows in ((k.0, tt), k.1))

  pub leave_kept : (w : Moment core Good) (grown : List (ℕ × ℕ × Parcel M)) → GrowsBy w (leave_of core w.member).letters grown →
      Keeps w (told {M = M} w.node act.Leave (answer.Left (leave_of core w.member).answer)) (leave_of core w.member).state grown
  leave_kept w grown =
      leaves core w.member (core.phase w.member.core) (λ q. GrowsBy w q.letters grown → Keeps w (told {M = M} w.node act.Leave (answer.Left q.answer)) q.state grown)
      (λ grows. (tt, refused_sound core IsShape Good phases laws w grown grows))
      (λ n is grows. let k = leave_sound core IsShape Good phases laws w n grown is grows in ((k.0, tt), k.1))

  pub settle_kept : (w : Moment core Good) (k : ℕ) (grown : List (ℕ × ℕ × Parcel M)) → GrowsBy w [] grown → Keeps w [] (settle_of k w.member).state grown
  settle_kept w k grown grows =
      settles core w.member k (λ q. Keeps w [] q.state grown)
      (λ fault. (tt, refused_sound core IsShape Good phases laws w grown grows))
      (λ low past.
      let m : MemberState S = w.member in
      let order = journal_ascends w.sections in
      let mine = w.sound.ordered w.node m w.here in
      let of = w.sound.journals w.node m w.here in
      let all = covered_to_gap k m.journal past in (
        tt,
        gossip_sound core IsShape Good phases laws w (settled k m.journal) [] grown
            (settled_of (section_journal w.sections) m.journal k order mine of low all) (settled_ascends (section_journal w.sections) m.journal k order mine of low all) refl (λ b p h. absurd h) grows,
      ))

  -- a want goes to a node, brings nothing, and is no letter
  pub want_kept : (w : Moment core Good) (to : ℕ) (ranges : List Range) (grown : List (ℕ × ℕ × Parcel M)) → to < length w.members → GrowsBy w (want_to to ranges) grown → Keeps w [] w.member grown
  want_kept w to [] grown l grows = (tt, refused_sound core IsShape Good phases laws w grown grows)
  want_kept w to (r ∷ rs) grown l grows = (
    tt,
    still_sound core IsShape Good phases laws w (want_to to (r ∷ rs)) grown refl
        (λ b p h. elim h [
          | inl e ↦ subst (λ (q : ℕ × Parcel M). (q.0 < length w.members) × IsParcelOf (section_journal w.sections) q.1) (sym e) (l, tt)
          | inr bad ↦ absurd bad
        ])
        grows,
  )

  -- the own base, and records of the own journal, go to a node, and are no letters
  base_known : (w : Moment core Good) (to : ℕ) (ranges : List Range) → to < length w.members →
      (letters_in (sent_by w.node (base_to {M = M} to ranges w.member.journal)) ≡ [])
      × ((b : ℕ) (p : Parcel M) → IsIn (b, p) (base_to to ranges w.member.journal) → (b < length w.members) × IsParcelOf (section_journal w.sections) p)
  base_known w to ranges l =
      cond_case (λ (ls : List (ℕ × Parcel M)). (letters_in (sent_by w.node ls) ≡ []) × ((b : ℕ) (p : Parcel M) → IsIn (b, p) ls → (b < length w.members) × IsParcelOf (section_journal w.sections) p))
      (list_any (reaches w.member.journal.base.upto) ranges) ((to, Base w.member.journal.base) ∷ []) []
      (λ _. (
        refl,
        λ b p h. elim h [
          | inl e ↦
              subst (λ (q : ℕ × Parcel M). (q.0 < length w.members) × IsParcelOf (section_journal w.sections) q.1) (sym e)
              (l, (w.sound.journals w.node w.member w.here).base)
          | inr bad ↦ absurd bad
        ],
      ))
      (λ _. (refl, λ b p h. absurd h))

  records_known : (w : Moment core Good) (to : ℕ) (records : List Record) → to < length w.members → IsSubmap records w.member.journal.records →
      (letters_in (sent_by w.node (records_to {M = M} to records)) ≡ [])
      × ((b : ℕ) (p : Parcel M) → IsIn (b, p) (records_to to records) → (b < length w.members) × IsParcelOf (section_journal w.sections) p)
  records_known w to [] l known = (refl, λ b p h. absurd h)
  records_known w to (r ∷ rs) l known = (
    refl,
    λ b p h. elim h [
      | inl e ↦
          subst (λ (q : ℕ × Parcel M). (q.0 < length w.members) × IsParcelOf (section_journal w.sections) q.1) (sym e)
          (l, λ x k. (w.sound.journals w.node w.member w.here).records x (known x k))
      | inr bad ↦ absurd bad
    ],
  )

  answer_kept : (w : Moment core Good) (to : ℕ) (ranges : List Range) (grown : List (ℕ × ℕ × Parcel M)) → to < length w.members → GrowsBy w (answers_to to ranges w.member.journal) grown → Keeps w [] w.member grown
  answer_kept w to ranges grown l grows =
      let records : List Record = take 4 (in_ranges ranges w.member.journal.records) in
      let first : List (ℕ × Parcel M) = base_to to ranges w.member.journal in
      let rest : List (ℕ × Parcel M) = records_to to records in
      let a = base_known w to ranges l in
      let b = records_known w to records l (answered_known 4 ranges w.member.journal.records) in (
        tt,
        still_sound core IsShape Good phases laws w (answers_to to ranges w.member.journal) grown
            (no_letters w.node first rest a.0 b.0)
            (λ n p h. elim (in_append (n, p) first rest h) [ inl x ↦ a.1 n p x | inr x ↦ b.1 n p x ])
            grows,
      )

  pub take_kept : (w : Moment core Good) (from : ℕ) (p : Parcel M) (grown : List (ℕ × ℕ × Parcel M)) → IsIn (from, w.node, p) w.sent → GrowsBy w (take_of core from p w.member).letters grown → Keeps w [] (take_of core from p w.member).state grown
  take_kept w from (Guard letter) grown was grows =
      let done = core.deliver from letter w.member.core in (
        tt,
        core_sound core IsShape Good phases laws w done grown
            (laws.after_deliver (part_of w) w.node w.member.core from letter w.sound.good (core_here w) (letter_of from w.node letter w.sent was))
            (phases.deliver_mine from letter w.member.core) (λ n. let e = phases.deliver_phase from letter w.member.core in (λ h. sym e ∙ h, λ h. e ∙ h)) grows,
      )
  take_kept w from (Want ranges) grown was grows =
      answer_kept w from ranges.items grown (w.sound.between from w.node (Want ranges) was).0 grows
  take_kept w from (Base base) grown was grows = (
    tt,
    gossip_sound core IsShape Good phases laws w (with_base base w.member.journal) [] grown
        (taken_of (section_journal w.sections) base w.member.journal (w.sound.journals w.node w.member w.here) (w.sound.parcels from w.node (Base base) was))
        (taken_ascends base w.member.journal (w.sound.ordered w.node w.member w.here)) refl (λ b p h. absurd h) grows,
  )
  take_kept w from (Records records) grown was grows = (
    tt,
    gossip_sound core IsShape Good phases laws w (with_list records.items w.member.journal) [] grown
        (put_of (section_journal w.sections) records.items w.member.journal (w.sound.journals w.node w.member w.here) (w.sound.parcels from w.node (Records records) was))
        (ascending_beyond w.member.journal.base.upto records.items w.member.journal.records (w.sound.ordered w.node w.member w.here)) refl (λ b p h. absurd h) grows,
  )
