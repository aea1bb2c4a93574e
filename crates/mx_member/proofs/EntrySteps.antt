-- An entry opens the next section, and a leaving closes the newest one.
use Rattle.std.proofs.Common.{ℕ, suc, ◌≤◌, ◌≡◌, inl, inr, List, [], ◌∷◌, Ok, length, map, nat_lt, refl, sym, ◌∙◌, ap, subst, arith}
use Rattle.mx_stamps.specs.Lists.{IsIn, greatest}
use Rattle.mx_stamps.proofs.Lists.{get_set_same, greatest_raised}
use Rattle.mx_nodelaws.specs.World.{World, quietly}
use Rattle.mx_nodelaws.specs.Core.{Core, KeepsPhases}
use Rattle.mx_nodelaws.specs.Laws.{KeepsGood, greatest_mine}
use Rattle.mx_nodelaws.specs.declared.phase.Phase.TheVariants.{Idle, Inside}
use Rattle.mx_journal.specs.declared.records.Record.{Record}
use Rattle.mx_journal.specs.declared.receipts.Receipt.{Receipt}
use Rattle.mx_journal.specs.Agreement.{IsSubmap}
use Rattle.mx_journal.specs.Drafted.{receipt_of, record_of, fresh}
use Rattle.mx_journal.proofs.Settled.{ascending_beyond}
use Rattle.mx_member.specs.declared.parcel.Parcel.{Parcel}
use Rattle.mx_member.specs.Member.{MemberState, guarded, with_core, with_draft}
use Rattle.mx_member.specs.Steps.{left}
use Rattle.mx_trace.specs.Sections.{Section, Came, Went, at_open, closing, opened, section_journal, section_receipt}
use Rattle.mx_trace.specs.Serial.{AllClosed, Fits, ReadSerially}
use Rattle.mx_member.specs.World.{IsDraftOf, IsSound, core_part, draft_of}
use Rattle.mx_member.proofs.CorePart.{get_map, letters_guarded, map_set}
use Rattle.mx_member.proofs.CoreSteps.{alone, core_kept, counted_same, letters_sent}
use Rattle.mx_member.proofs.Moments.{GrowsBy, Moment, moved_in, step_sound, core_here, part_of}
use Rattle.mx_member.proofs.Phases.{drawn, idle_apart, inside_inj}
use Rattle.mx_member.proofs.OfSections.{journal_stays, put_of}
use Rattle.mx_member.proofs.SectionLists.{at_open_newest, journal_ascends, journal_newest, journal_older, journal_open}

-- the sections of a world in which this member is inside
pub drafted : {S : Type 0} (m : MemberState S) (n : ℕ) (ss : List Section) → IsDraftOf m n ss → (rest : List Section) × (ss ≡ draft_of m ∷ rest) × (n ≡ suc (length rest)) × AllClosed rest
drafted m n [] d = absurd d
drafted m n (s ∷ ss) d = (ss, ap (λ x. x ∷ ss) d.0, d.1, d.2)

-- while the newest section is open, the journal is that of the others
pub journal_rest : {S : Type 0} (m : MemberState S) (ss rest : List Section) → ss ≡ draft_of m ∷ rest → section_journal ss ≡ section_journal rest
journal_rest m ss rest e = ap section_journal e ∙ journal_open (draft_of m) rest refl

module _ {H S M : Type 0} (core : Core H S M) (IsShape : H → Type 0) (Good : World S M → Type 0) (phases : KeepsPhases core) (laws : KeepsGood core IsShape Good) where
  -- nobody is inside where a node enters, and it draws the next number
  pub enter_sound : (w : Moment core Good) (n : ℕ) (grown : List (ℕ × ℕ × Parcel M)) → (core.enter w.member.core).answer ≡ Ok n → GrowsBy w [] grown →
      Fits w.sections (Came w.node n)
      × IsSound core Good (opened w.node ∷ w.sections) (moved_in w (with_draft fresh (with_core (core.enter w.member.core).state w.member))) grown
  enter_sound w n grown ok grows =
      let moved : MemberState S = with_draft fresh (with_core (core.enter w.member.core).state w.member) in
      let here = core_here w in
      let part : World S M = part_of w in
      let entered = phases.enter_ok w.member.core n ok in
      let law = laws.entry part w.node w.member.core w.sound.good here entered.0 in
      let top : n ≡ suc (greatest_mine core part) = drawn (nat_lt (greatest_mine core part) (core.limit w.member.core)) (greatest_mine core part) n (sym law.1 ∙ ok) in
      let next : n ≡ suc (length w.sections) = top ∙ ap suc (sym w.sound.counted) in
      let all : AllClosed w.sections = w.sound.nobody (λ j t at inside. law.0 j t.core (get_map (λ (m : MemberState S). m.core) w.members j t at) inside) in
      let raised : greatest_mine core (core_part (moved_in w moved) grown) ≡ core.mine moved.core =
      ap (λ xs. greatest core.mine xs) (map_set (λ (m : MemberState S). m.core) w.members w.node moved)
      ∙ greatest_raised core.mine (map (λ (m : MemberState S). m.core) w.members) w.node w.member.core moved.core here (subst (λ k. greatest_mine core part ≤ k) (sym (entered.2 ∙ top)) (omega arith)) in
      let draft : opened w.node ≡ draft_of moved = ap opened (sym (w.sound.named w.node w.member w.here)) in (
        (all, next),
        step_sound w (opened w.node ∷ w.sections) moved [] grown
            (record {
              good = core_kept core IsShape Good phases laws w (quietly (core.enter w.member.core)) moved [] grown (laws.after_enter part w.node w.member.core w.sound.good here) refl refl grows;
              counted = sym next ∙ sym entered.2 ∙ sym raised;
              inside = λ k h. (draft, sym (inside_inj n k (sym entered.1 ∙ h)) ∙ next, all);
              others = λ j k t ne at h. absurd (law.0 j t.core (get_map (λ (m : MemberState S). m.core) w.members j t at) (k, h));
              nobody = λ none. absurd (none w.node moved (get_set_same w.members w.node w.member moved w.here) (n, entered.1));
              serial = (λ x h. absurd h, w.sound.serial);
              setting = refl;
              journal = journal_stays (section_journal w.sections) (section_journal (opened w.node ∷ w.sections)) (journal_ascends w.sections) (journal_ascends (opened w.node ∷ w.sections)) (journal_older (opened w.node) w.sections) w.member.journal (w.sound.journals w.node w.member w.here);
              ordered = w.sound.ordered w.node w.member w.here;
              older = journal_older (opened w.node) w.sections;
              sends = λ b p h. absurd h;
            })
            grows,
      )

  -- the record of the section that is left is new, and joins the own journal
  pub leave_sound : (w : Moment core Good) (n : ℕ) (grown : List (ℕ × ℕ × Parcel M)) → core.phase w.member.core ≡ Inside n → GrowsBy w (guarded (core.leave w.member.core).letters) grown →
      Fits w.sections (Went w.node (receipt_of n w.member.setting.me w.member.draft))
      × IsSound core Good (at_open w.node closing w.sections) (moved_in w (left core n w.member).state) grown
  leave_sound w n grown inside grows =
      let moved : MemberState S = (left core n w.member).state in
      let here = core_here w in
      let part : World S M = part_of w in
      let ok = (phases.leave_inside w.member.core n).1 inside in
      let idle : core.phase moved.core ≡ Idle = phases.leave_ok w.member.core n ok in
      let d = drafted w.member n w.sections (w.sound.inside w.node n w.member w.here inside) in
      let rest : List Section = d.0 in
      let named : w.member.setting.me ≡ w.node = w.sound.named w.node w.member w.here in
      let closed : Section = closing (draft_of w.member) in
      let receipt : Receipt = receipt_of n w.member.setting.me w.member.draft in
      let older : IsSubmap (section_journal w.sections) (section_journal (closed ∷ rest)) =
      λ x h. journal_older closed rest x (subst (λ l. IsIn x l) (journal_rest w.member w.sections rest d.1) h) in
      let new : IsIn (record_of receipt) (section_journal (closed ∷ rest)) =
      subst (λ k. IsIn (record_of (section_receipt k closed)) (section_journal (closed ∷ rest))) (sym d.2) (journal_newest closed rest refl) in
      let good = laws.after_leave part w.node w.member.core w.sound.good here in
      let after : at_open w.node closing w.sections ≡ closed ∷ rest = ap (λ l. at_open w.node closing l) d.1 ∙ at_open_newest w.node closing (draft_of w.member) rest named refl in (
        subst (λ ss. Fits ss (Went w.node receipt)) (sym d.1) ((named, refl), ap (λ k. section_receipt k (draft_of w.member)) d.2),
        subst (λ ss. IsSound core Good ss (moved_in w moved) grown) (sym after)
            (step_sound w (closed ∷ rest) moved (guarded (core.leave w.member.core).letters) grown
            (record {
              good = core_kept core IsShape Good phases laws w (core.leave w.member.core) moved (guarded (core.leave w.member.core).letters) grown good refl (letters_guarded w.node (core.leave w.member.core).letters) grows;
              counted = sym (ap length d.1) ∙ w.sound.counted ∙ sym (counted_same core IsShape Good phases laws w moved grown (phases.leave_mine w.member.core));
              inside = λ k h. absurd (idle_apart k (sym idle ∙ h));
              others = λ j k t ne at h. absurd (ne (alone core IsShape Good phases laws w j n k t inside at h));
              nobody = λ none. (refl, d.3);
              serial = subst ReadSerially d.1 w.sound.serial;
              setting = refl;
              journal = put_of (section_journal (closed ∷ rest)) (record_of receipt ∷ []) w.member.journal
                  (journal_stays (section_journal w.sections) (section_journal (closed ∷ rest)) (journal_ascends w.sections) (journal_ascends (closed ∷ rest)) older w.member.journal (w.sound.journals w.node w.member w.here))
                  (λ x h. elim h [ inl e ↦ subst (λ (y : Record). IsIn y (section_journal (closed ∷ rest))) (sym e) new | inr bad ↦ absurd bad ]);
              ordered = ascending_beyond w.member.journal.base.upto (record_of receipt ∷ []) w.member.journal.records (w.sound.ordered w.node w.member w.here);
              older = older;
              sends = letters_sent core IsShape Good phases laws w (core.leave w.member.core) (section_journal (closed ∷ rest)) good;
            })
            grows),
      )
