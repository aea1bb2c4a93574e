-- A section that was made and left.
use Rattle.std.proofs.Common.{◌≡◌, ◌∙◌, ℕ, List, [], ◌∷◌, ◌++◌, map, Result, Ok, refl, sym, ap, subst}
use Rattle.mx_journal.specs.declared.records.Write.{Write as OneWrite}
use Rattle.mx_journal.specs.declared.receipts.Receipt.{Receipt}
use Rattle.mx_journal.specs.Drafted.{Drafted, fresh, receipt_of}
use Rattle.mx_nodelaws.specs.Core.{Core}
use Rattle.mx_nodelaws.specs.World.{Done}
use Rattle.mx_nodelaws.specs.declared.phase.Phase.TheVariants.{Inside}
use Rattle.mx_nodelaws.specs.declared.faults.LeaveFault.{LeaveFault}
use Rattle.mx_member.specs.declared.acts.Act.TheVariants.{Leave}
use Rattle.mx_member.specs.declared.acts.Answer.TheVariants as answer
use Rattle.mx_member.specs.declared.parcel.Parcel.{Parcel}
use Rattle.mx_member.specs.Receipts.{closed_by}
use Rattle.mx_member.specs.Member.{MemberState, Setting}
use Rattle.mx_member.specs.Steps.{leave_at, leave_of, left}
use Rattle.mx_stations.specs.Posts.{does}
use Rattle.mx_stations.specs.Turns.{Station}
use Rattle.mx_jobs.specs.Laws.{AreThere, KeepsLaw}
use Rattle.mx_jobs.specs.Sections.{Drafts, HasRead, IsSection, Leaves, Pends, Rests, values_of}
use Rattle.mx_jobs.proofs.Members.{drafts_on, same_ok}
use Rattle.mx_jobs.specs.Terms.{Terms}

module _ {J : Type 0} (terms : Terms J) where
  section_made : (count : ℕ) (job after : J) (n me : ℕ) (registers values : List ℕ) (writes : List OneWrite) (d : Drafted) (r : Receipt) → terms.asks_for job registers → terms.makes job n values writes after → KeepsLaw terms job n values writes → HasRead count registers values d
      → AreThere count (map (λ (w : OneWrite). w.register) writes) → r ≡ receipt_of n me (record { reads = d.reads; writes = d.writes ++ writes }) → IsSection terms count job r after
  section_made count job after n me registers values writes d r asked made keeps has there is =
      subst (λ (x : Receipt). IsSection terms count job x after) (sym is) (record {
        asked = subst (terms.asks_for job) (sym has.registers_are) asked;
        read_there = subst (AreThere count) (sym has.registers_are) has.there;
        write_there = subst (λ (ws : List OneWrite). AreThere count (map (λ (w : OneWrite). w.register) ws)) (sym (ap (λ (ws : List OneWrite). ws ++ writes) has.no_writes)) there;
        first = has.first;
        made =
            subst (λ (ws : List OneWrite). terms.makes job n (values_of d.reads) ws after) (sym (ap (λ (ws : List OneWrite). ws ++ writes) has.no_writes))
            (subst (λ (vs : List ℕ). terms.makes job n vs writes after) (sym has.values_are) made);
        keeps =
            subst (λ (ws : List OneWrite). KeepsLaw terms job n (values_of d.reads) ws) (sym (ap (λ (ws : List OneWrite). ws ++ writes) has.no_writes))
            (subst (λ (vs : List ℕ). KeepsLaw terms job n vs writes) (sym has.values_are) keeps);
      })

  module _ {H S M : Type 0} (core : Core H S M) where
    left_at : (n : ℕ) (s : Station core) → core.phase s.me.member.core ≡ Inside n → leave_of core s.me.member ≡ left core n s.me.member
    left_at n s is = ap (leave_at core s.me.member) is

    leaves : (n : ℕ) (s t : Station core) (r : Receipt) → core.phase s.me.member.core ≡ Inside n → (leave_of core s.me.member).answer ≡ Ok r → t ≡ does core Leave s → Leaves core s r t
    leaves n s t r is told did = record {
      home = ap (λ (z : Station core). (z.table, z.nodes, z.me.node)) did;
      setting = ap (λ (z : Station core). z.me.member.setting) did ∙ ap (λ (z : Done (MemberState S) (Result Receipt LeaveFault) (Parcel M)). z.state.setting) (left_at n s is);
      receipts = ap (λ (z : Station core). z.me.receipts) did ∙ ap (λ (a : Result Receipt LeaveFault). s.me.receipts ++ closed_by (answer.Left a)) told;
    }

    closes : (n : ℕ) (s : Station core) (r : Receipt) → core.phase s.me.member.core ≡ Inside n → (leave_of core s.me.member).answer ≡ Ok r → r ≡ receipt_of n s.me.member.setting.me s.me.member.draft
    closes n s r is told = same_ok {F = LeaveFault} _ _ (sym told ∙ ap (λ (z : Done (MemberState S) (Result Receipt LeaveFault) (Parcel M)). z.answer) (left_at n s is))

    leaves_on : (s t u : Station core) (r : Receipt) → Rests core s t → Leaves core t r u → Leaves core s r u
    leaves_on s t u r a b = record {
      home = b.home ∙ a.home;
      setting = b.setting ∙ a.setting;
      receipts = b.receipts ∙ ap (λ (rs : List Receipt). rs ++ r ∷ []) a.receipts;
    }

    -- from the restart to the last write
    pub section_pends : (job after : J) (n : ℕ) (registers values : List ℕ) (writes : List OneWrite) (s a b c : Station core) → core.phase s.me.member.core ≡ Inside n → terms.asks_for job registers → terms.makes job n values writes after → KeepsLaw terms job n values writes → Drafts core s fresh a
        → ((d : Drafted) × HasRead a.me.member.setting.registers registers values d × Drafts core a d b)
        → Drafts core b (record { reads = b.me.member.draft.reads; writes = b.me.member.draft.writes ++ writes }) c × AreThere b.me.member.setting.registers (map (λ (w : OneWrite). w.register) writes)
        → Rests core s c × Pends terms core job c after
    section_pends job after n registers values writes s a b c is asked made keeps woke got wrote =
        let all = drafts_on core _ _ s b c (drafts_on core _ _ s a b woke got.2) wrote.0 in
        let count : ℕ = c.me.member.setting.registers in
        let read : HasRead count registers values got.0 = subst (λ (x : Setting). HasRead x.registers registers values got.0) (sym (wrote.0.rests.setting ∙ got.2.rests.setting)) got.1 in
        let there : AreThere count (map (λ (w : OneWrite). w.register) writes) = subst (λ (x : Setting). AreThere x.registers (map (λ (w : OneWrite). w.register) writes)) (sym wrote.0.rests.setting) wrote.1 in
        let drafted : c.me.member.draft ≡ record { reads = got.0.reads; writes = got.0.writes ++ writes } =
        wrote.0.drafted ∙ ap (λ (d : Drafted). record { reads = d.reads; writes = d.writes ++ writes }) got.2.drafted in
        let receipt : Receipt = receipt_of n c.me.member.setting.me c.me.member.draft in (
          all.rests,
          record {
            receipt = receipt;
            section = section_made count job after n c.me.member.setting.me registers values writes got.0 receipt asked made keeps read there (ap (receipt_of n c.me.member.setting.me) drafted);
            inside = ap core.phase all.same_core ∙ is;
            drafted = refl;
          },
        )

    -- and then the leaving
    pub pending_left : (job after : J) (r : Receipt) (s c t : Station core) → Rests core s c → Pends terms core job c after → (leave_of core c.me.member).answer ≡ Ok r → t ≡ does core Leave c
        → (x : Receipt) × IsSection terms s.me.member.setting.registers job x after × Leaves core s x t
    pending_left job after r s c t rests pends told did =
        let n : ℕ = pends.receipt.number in
        let same : r ≡ pends.receipt = closes n c r pends.inside told ∙ sym pends.drafted in (
          r,
          subst (λ (x : Receipt). IsSection terms s.me.member.setting.registers job x after) (sym same) (subst (λ (x : Setting). IsSection terms x.registers job pends.receipt after) rests.setting pends.section),
          leaves_on s c t r rests (leaves n c t r pends.inside told did),
        )
