-- What reads, writes and leaving make of a member.
use Rattle.std.proofs.Common.{◌≡◌, ◌∙◌, ℕ, zero, suc, arith, Bool, List, [], ◌∷◌, ◌++◌, Result, Ok, Err, IsErrAnd, refl, sym, ap, subst, length-append}
use Rattle.std.specs.Prelude.{◌+◌, ◌<◌, ◌≤◌, get_or, length, map, nat_le, nat_lt, take, cond}
use Rattle.std.proofs.lemmas.Bool.Decides.{nat_tests}
use Rattle.std.proofs.lemmas.List.{append-nil, append_assoc, length-take-le, length_push, map_push, take_more}
use Rattle.std.proofs.lemmas.List.Elements.{All-nil, All-push}
use Rattle.mx_journal.specs.declared.receipts.Read.{Read as OneRead}
use Rattle.mx_journal.specs.declared.records.Write.{Write as OneWrite}
use Rattle.mx_stamps.proofs.Choices.{cond_case, cond_false, le_false, le_true}
use Rattle.mx_journal.specs.declared.receipts.Receipt.{Receipt}
use Rattle.mx_journal.specs.Drafted.{Drafted, fresh, with_read, with_write}
use Rattle.mx_nodelaws.specs.Core.{Core, IsInside}
use Rattle.mx_nodelaws.specs.World.{Quiet}
use Rattle.mx_nodelaws.specs.declared.phase.Phase.{Phase}
use Rattle.mx_nodelaws.specs.declared.phase.Phase.TheVariants.{Idle, Waiting, Inside}
use Rattle.mx_member.specs.declared.acts.Act.{Act}
use Rattle.mx_member.specs.declared.acts.Act.TheVariants.{Read, Restart, Write}
use Rattle.mx_member.specs.declared.faults.ReadFault.{ReadFault}
use Rattle.mx_member.specs.declared.faults.ReadFault.TheVariants as read
use Rattle.mx_member.specs.declared.faults.WriteFault.{WriteFault}
use Rattle.mx_member.specs.Acts.{act_of}
use Rattle.mx_member.specs.Receipts.{closed_by}
use Rattle.mx_member.specs.Member.{MemberState, Setting, first_gap, with_draft}
use Rattle.mx_member.specs.Steps.{read_at, read_inside, read_of, refusing, write_at, write_inside, write_of}
use Rattle.mx_stations.specs.Posts.{does}
use Rattle.mx_stations.specs.Turns.{Station}
use Rattle.mx_jobs.specs.Laws.{AreThere}
use Rattle.mx_jobs.specs.Sections.{Drafts, HasRead, Rests}

-- either way it is so
pub pick : {A : Type 0} (P : A → Type 0) (b : Bool) (x y : A) → P x → P y → P (cond b x y)
pick P b x y one other = cond_case P b x y (λ is. one) (λ is. other)

ok_err : {A F : Type 0} (v : A) (f : F) → ◌≡◌ {A = Result A F} (Ok v) (Err f) → ⊥
ok_err v f e = cc

same_err : {A F : Type 0} (f h : F) → ◌≡◌ {A = Result A F} (Err f) (Err h) → f ≡ h
same_err f h e = cc

pub same_ok : {A F : Type 0} (v w : A) → ◌≡◌ {A = Result A F} (Ok v) (Ok w) → v ≡ w
same_ok v w e = cc

other_fault : (f : ReadFault) → (read.NoRegister ≡ f → ⊥) → ◌≡◌ {A = Result ℕ ReadFault} (Err read.NoRegister) (Err f) → ⊥
other_fault f not e = not (same_err {A = ℕ} read.NoRegister f e)

module _ {S : Type 0} (m : MemberState S) where
  -- a step that answers this value notes a read of it, of a register that is there
  abbrev Notes : ℕ → ℕ → Quiet (MemberState S) (Result ℕ ReadFault) → Type 0
  Notes register v step = Ok v ≡ step.answer → (step.state ≡ with_draft (with_read register v m.draft) m) × (register < m.setting.registers)

  refuses : (register v : ℕ) (f : ReadFault) → Notes register v (refusing m f)
  refuses register v f e = absurd (ok_err v f e)

  inside_notes : (register n v : ℕ) → Notes register v (read_inside register n m)
  inside_notes register n v =
      cond_case (Notes register v) (nat_le m.setting.registers register) _ _ (λ is. refuses register v _) (λ is.
      pick (Notes register v) (nat_lt (first_gap m.journal) n) _ _ (refuses register v _)
      (pick (Notes register v) (nat_le 8 (length m.draft.reads)) _ _ (refuses register v _)
      (pick (Notes register v) (nat_le n m.journal.base.upto) _ _ (refuses register v _)
      (λ e. (ap (λ w. with_draft (with_read register w m.draft) m) (sym (same_ok {F = ReadFault} v _ e)), le_false m.setting.registers register is)))))

  -- a step that is done notes a write, to a register that is there
  abbrev Wrote : ℕ → ℕ → Quiet (MemberState S) (Result (Unit {0}) WriteFault) → Type 0
  Wrote register v step = Ok tt ≡ step.answer → (step.state ≡ with_draft (with_write register v m.draft) m) × (register < m.setting.registers)

  inside_wrote : (register v : ℕ) → Wrote register v (write_inside register v m)
  inside_wrote register v =
      cond_case (Wrote register v) (nat_le m.setting.registers register) _ _ (λ is e. absurd (ok_err tt _ e))
      (λ is. pick (Wrote register v) (nat_le 8 (length m.draft.writes)) _ _ (λ e. absurd (ok_err tt _ e)) (λ e. (refl, le_false m.setting.registers register is)))

  -- a step that is refused for want of its register reads none that is there
  abbrev Lacks : ℕ → Quiet (MemberState S) (Result ℕ ReadFault) → Type 0
  Lacks register step = Err read.NoRegister ≡ step.answer → register < m.setting.registers → ⊥

  inside_lacks : (register n : ℕ) → Lacks register (read_inside register n m)
  inside_lacks register n =
      cond_case (Lacks register) (nat_le m.setting.registers register) _ _ (λ is e low. let high = le_true m.setting.registers register is in omega (arith, high, low))
      (λ is. pick (Lacks register) (nat_lt (first_gap m.journal) n) _ _ (λ e low. other_fault _ (λ is. cc) e)
      (pick (Lacks register) (nat_le 8 (length m.draft.reads)) _ _ (λ e low. other_fault _ (λ is. cc) e)
      (pick (Lacks register) (nat_le n m.journal.base.upto) _ _ (λ e low. other_fault _ (λ is. cc) e) (λ e low. ok_err _ _ (sym e)))))

  -- a draft with room takes each write to a register that is there
  inside_takes : (register v : ℕ) → length m.draft.writes < 8 → register < m.setting.registers → (write_inside register v m).answer ≡ Ok tt
  inside_takes register v room there =
      ap (λ (q : Quiet (MemberState S) (Result (Unit {0}) WriteFault)). q.answer)
      (cond_false (nat_le m.setting.registers register) _ _ (grind (arith, nat_tests)) ∙ cond_false (nat_le 8 (length m.draft.writes)) _ _ (grind (arith, nat_tests)))

module _ {H S M : Type 0} (core : Core H S M) where
  at_lacks : (register : ℕ) (m : MemberState S) (p : Phase) → Lacks m register (read_at core register m p)
  at_lacks register m Idle e low = other_fault _ (λ is. cc) e
  at_lacks register m Waiting e low = other_fault _ (λ is. cc) e
  at_lacks register m (Inside n) e low = inside_lacks m register n e low

  pub read_lacks : (register : ℕ) (s : Station core) → Err read.NoRegister ≡ (read_of core register s.me.member).answer → register < s.me.member.setting.registers → ⊥
  read_lacks register s e low = at_lacks register s.me.member (core.phase s.me.member.core) e low

  -- a write that is refused inside, where the draft has room, is to a register that is not there
  pub write_lacks : (register v : ℕ) (f : WriteFault) (s : Station core) → IsInside core s.me.member.core → length s.me.member.draft.writes < 8 → Err f ≡ (write_of core register v s.me.member).answer → register < s.me.member.setting.registers → ⊥
  write_lacks register v f s inside room e there =
      ok_err tt f (sym (e ∙ ap (λ (p : Phase). (write_at core register v s.me.member p).answer) inside.1 ∙ inside_takes s.me.member register v room there))

  at_notes : (register v : ℕ) (m : MemberState S) (p : Phase) → Notes m register v (read_at core register m p)
  at_notes register v m Idle e = absurd (ok_err v _ e)
  at_notes register v m Waiting e = absurd (ok_err v _ e)
  at_notes register v m (Inside n) e = inside_notes m register n v e

  at_wrote : (register v : ℕ) (m : MemberState S) (p : Phase) → Wrote m register v (write_at core register v m p)
  at_wrote register v m Idle e = absurd (ok_err tt _ e)
  at_wrote register v m Waiting e = absurd (ok_err tt _ e)
  at_wrote register v m (Inside n) e = inside_wrote m register v e

  -- what is read or written is there
  pub read_there : (register v : ℕ) (s : Station core) → Ok v ≡ (read_of core register s.me.member).answer → register < s.me.member.setting.registers
  read_there register v s found = (at_notes register v s.me.member (core.phase s.me.member.core) found).1

  pub write_there : (register v : ℕ) (s : Station core) → Ok tt ≡ (write_of core register v s.me.member).answer → register < s.me.member.setting.registers
  write_there register v s found = (at_wrote register v s.me.member (core.phase s.me.member.core) found).1

  -- an act that answers no receipt, and leaves the setting
  pub rests_acting : (a : Act M) (s t : Station core) → closed_by (act_of core a s.me.member).answer ≡ [] → (act_of core a s.me.member).state.setting ≡ s.me.member.setting → t ≡ does core a s → Rests core s t
  rests_acting a s t none setting did = record {
    home = ap (λ (z : Station core). (z.table, z.nodes, z.me.node)) did;
    setting = ap (λ (z : Station core). z.me.member.setting) did ∙ setting;
    receipts = ap (λ (z : Station core). z.me.receipts) did ∙ ap (λ (rs : List Receipt). s.me.receipts ++ rs) none ∙ append-nil s.me.receipts;
  }

  pub rests_here : (s t : Station core) → t ≡ s → Rests core s t
  rests_here s t same = record {
    home = ap (λ (z : Station core). (z.table, z.nodes, z.me.node)) same;
    setting = ap (λ (z : Station core). z.me.member.setting) same;
    receipts = ap (λ (z : Station core). z.me.receipts) same;
  }

  pub rests_on : (s t u : Station core) → Rests core s t → Rests core t u → Rests core s u
  rests_on s t u a b = record { home = b.home ∙ a.home; setting = b.setting ∙ a.setting; receipts = b.receipts ∙ a.receipts }

  -- an act that makes this draft of the node's
  drafts_acting : (a : Act M) (draft : Drafted) (s t : Station core) → closed_by (act_of core a s.me.member).answer ≡ [] → (act_of core a s.me.member).state ≡ with_draft draft s.me.member → t ≡ does core a s → Drafts core s draft t
  drafts_acting a draft s t none made did = record {
    rests = rests_acting a s t none (ap (λ (z : MemberState S). z.setting) made) did;
    same_core = ap (λ (z : Station core). z.me.member.core) did ∙ ap (λ (z : MemberState S). z.core) made;
    drafted = ap (λ (z : Station core). z.me.member.draft) did ∙ ap (λ (z : MemberState S). z.draft) made;
  }

  pub drafts_here : (s t : Station core) → t ≡ s → Drafts core s s.me.member.draft t
  drafts_here s t same = record {
    rests = rests_here s t same;
    same_core = ap (λ (z : Station core). z.me.member.core) same;
    drafted = ap (λ (z : Station core). z.me.member.draft) same;
  }

  pub drafts_on : (d e : Drafted) (s t u : Station core) → Drafts core s d t → Drafts core t e u → Drafts core s e u
  drafts_on d e s t u a b = record { rests = rests_on s t u a.rests b.rests; same_core = b.same_core ∙ a.same_core; drafted = b.drafted }

  pub drafts_own : (s t : Station core) (d : Drafted) → Drafts core s d t → Drafts core s t.me.member.draft t
  drafts_own s t d did = record { rests = did.rests; same_core = did.same_core; drafted = refl }

  pub restarted : (s t : Station core) → t ≡ does core Restart s → Drafts core s fresh t
  restarted s t did = drafts_acting Restart fresh s t refl refl did

  -- a read that found this value
  pub read_drafts : (register v : ℕ) (s t : Station core) → Ok v ≡ (read_of core register s.me.member).answer → t ≡ does core (Read register) s → Drafts core s (with_read register v s.me.member.draft) t
  read_drafts register v s t found did = drafts_acting (Read register) (with_read register v s.me.member.draft) s t refl (at_notes register v s.me.member (core.phase s.me.member.core) found).0 did

  pub write_drafts : (register v : ℕ) (s t : Station core) → Ok tt ≡ (write_of core register v s.me.member).answer → t ≡ does core (Write register v) s → Drafts core s (with_write register v s.me.member.draft) t
  write_drafts register v s t found did = drafts_acting (Write register v) (with_write register v s.me.member.draft) s t refl (at_wrote register v s.me.member (core.phase s.me.member.core) found).0 did

-- the fault that was passed on
pub which : {A : Type 0} (r : Result A ReadFault) (f g : ReadFault) → IsErrAnd r (λ x. x ≡ f) → r ≡ Err g → f ≡ g
which (Ok x) f g is e = absurd (ok_err x g e)
which {A} (Err x) f g is e = sym is ∙ same_err {A = A} x g e

-- writes that are noted so far leave room for one of eight
pub room_left : (had all : List OneWrite) (k : ℕ) (now : List OneWrite) → had ≡ [] → length all ≤ 8 → k < length all → now ≡ had ++ take k all → length now < 8
room_left had all k now none few low is =
    let long = ap length is ∙ length-append had (take k all) in
    let nothing = ap length none in
    let cut = length-take-le k all (omega arith) in
    omega (arith, long, nothing, cut, few, low)

-- the register at a place of those that are there
pub there_at : (count : ℕ) (rs : List ℕ) (k : ℕ) → k < length rs → AreThere count rs → get_or rs k 0 < count
there_at count [] k low all = absurd (omega (arith, low))
there_at count (r ∷ rs) zero low all = all.0
there_at count (r ∷ rs) (suc k) low all = there_at count rs k (omega (arith, low)) all.1

pub written_at : (count : ℕ) (ws : List OneWrite) (k : ℕ) (z : OneWrite) → k < length ws → AreThere count (map (λ (w : OneWrite). w.register) ws) → (get_or ws k z).register < count
written_at count [] k z low all = absurd (omega (arith, low))
written_at count (w ∷ ws) zero z low all = all.0
written_at count (w ∷ ws) (suc k) z low all = written_at count ws k z (omega (arith, low)) all.1

there_push : (count : ℕ) (rs : List ℕ) (r : ℕ) → AreThere count rs → r < count → AreThere count (rs ++ r ∷ [])
there_push count [] r all low = (low, tt)
there_push count (x ∷ rs) r all low = (all.0, there_push count rs r all.1 low)

pub nothing_read : (count : ℕ) (values : List ℕ) (draft : Drafted) → values ≡ [] → draft ≡ fresh → HasRead count [] values draft
nothing_read count values draft none is = subst (λ (vs : List ℕ). HasRead count [] vs draft) (sym none) (subst (HasRead count [] []) (sym is) (record { there = tt; registers_are = refl; values_are = refl; first = All-nil _; no_writes = refl }))

read_more : (count : ℕ) (registers values : List ℕ) (k v : ℕ) (draft : Drafted) → k < length registers → get_or registers k 0 < count → HasRead count (take k registers) values draft → HasRead count (take (k + 1) registers) (values ++ v ∷ []) (with_read (get_or registers k 0) v draft)
read_more count registers values k v draft low here has =
    let register : ℕ = get_or registers k 0 in
    let one : OneRead = record { value = v; register = register; after = length draft.writes } in
    record {
      there = subst (AreThere count) (sym (take_more registers k 0 low)) (there_push count (take k registers) register has.there here);
      registers_are = map_push (λ (x : OneRead). x.register) draft.reads one ∙ ap (λ (rs : List ℕ). rs ++ register ∷ []) has.registers_are ∙ sym (take_more registers k 0 low);
      values_are = map_push (λ (x : OneRead). x.value) draft.reads one ∙ ap (λ (vs : List ℕ). vs ++ v ∷ []) has.values_are;
      first = All-push (λ (x : OneRead). x.after ≡ 0) draft.reads one has.first (ap length has.no_writes);
      no_writes = has.no_writes;
    }

pub all_read : (count : ℕ) (registers values : List ℕ) (k : ℕ) (draft : Drafted) → take k registers ≡ registers → HasRead count (take k registers) values draft → HasRead count registers values draft
all_read count registers values k draft all has = subst (λ (rs : List ℕ). HasRead count rs values draft) all has

module _ {H S M : Type 0} (core : Core H S M) where
  -- one more of the registers was read
  pub read_on : (registers values more : List ℕ) (k v : ℕ) (s t u : Station core) → k < length registers → get_or registers k 0 < t.me.member.setting.registers
      → Drafts core s t.me.member.draft t × HasRead s.me.member.setting.registers (take k registers) values t.me.member.draft × (length values ≡ k) → Drafts core t (with_read (get_or registers k 0) v t.me.member.draft) u → more ≡ values ++ v ∷ []
      → Drafts core s u.me.member.draft u × HasRead s.me.member.setting.registers (take (k + 1) registers) more u.me.member.draft × (length more ≡ k + 1)
  read_on registers values more k v s t u low here far did grown = let count : ℕ = s.me.member.setting.registers in (
    drafts_own core s u _ (drafts_on core _ _ s t u far.0 did),
    subst (λ (vs : List ℕ). HasRead count (take (k + 1) registers) vs u.me.member.draft) (sym grown)
        (subst (HasRead count (take (k + 1) registers) (values ++ v ∷ [])) (sym did.drafted) (read_more count registers values k v t.me.member.draft low (subst (λ (x : Setting). get_or registers k 0 < x.registers) far.0.rests.setting here) far.1)),
    ap length grown ∙ length_push values v ∙ ap (λ (n : ℕ). n + 1) far.2,
  )

  pub write_on : (writes : List OneWrite) (k : ℕ) (z : OneWrite) (s t u : Station core) (d : Drafted) → k < length writes → Drafts core s (record { reads = d.reads; writes = d.writes ++ take k writes }) t
      → Drafts core t (with_write (get_or writes k z).register (get_or writes k z).value t.me.member.draft) u → Drafts core s (record { reads = d.reads; writes = d.writes ++ take (k + 1) writes }) u
  write_on writes k z s t u d low far did =
      let w : OneWrite = get_or writes k z in
      let noted : u.me.member.draft ≡ record { reads = d.reads; writes = (d.writes ++ take k writes) ++ w ∷ [] } = did.drafted ∙ ap (λ (x : Drafted). with_write w.register w.value x) far.drafted in
      let grown : (d.writes ++ take k writes) ++ w ∷ [] ≡ d.writes ++ take (k + 1) writes =
      append_assoc d.writes (take k writes) (w ∷ []) ∙ ap (λ (ws : List OneWrite). d.writes ++ ws) (sym (take_more writes k z low)) in
      let all = drafts_on core _ _ s t u far did in
      record { rests = all.rests; same_core = all.same_core; drafted = noted ∙ ap (λ (ws : List OneWrite). record { reads = d.reads; writes = ws }) grown }

  -- and the registers that were written so far are there
  pub there_on : (writes : List OneWrite) (k : ℕ) (z : OneWrite) (s t : Station core) → k < length writes → (get_or writes k z).register < t.me.member.setting.registers → t.me.member.setting ≡ s.me.member.setting
      → AreThere s.me.member.setting.registers (map (λ (w : OneWrite). w.register) (take k writes)) → AreThere s.me.member.setting.registers (map (λ (w : OneWrite). w.register) (take (k + 1) writes))
  there_on writes k z s t low here same all =
      let w : OneWrite = get_or writes k z in
      let grown : map (λ (x : OneWrite). x.register) (take (k + 1) writes) ≡ map (λ (x : OneWrite). x.register) (take k writes) ++ w.register ∷ [] =
      ap (map (λ (x : OneWrite). x.register)) (take_more writes k z low) ∙ map_push (λ (x : OneWrite). x.register) (take k writes) w in
      subst (AreThere s.me.member.setting.registers) (sym grown) (there_push s.me.member.setting.registers _ w.register all (subst (λ (x : Setting). w.register < x.registers) same here))
