-- Who is not inside does not leave, and who leaves needs memory where its record is lacking.
use Rattle.std.proofs.Common.{ℕ, ◌≡◌, [], ◌∷◌, Ok, Err, refl, sym, ◌∙◌, ap, subst}
use Rattle.mx_nodelaws.specs.World.{Done}
use Rattle.mx_nodelaws.specs.Core.{Core, IsInside}
use Rattle.mx_nodelaws.specs.declared.phase.Phase.{Phase}
use Rattle.mx_nodelaws.specs.declared.phase.Phase.TheVariants.{Idle, Waiting, Inside}
use Rattle.mx_nodelaws.specs.declared.faults.LeaveFault.TheVariants.{NotInside}
use Rattle.mx_journal.specs.declared.receipts.Receipt.{Receipt}
use Rattle.mx_journal.specs.declared.records.Record.{Record}
use Rattle.mx_journal.specs.Drafted.{Drafted, receipt_of, record_of, fresh}
use Rattle.mx_journal.specs.Settled.{Covers, JournalState, with_list}
use Rattle.mx_member.specs.declared.acts.Act.{Act}
use Rattle.mx_member.specs.declared.acts.Act.TheVariants as act
use Rattle.mx_member.specs.declared.acts.Answer.{Answer}
use Rattle.mx_member.specs.declared.acts.Answer.TheVariants as answer
use Rattle.mx_member.specs.declared.parcel.Parcel.{Parcel}
use Rattle.mx_member.specs.Member.{MemberState, guarded, with_journal}
use Rattle.mx_member.specs.Steps.{LacksItsRecord, leave_at, leave_of, left}
use Rattle.mx_member.specs.Acts.{NeedsMemory, act_of}

module _ {H S M : Type 0} (core : Core H S M) (m : MemberState S) where
  -- nothing changes, and nothing is sent
  abbrev pub stays : Done (MemberState S) Answer (Parcel M)
  stays = record { state = m; answer = answer.Left (Err NotInside); letters = [] }

  at : (p : Phase) → ((n : ℕ) → p ≡ Inside n → ⊥) → leave_at core m p ≡ record { state = m; answer = Err NotInside; letters = [] }
  at Idle out = refl
  at Waiting out = refl
  at (Inside n) out = absurd (out n refl)

  pub not_inside : (a : Act M) → a ≡ act.Leave → (IsInside core m.core → ⊥) → act_of core a m ≡ stays
  not_inside a is out =
      ap (λ b. act_of core b m) is
      ∙ ap (λ d. record { state = d.state; answer = answer.Left d.answer; letters = d.letters }) (at (core.phase m.core) (λ n e. out (n, e)))

  pub needs_memory : (a : Act M) → a ≡ act.Leave → LacksItsRecord core m → NeedsMemory core a m
  needs_memory a is lacks = subst (λ (b : Act M). NeedsMemory core b m) (sym is) lacks

-- a member that was refused memory has the journal that it had
pub unchanged : {S : Type 0} (was m : MemberState S) (journal : JournalState) → was ≡ m → journal ≡ was.journal → with_journal journal was ≡ m
unchanged was m journal same is = ap (λ j. with_journal j was) is ∙ same

-- it lacks its record where the journal does not cover the record of its receipt
pub lacks_record : {H S M : Type 0} (core : Core H S M) (m fields : MemberState S) (n : ℕ) (receipt : Receipt) (entry : Record) (draft : Drafted) → fields ≡ m → core.phase fields.core ≡ Inside n → receipt ≡ receipt_of n m.setting.me draft → entry ≡ record_of receipt → (Covers entry.number fields.journal → ⊥) → LacksItsRecord core m
lacks_record {S} core m fields n receipt entry draft same inside closed made none = (
  n,
  ap (λ (x : MemberState S). core.phase x.core) (sym same) ∙ inside,
  λ h.
      let number : entry.number ≡ n = ap (λ (x : Record). x.number) made ∙ ap (λ (x : Receipt). x.number) closed in
      none (subst (λ k. Covers k fields.journal) (sym number) (subst (λ (x : MemberState S). Covers n x.journal) (sym same) h)),
)

-- the leaving of a member that is inside, whose fields are known
module _ {H S M : Type 0} (core : Core H S M) (m fields : MemberState S) (n : ℕ) (same : fields ≡ m) (is : core.phase fields.core ≡ Inside n) where
  leaves : leave_of core m ≡ left core n fields
  leaves = ap (λ x. leave_of core x) (sym same) ∙ ap (λ p. leave_at core fields p) is

  pub left_state : (s : S) (journal : JournalState) (draft : Drafted) → s ≡ (core.leave fields.core).state → journal ≡ with_list (record_of (receipt_of n fields.setting.me fields.draft) ∷ []) fields.journal → draft ≡ fresh →
      ◌≡◌ {A = MemberState S} (record { setting = fields.setting; core = s; journal = journal; draft = draft }) (leave_of core m).state
  left_state s journal draft a b c =
      ap (λ x. let y : MemberState S = record { setting = fields.setting; core = x; journal = journal; draft = draft } in y) a
      ∙ ap (λ x. let y : MemberState S = record { setting = fields.setting; core = (core.leave fields.core).state; journal = x; draft = draft } in y) b
      ∙ ap (λ x. let y : MemberState S = record { setting = fields.setting; core = (core.leave fields.core).state; journal = with_list (record_of (receipt_of n fields.setting.me fields.draft) ∷ []) fields.journal; draft = x } in y) c
      ∙ sym (ap (λ d. d.state) leaves)

  pub left_answer : (receipt : Receipt) → receipt ≡ receipt_of n fields.setting.me fields.draft → (leave_of core m).answer ≡ Ok receipt
  left_answer receipt made = ap (λ d. d.answer) leaves ∙ ap (λ (r : Receipt). Ok r) (sym made)

  pub left_letters : guarded (core.leave fields.core).letters ≡ (leave_of core m).letters
  left_letters = sym (ap (λ d. d.letters) leaves)
