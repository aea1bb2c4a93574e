-- Receipts of sections: what a mark adds to them, and what they tell of the sections.
use Rattle.std.proofs.Common.{ℕ, suc, ◌≤◌, ◌≡◌, inl, inr, true, false, not, cond, ◌&&◌, List, [], ◌∷◌, ◌++◌, length, nat_eq, refl, sym, ◌∙◌, ap, subst, arith}
use Rattle.mx_stamps.specs.Lists.{IsIn}
use Rattle.mx_stamps.proofs.Lists.{append_append, append_nil, and_true, cond_case, dec_eq, not_true}
use Rattle.mx_journal.specs.declared.receipts.Receipt.{Receipt}
use Rattle.mx_journal.specs.Drafted.{Drafted, record_of, with_read, with_write, fresh}
use Rattle.mx_journal.proofs.Choices.{cond_true, cond_false}
use Rattle.mx_member.specs.Receipts.{StandInOrder, receipt_writes, receipts_in, records_of}
use Rattle.mx_trace.specs.Sections.{Came, Got, Mark, Section, Went, Woke, Wrote, after_mark, after_marks, at_open, closed_record, closing, redrafted, section_journal, section_receipt, writes_in}
use Rattle.mx_trace.specs.Serial.{AllClosed, AllFit, Fits, IsSerialRead, ReadSerially}
use Rattle.mx_member.proofs.SectionLists.{at_open_newest, length_at_open}

-- the receipt of a mark, and those of marks, the newest first
abbrev pub closed_at : Mark → List Receipt
closed_at (Came i n) = []
closed_at (Got i register value) = []
closed_at (Wrote i register value) = []
closed_at (Went i receipt) = receipt ∷ []
closed_at (Woke i) = []

abbrev pub closed_in : List Mark → List Receipt
closed_in [] = []
closed_in (m ∷ ms) = closed_in ms ++ closed_at m

-- an open section has no receipt, a closed one has
pub receipts_open : (s : Section) (ss : List Section) → s.closed ≡ false → receipts_in (s ∷ ss) ≡ receipts_in ss
receipts_open s ss still = cond_false s.closed (section_receipt (suc (length ss)) s ∷ receipts_in ss) (receipts_in ss) still

pub receipts_closed : (s : Section) (ss : List Section) → s.closed ≡ true → receipts_in (s ∷ ss) ≡ section_receipt (suc (length ss)) s ∷ receipts_in ss
receipts_closed s ss shut = cond_true s.closed (section_receipt (suc (length ss)) s ∷ receipts_in ss) (receipts_in ss) shut

-- what is read and written in an open section changes no receipt
receipts_redrafted : (i : ℕ) (f : Drafted → Drafted) (ss : List Section) → receipts_in (at_open i (redrafted f) ss) ≡ receipts_in ss
receipts_redrafted i f [] = refl
receipts_redrafted i f (s ∷ ss) =
    cond_case (λ l. receipts_in l ≡ receipts_in (s ∷ ss)) (nat_eq s.node i && not s.closed) (redrafted f s ∷ ss) (s ∷ at_open i (redrafted f) ss)
    (λ t. let still : s.closed ≡ false = not_true s.closed (and_true (nat_eq s.node i) (not s.closed) t).1 in
    receipts_open (redrafted f s) ss still ∙ sym (receipts_open s ss still))
    (λ _.
    ap (λ n. cond s.closed (section_receipt (suc n) s ∷ receipts_in (at_open i (redrafted f) ss)) (receipts_in (at_open i (redrafted f) ss))) (length_at_open i (redrafted f) ss)
    ∙ ap (λ l. cond s.closed (section_receipt (suc (length ss)) s ∷ l) l) (receipts_redrafted i f ss))

-- a mark adds its own receipt
pub receipts_mark : (ss : List Section) (m : Mark) → Fits ss m → receipts_in (after_mark ss m) ≡ closed_at m ++ receipts_in ss
receipts_mark ss (Came i n) fits = refl
receipts_mark ss (Got i register value) fits = receipts_redrafted i (with_read register value) ss
receipts_mark ss (Wrote i register value) fits = receipts_redrafted i (with_write register value) ss
receipts_mark [] (Went i receipt) fits = absurd fits
receipts_mark (s ∷ ss) (Went i receipt) fits =
    ap receipts_in (at_open_newest i closing s ss fits.0.0 fits.0.1)
    ∙ ap (λ r. r ∷ receipts_in ss) (sym fits.1)
    ∙ ap (λ l. receipt ∷ l) (sym (receipts_open s ss fits.0.1))
receipts_mark ss (Woke i) fits = receipts_redrafted i (λ draft. fresh) ss

pub receipts_marks : (ss : List Section) (ms : List Mark) → AllFit ss ms → receipts_in (after_marks ss ms) ≡ closed_in ms ++ receipts_in ss
receipts_marks ss [] fit = refl
receipts_marks ss (m ∷ ms) fit =
    receipts_marks (after_mark ss m) ms fit.1
    ∙ ap (λ l. closed_in ms ++ l) (receipts_mark ss m fit.0)
    ∙ sym (append_append (closed_in ms) (closed_at m) (receipts_in ss))

-- the records of the receipts are the journal of the sections
pub receipts_journal : (ss : List Section) → section_journal ss ≡ records_of (receipts_in ss)
receipts_journal [] = refl
receipts_journal (s ∷ ss) =
    cond_case (λ l. section_journal ss ++ closed_record (suc (length ss)) s ≡ records_of l) s.closed (section_receipt (suc (length ss)) s ∷ receipts_in ss) (receipts_in ss)
    (λ t. ap (λ l. section_journal ss ++ l) (cond_true s.closed (record_of (section_receipt (suc (length ss)) s) ∷ []) [] t) ∙ ap (λ l. l ++ record_of (section_receipt (suc (length ss)) s) ∷ []) (receipts_journal ss))
    (λ f. ap (λ l. section_journal ss ++ l) (cond_false s.closed (record_of (section_receipt (suc (length ss)) s) ∷ []) [] f) ∙ append_nil (section_journal ss) ∙ receipts_journal ss)

-- where all sections are left, each has its receipt, and the receipts tell all that was written
pub receipts_length : (ss : List Section) → AllClosed ss → length (receipts_in ss) ≡ length ss
receipts_length [] all = refl
receipts_length (s ∷ ss) all = ap length (receipts_closed s ss all.0) ∙ ap suc (receipts_length ss all.1)

receipts_writes : (ss : List Section) → AllClosed ss → receipt_writes (receipts_in ss) ≡ writes_in ss
receipts_writes [] all = refl
receipts_writes (s ∷ ss) all = ap receipt_writes (receipts_closed s ss all.0) ∙ ap (λ l. l ++ s.draft.writes) (receipts_writes ss all.1)

-- so they stand one behind another
pub receipts_in_order : (ss : List Section) → AllClosed ss → ReadSerially ss → StandInOrder (receipts_in ss)
receipts_in_order [] all serial = tt
receipts_in_order (s ∷ ss) all serial =
    subst StandInOrder (sym (receipts_closed s ss all.0)) (
      ap suc (sym (receipts_length ss all.1)),
      (λ x h. subst (λ ws. IsSerialRead ws s.draft.writes x) (sym (receipts_writes ss all.1)) (serial.0 x h)),
      receipts_in_order ss all.1 serial.1,
    )

-- where receipts stand in order, none bears a number above how many there are
pub ordered_within : (rs : List Receipt) → StandInOrder rs → (r : Receipt) → IsIn r rs → (1 ≤ r.number) × (r.number ≤ length rs)
ordered_within [] o r h = absurd h
ordered_within (q ∷ rs) o r (inl e) = let n : r.number ≡ suc (length rs) = ap (λ (x : Receipt). x.number) e ∙ o.0 in (omega arith, omega arith)
ordered_within (q ∷ rs) o r (inr h) = let l = ordered_within rs o.2 r h in (l.0, omega (arith, l.1))

-- no two bear the same
pub ordered_same : (rs : List Receipt) → StandInOrder rs → (r s : Receipt) → IsIn r rs → IsIn s rs → r.number ≡ s.number → r ≡ s
ordered_same [] o r s h k e = absurd h
ordered_same (q ∷ rs) o r s (inl a) (inl b) e = a ∙ sym b
ordered_same (q ∷ rs) o r s (inl a) (inr k) e = absurd (let n : r.number ≡ suc (length rs) = ap (λ (x : Receipt). x.number) a ∙ o.0 in let l = ordered_within rs o.2 s k in omega (arith, l.1))
ordered_same (q ∷ rs) o r s (inr h) (inl b) e = absurd (let n : s.number ≡ suc (length rs) = ap (λ (x : Receipt). x.number) b ∙ o.0 in let l = ordered_within rs o.2 r h in omega (arith, l.1))
ordered_same (q ∷ rs) o r s (inr h) (inr k) e = ordered_same rs o.2 r s h k e

-- each number is borne
pub ordered_each : (rs : List Receipt) → StandInOrder rs → (n : ℕ) → 1 ≤ n → n ≤ length rs → (r : Receipt) × IsIn r rs × (r.number ≡ n)
ordered_each [] o n low high = absurd (omega arith)
ordered_each (q ∷ rs) o n low high = elim (dec_eq n (suc (length rs))) [
  | inl e ↦ (q, inl refl, o.0 ∙ sym e)
  | inr ne ↦ let l : n ≤ length rs = omega arith in let r = ordered_each rs o.2 n low l in (r.0, inr r.1, r.2)
]
