-- Sections: which of them a mark changes, and what their journal holds.
use Rattle.std.proofs.Common.{ℕ, suc, ◌<◌, ◌≤◌, ◌≡◌, ◌≢◌, inl, inr, Bool, true, false, not, ◌&&◌, List, [], ◌∷◌, ◌++◌, length, nat_lt, nat_eq, refl, sym, ◌∙◌, ap, subst, arith}
use Rattle.mx_stamps.specs.Lists.{IsIn}
use Rattle.mx_stamps.proofs.Choices.{dec_le}
use Rattle.mx_stamps.proofs.Lists.{append_nil, cond_case, in_append, in_left, in_right}
use Rattle.mx_journal.specs.declared.records.Record.{Record}
use Rattle.mx_journal.specs.Agreement.{IsSubmap}
use Rattle.mx_journal.specs.Drafted.{record_of}
use Rattle.mx_journal.specs.Records.{Ascending}
use Rattle.mx_journal.specs.Settled.{Covers, JournalState}
use Rattle.mx_journal.proofs.Choices.{cond_true, cond_false, eq_is, eq_not, lt_is}
use Rattle.mx_trace.specs.Sections.{Section, at_open, closed_record, oldest, section_journal, section_receipt}
use Rattle.mx_member.specs.Journals.{IsJournalOf}
use Rattle.mx_trace.specs.Serial.{AllClosed}
use Rattle.mx_member.proofs.OfSections.{covered_there}

-- the newest section, where it is open, is its node's
pub at_open_newest : (i : ℕ) (f : Section → Section) (s : Section) (ss : List Section) → s.node ≡ i → s.closed ≡ false → at_open i f (s ∷ ss) ≡ f s ∷ ss
at_open_newest i f s ss e c =
    cond_true (nat_eq s.node i && not s.closed) (f s ∷ ss) (s ∷ at_open i f ss) (let k = eq_is s.node i e in cc)

-- no section of the node is open
pub at_open_none : (i : ℕ) (f : Section → Section) (ss : List Section) → AllClosed ss → at_open i f ss ≡ ss
at_open_none i f [] all = refl
at_open_none i f (s ∷ ss) all =
    cond_false (nat_eq s.node i && not s.closed) (f s ∷ ss) (s ∷ at_open i f ss) (shut (nat_eq s.node i) s.closed all.0)
    ∙ ap (λ l. s ∷ l) (at_open_none i f ss all.1)
  where
    shut : (b c : Bool) → c ≡ true → (b && not c) ≡ false
    shut true true e = refl
    shut true false e = sym e
    shut false c e = refl

-- only the newest section is open, and it is another node's
pub at_open_other : (i : ℕ) (f : Section → Section) (s : Section) (ss : List Section) → s.node ≢ i → AllClosed ss → at_open i f (s ∷ ss) ≡ s ∷ ss
at_open_other i f s ss ne all =
    cond_false (nat_eq s.node i && not s.closed) (f s ∷ ss) (s ∷ at_open i f ss) (let k = eq_not s.node i ne in cc)
    ∙ ap (λ l. s ∷ l) (at_open_none i f ss all)

pub length_at_open : (i : ℕ) (f : Section → Section) (ss : List Section) → length (at_open i f ss) ≡ length ss
length_at_open i f [] = refl
length_at_open i f (s ∷ ss) =
    cond_case (λ l. length l ≡ suc (length ss)) (nat_eq s.node i && not s.closed) (f s ∷ ss) (s ∷ at_open i f ss) (λ _. refl) (λ _. ap suc (length_at_open i f ss))

-- a closed section's record is its receipt's
pub in_closed : (n : ℕ) (s : Section) (x : Record) → IsIn x (closed_record n s) → x ≡ record_of (section_receipt n s)
in_closed n s x was =
    cond_case (λ l. IsIn x l → x ≡ record_of (section_receipt n s)) s.closed (record_of (section_receipt n s) ∷ []) []
    (λ _ h. elim h [ inl e ↦ e | inr bad ↦ absurd bad ]) (λ _ h. absurd h) was

-- records bear the numbers of sections
pub journal_high : (ss : List Section) (x : Record) → IsIn x (section_journal ss) → x.number ≤ length ss
journal_high [] x h = absurd h
journal_high (s ∷ ss) x h = elim (in_append x (section_journal ss) (closed_record (suc (length ss)) s) h) [
  | inl a ↦ let l = journal_high ss x a in omega arith
  | inr b ↦ let e : x.number ≡ suc (length ss) = ap (λ (z : Record). z.number) (in_closed (suc (length ss)) s x b) in omega arith
]

ascending_end : (k : ℕ) (xs : List Record) (x : Record) → Ascending k xs → k ≤ x.number → ((y : Record) → IsIn y xs → y.number < x.number) → Ascending k (xs ++ x ∷ [])
ascending_end k [] x a l h = (l, tt)
ascending_end k (y ∷ ys) x a l h = (a.0, ascending_end (suc y.number) ys x a.1 (h y (inl refl)) (λ z m. h z (inr m)))

-- the journal of the sections is a journal
pub journal_ascends : (ss : List Section) → Ascending 1 (section_journal ss)
journal_ascends [] = tt
journal_ascends (s ∷ ss) =
    cond_case (λ l. Ascending 1 (section_journal ss ++ l)) s.closed (record_of (section_receipt (suc (length ss)) s) ∷ []) []
    (λ _. ascending_end 1 (section_journal ss) (record_of (section_receipt (suc (length ss)) s)) (journal_ascends ss) (omega arith) (λ y m. let l = journal_high ss y m in omega arith))
    (λ _. subst (λ l. Ascending 1 l) (sym (append_nil (section_journal ss))) (journal_ascends ss))

-- what older sections recorded stands
pub journal_older : (s : Section) (ss : List Section) → IsSubmap (section_journal ss) (section_journal (s ∷ ss))
journal_older s ss x h = in_left x (section_journal ss) (closed_record (suc (length ss)) s) h

-- an open section has no record
pub journal_open : (s : Section) (ss : List Section) → s.closed ≡ false → section_journal (s ∷ ss) ≡ section_journal ss
journal_open s ss e =
    ap (λ l. section_journal ss ++ l) (cond_false s.closed (record_of (section_receipt (suc (length ss)) s) ∷ []) [] e) ∙ append_nil (section_journal ss)

-- a closed one has
pub journal_newest : (s : Section) (ss : List Section) → s.closed ≡ true → IsIn (record_of (section_receipt (suc (length ss)) s)) (section_journal (s ∷ ss))
journal_newest s ss e =
    in_right (record_of (section_receipt (suc (length ss)) s)) (section_journal ss) (closed_record (suc (length ss)) s)
    (subst (λ l. IsIn (record_of (section_receipt (suc (length ss)) s)) l) (sym (cond_true s.closed (record_of (section_receipt (suc (length ss)) s) ∷ []) [] e)) (inl refl))

-- a record of a number below that of the newest section is an older one's
pub journal_below : (s : Section) (ss : List Section) (x : Record) → IsIn x (section_journal (s ∷ ss)) → x.number ≤ length ss → IsIn x (section_journal ss)
journal_below s ss x h l = elim (in_append x (section_journal ss) (closed_record (suc (length ss)) s) h) [
  | inl a ↦ a
  | inr b ↦ absurd (let e : x.number ≡ suc (length ss) = ap (λ (z : Record). z.number) (in_closed (suc (length ss)) s x b) in omega arith)
]

-- a record of the newest section's number is its record
pub journal_at_newest : (s : Section) (ss : List Section) (x : Record) → IsIn x (section_journal (s ∷ ss)) → x.number ≡ suc (length ss) → x ≡ record_of (section_receipt (suc (length ss)) s)
journal_at_newest s ss x h e = elim (in_append x (section_journal ss) (closed_record (suc (length ss)) s) h) [
  | inl a ↦ absurd (let l = journal_high ss x a in omega arith)
  | inr b ↦ in_closed (suc (length ss)) s x b
]

-- what journals of the sections cover are numbers of sections, and a base stands for no others
pub covered_high : (ss : List Section) (journal : JournalState) → IsJournalOf (section_journal ss) journal → (n : ℕ) → Covers n journal → n ≤ length ss
covered_high ss journal of n h =
    let t = covered_there (section_journal ss) journal of n h in
    let l = journal_high ss t.0 t.1 in
    let e = t.2 in omega arith

pub base_high : (ss : List Section) (journal : JournalState) → IsJournalOf (section_journal ss) journal → journal.base.upto ≤ length ss
base_high ss journal of = elim (dec_le 1 journal.base.upto) [
  | inl l ↦ covered_high ss journal of journal.base.upto (inl (l, (omega arith)))
  | inr l ↦ omega arith
]

-- the first k sections of no more than k are all
pub oldest_all : (k : ℕ) (ss : List Section) → length ss ≤ k → oldest k ss ≡ ss
oldest_all k [] l = refl
oldest_all k (s ∷ ss) l = cond_true (nat_lt (length ss) k) (s ∷ ss) (oldest k ss) (lt_is (length ss) k (omega arith))
