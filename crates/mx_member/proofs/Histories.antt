-- Histories mark by mark: one after the other, and what a history that fits says of entries.
use Rattle.std.proofs.Common.{ℕ, suc, ◌≡◌, not, ◌&&◌, List, [], ◌∷◌, ◌++◌, Option, Some, None, length, nat_eq, refl, sym, ap, subst, if◌then◌else◌}
use Rattle.mx_stamps.proofs.Lists.{cond_case}
use Rattle.mx_journal.specs.declared.receipts.Receipt.{Receipt}
use Rattle.mx_journal.specs.Drafted.{with_read, with_write, fresh}
use Rattle.mx_journal.proofs.Choices.{cond_true, cond_false}
use Rattle.mx_trace.specs.Sections.{Came, Got, Mark, Section, Went, Woke, Wrote, after_mark, after_marks, at_open, closing, opened, redrafted}
use Rattle.mx_trace.specs.Serial.{AllClosed, AllFit, Alternate, NumberedFrom}
use Rattle.mx_member.proofs.SectionLists.{at_open_newest, at_open_none, length_at_open}

-- the sections after two histories, one behind the other
pub after_marks-append : (ss : List Section) (ms ns : List Mark) → after_marks ss (ms ++ ns) ≡ after_marks (after_marks ss ms) ns
after_marks-append ss [] ns = refl
after_marks-append ss (m ∷ ms) ns = after_marks-append (after_mark ss m) ms ns

-- a history that fits behind one that fits
pub AllFit-append : (ss : List Section) (ms ns : List Mark) → AllFit ss ms → AllFit (after_marks ss ms) ns → AllFit ss (ms ++ ns)
AllFit-append ss [] ns a b = b
AllFit-append ss (m ∷ ms) ns a b = (a.0, AllFit-append (after_mark ss m) ms ns a.1 b)

-- a mark that enters nothing leaves the next number
same_next : (i : ℕ) (f : Section → Section) (ss : List Section) (ms : List Mark) → NumberedFrom (suc (length (at_open i f ss))) ms → NumberedFrom (suc (length ss)) ms
same_next i f ss ms h = subst (λ k. NumberedFrom (suc k) ms) (length_at_open i f ss) h

-- in a history that fits the entries bear one number after the other
pub numbered_if_fit : (ss : List Section) (ms : List Mark) → AllFit ss ms → NumberedFrom (suc (length ss)) ms
numbered_if_fit ss [] a = tt
numbered_if_fit ss (Came i n ∷ ms) a = (a.0.1, numbered_if_fit (opened i ∷ ss) ms a.1)
numbered_if_fit ss (Got i r v ∷ ms) a = same_next i (redrafted (with_read r v)) ss ms (numbered_if_fit (at_open i (redrafted (with_read r v)) ss) ms a.1)
numbered_if_fit ss (Wrote i r v ∷ ms) a = same_next i (redrafted (with_write r v)) ss ms (numbered_if_fit (at_open i (redrafted (with_write r v)) ss) ms a.1)
numbered_if_fit ss (Went i receipt ∷ ms) a = same_next i closing ss ms (numbered_if_fit (at_open i closing ss) ms a.1)
numbered_if_fit ss (Woke i ∷ ms) a = same_next i (redrafted (λ draft. fresh)) ss ms (numbered_if_fit (at_open i (redrafted (λ draft. fresh)) ss) ms a.1)

-- who is inside the newest section, and its number
abbrev open_in : List Section → Option (ℕ × ℕ)
open_in [] = None
open_in (s ∷ ss) = if s.closed then None else Some (s.node, suc (length ss))

-- only the newest section may be open
abbrev RestClosed : List Section → Type 0
RestClosed [] = Unit {0}
RestClosed (s ∷ ss) = AllClosed ss

nobody_inside : (ss : List Section) → AllClosed ss → open_in ss ≡ None
nobody_inside [] all = refl
nobody_inside (s ∷ ss) all = cond_true s.closed None (Some (s.node, suc (length ss))) all.0

-- what holds after a change of the newest section, whether or not it is the node's
newest_changed : (P : List Section → Type 0) (i : ℕ) (f : Section → Section) (s : Section) (ss : List Section) → AllClosed ss → P (f s ∷ ss) → P (s ∷ ss) → P (at_open i f (s ∷ ss))
newest_changed P i f s ss all a b =
    cond_case P (nat_eq s.node i && not s.closed) (f s ∷ ss) (s ∷ at_open i f ss) (λ _. a) (λ _. subst (λ l. P (s ∷ l)) (sym (at_open_none i f ss all)) b)

alternating : (ss : List Section) (ms : List Mark) → RestClosed ss → AllFit ss ms → Alternate (open_in ss) ms
alternating ss [] all a = tt
alternating ss (Came i n ∷ ms) all a =
    subst (λ o. Alternate o (Came i n ∷ ms)) (sym (nobody_inside ss a.0.0))
    (subst (λ k. Alternate (Some (i, k)) ms) (sym a.0.1) (alternating (opened i ∷ ss) ms a.0.0 a.1))
alternating [] (Got i r v ∷ ms) all a = absurd a.0.0
alternating (s ∷ ss) (Got i r v ∷ ms) all a =
    alternating (redrafted (with_read r v) s ∷ ss) ms all (subst (λ l. AllFit l ms) (at_open_newest i (redrafted (with_read r v)) s ss a.0.0.0 a.0.0.1) a.1)
alternating [] (Wrote i r v ∷ ms) all a = absurd a.0
alternating (s ∷ ss) (Wrote i r v ∷ ms) all a =
    alternating (redrafted (with_write r v) s ∷ ss) ms all (subst (λ l. AllFit l ms) (at_open_newest i (redrafted (with_write r v)) s ss a.0.0 a.0.1) a.1)
alternating [] (Went i receipt ∷ ms) all a = absurd a.0
alternating (s ∷ ss) (Went i receipt ∷ ms) all a =
    subst (λ o. Alternate o (Went i receipt ∷ ms)) (sym (cond_false s.closed None (Some (s.node, suc (length ss))) a.0.0.1))
    (sym a.0.0.0, ap (λ (x : Receipt). x.number) a.0.1, alternating (closing s ∷ ss) ms all (subst (λ l. AllFit l ms) (at_open_newest i closing s ss a.0.0.0 a.0.0.1) a.1))
alternating [] (Woke i ∷ ms) all a = alternating [] ms tt a.1
alternating (s ∷ ss) (Woke i ∷ ms) all a =
    newest_changed (λ l. AllFit l ms → Alternate (open_in (s ∷ ss)) ms) i (redrafted (λ draft. fresh)) s ss all
    (λ h. alternating (redrafted (λ draft. fresh) s ∷ ss) ms all h) (λ h. alternating (s ∷ ss) ms all h) a.1

-- in a history that fits entries and leavings alternate, and a leaving has the node and the number of the entry before it
pub alternate_if_fit : (ms : List Mark) → AllFit [] ms → Alternate None ms
alternate_if_fit ms a = alternating [] ms tt a
