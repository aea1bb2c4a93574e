-- What a mark breaks, and where it breaks nothing.
use Rattle.std.proofs.Common.{ℕ, suc, ◌≡◌, ◌&&◌, Bool, true, false, cond, List, [], ◌∷◌, Option, Some, None, length, nat_eq, refl, sym, ◌∙◌, ap, subst}
use Rattle.std.proofs.lemmas.Option.{same_Some}
use Rattle.mx_stamps.proofs.Lists.{none_is_no_some}
use Rattle.mx_journal.proofs.Choices.{cond_true, eq_is}
use Rattle.mx_journal.specs.declared.receipts.Receipt.{Receipt}
use Rattle.mx_registers.specs.Registers.{applied}
use Rattle.mx_trace.specs.Sections.{Mark, Came, Got, Wrote, Went, Woke, Section, writes_in}
use Rattle.mx_trace.specs.Serial.{AllClosed, Alternate, Fits, IsInNewest}
use Rattle.mx_explorer.specs.declared.verdict.Clause.{Clause}
use Rattle.mx_explorer.specs.declared.verdict.Clause.TheVariants.{Overlap, Number, Read}
use Rattle.mx_explorer.specs.Ledger.{at_entry, broken_by, holder, is_node, older}
use Rattle.mx_explorer.proofs.Marks.{BreaksFrom, SoundFrom, alternate_got, standing, standing_none}

cond_some : (b : Bool) (c d : Clause) → cond b None (Some c) ≡ Some d → (b ≡ false) × (c ≡ d)
cond_some true c d e = absurd (none_is_no_some d e)
cond_some false c d e = (refl, same_Some c d e)

and_is : (a b : Bool) → a ≡ true → b ≡ true → (a && b) ≡ true
and_is a b x y = ap (λ c. c && b) x ∙ y

true_is_not_false : (b : Bool) → b ≡ true → b ≡ false → ⊥
true_is_not_false b t f = cc

free_of : (closed : Bool) (node i n k : ℕ) (rest : List Mark) → Alternate (cond closed None (Some (node, k))) (Came i n ∷ rest) → cond closed None (Some node) ≡ None
free_of true node i n k rest a = refl
free_of false node i n k rest a = absurd a

leaving_of : (closed : Bool) (node i k : ℕ) (receipt : Receipt) (rest : List Mark) → Alternate (cond closed None (Some (node, k))) (Went i receipt ∷ rest) → (is_node i (cond closed None (Some node)) && nat_eq receipt.number k) ≡ true
leaving_of true node i k receipt rest a = absurd a
leaving_of false node i k receipt rest a = and_is (nat_eq node i) (nat_eq receipt.number k) (eq_is node i (sym a.0)) (eq_is receipt.number k a.1)

closed_holder : (ss : List Section) → AllClosed ss → holder ss ≡ None
closed_holder [] h = refl
closed_holder (s ∷ ss) h = ap (λ b. cond b None (Some s.node)) h.0

inside_newest : (i : ℕ) (ss : List Section) → IsInNewest i ss → is_node i (holder ss) ≡ true
inside_newest i [] h = absurd h
inside_newest i (s ∷ ss) h = ap (λ b. is_node i (cond b None (Some s.node))) h.1 ∙ eq_is s.node i h.0

-- an entry is into an empty section
free_at_entry : (i n : ℕ) (ss : List Section) (rest : List Mark) → Alternate (standing ss) (Came i n ∷ rest) → holder ss ≡ None
free_at_entry i n [] rest a = refl
free_at_entry i n (s ∷ ss) rest a = free_of s.closed s.node i n (suc (length ss)) rest a

-- a leaving is by the node inside, with its number
leaving_fits : (i : ℕ) (receipt : Receipt) (ss : List Section) (rest : List Mark) → Alternate (standing ss) (Went i receipt ∷ rest) → (is_node i (holder ss) && nat_eq receipt.number (length ss)) ≡ true
leaving_fits i receipt [] rest a = absurd a
leaving_fits i receipt (s ∷ ss) rest a = leaving_of s.closed s.node i (suc (length ss)) receipt rest a

reading_fits : (i r v : ℕ) (ss : List Section) → IsInNewest i ss → v ≡ applied r (writes_in ss) 0 → (is_node i (holder ss) && nat_eq v (applied r (writes_in ss) 0)) ≡ true
reading_fits i r v ss inside value = and_is (is_node i (holder ss)) (nat_eq v (applied r (writes_in ss) 0)) (inside_newest i ss inside) (eq_is v (applied r (writes_in ss) 0) value)

-- the first mark of a sound history breaks nothing
pub sound_breaks_nothing : (ss : List Section) (m : Mark) (rest : List Mark) → SoundFrom ss (m ∷ rest) → broken_by ss m ≡ None
sound_breaks_nothing ss (Came i n) rest h =
    ap (λ o. at_entry o (suc (length ss)) n) (free_at_entry i n ss rest h.exclusive) ∙ cond_true (nat_eq n (suc (length ss))) None (Some Number) (eq_is n (suc (length ss)) h.numbered.0)
sound_breaks_nothing ss (Got i r v) rest h =
    cond_true (is_node i (holder ss) && nat_eq v (applied r (writes_in ss) 0)) None (Some Read) (reading_fits i r v ss h.serial.0 h.serial.1)
sound_breaks_nothing ss (Wrote i r v) rest h = refl
sound_breaks_nothing ss (Went i receipt) rest h =
    cond_true (is_node i (holder ss) && nat_eq receipt.number (length ss)) None (Some Overlap) (leaving_fits i receipt ss rest h.exclusive)
sound_breaks_nothing ss (Woke i) rest h = refl

-- a mark that breaks a clause
pub mark_breaks : (ss : List Section) (m : Mark) (c : Clause) → broken_by ss m ≡ Some c → BreaksFrom c ss (m ∷ [])
mark_breaks ss (Came i n) c e = entry_breaks (holder ss) refl e where
  entry_breaks : (o : Option ℕ) → holder ss ≡ o → at_entry o (suc (length ss)) n ≡ Some c → BreaksFrom c ss (Came i n ∷ [])
  entry_breaks None f e =
      let s = cond_some (nat_eq n (suc (length ss))) Number c e in
      subst (λ d. BreaksFrom d ss (Came i n ∷ [])) s.1 (subst (λ st. Alternate st (Came i n ∷ [])) (sym (standing_none ss f)) tt, λ p. true_is_not_false (nat_eq n (suc (length ss))) (eq_is n (suc (length ss)) p.0) s.0)
  entry_breaks (Some j) f e =
      subst (λ d. BreaksFrom d ss (Came i n ∷ [])) (same_Some Overlap c e) (λ a. none_is_no_some j (sym (free_at_entry i n ss [] a) ∙ f))
mark_breaks ss (Got i r v) c e =
    let s = cond_some (is_node i (holder ss) && nat_eq v (applied r (writes_in ss) 0)) Read c e in
    subst (λ d. BreaksFrom d ss (Got i r v ∷ [])) s.1
    ((alternate_got (standing ss) i r v []).1 tt, tt, λ p. true_is_not_false (is_node i (holder ss) && nat_eq v (applied r (writes_in ss) 0)) (reading_fits i r v ss p.0 p.1) s.0)
mark_breaks ss (Wrote i r v) c e = absurd (none_is_no_some c e)
mark_breaks ss (Went i receipt) c e =
    let s = cond_some (is_node i (holder ss) && nat_eq receipt.number (length ss)) Overlap c e in
    subst (λ d. BreaksFrom d ss (Went i receipt ∷ [])) s.1 (λ a. true_is_not_false (is_node i (holder ss) && nat_eq receipt.number (length ss)) (leaving_fits i receipt ss [] a) s.0)
mark_breaks ss (Woke i) c e = absurd (none_is_no_some c e)

-- a mark that fits its place breaks nothing
pub fitting_breaks_nothing : (ss : List Section) (m : Mark) → AllClosed (older ss) → Fits ss m → broken_by ss m ≡ None
fitting_breaks_nothing ss (Came i n) h f =
    ap (λ o. at_entry o (suc (length ss)) n) (closed_holder ss f.0) ∙ cond_true (nat_eq n (suc (length ss))) None (Some Number) (eq_is n (suc (length ss)) f.1)
fitting_breaks_nothing ss (Got i r v) h f =
    cond_true (is_node i (holder ss) && nat_eq v (applied r (writes_in ss) 0)) None (Some Read) (reading_fits i r v ss f.0 f.1)
fitting_breaks_nothing ss (Wrote i r v) h f = refl
fitting_breaks_nothing [] (Went i receipt) h f = absurd f
fitting_breaks_nothing (s ∷ ss) (Went i receipt) h f =
    cond_true (is_node i (holder (s ∷ ss)) && nat_eq receipt.number (suc (length ss))) None (Some Overlap)
    (and_is (is_node i (holder (s ∷ ss))) (nat_eq receipt.number (suc (length ss))) (inside_newest i (s ∷ ss) f.0) (eq_is receipt.number (suc (length ss)) (ap (λ (x : Receipt). x.number) f.1)))
fitting_breaks_nothing ss (Woke i) h f = refl
