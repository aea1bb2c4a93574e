-- What is left to say of a history after a mark that breaks nothing.
use Rattle.std.proofs.Common.{ℕ, suc, ◌≡◌, ◌↔◌, ◌&&◌, Bool, true, false, cond, not, List, [], ◌∷◌, ◌++◌, Option, Some, None, length, nat_eq, refl, sym, ◌∙◌, ap, subst}
use Rattle.mx_stamps.proofs.Lists.{and_true}
use Rattle.mx_journal.proofs.Choices.{eq_true}
use Rattle.mx_journal.specs.Drafted.{Drafted, with_read, with_write, fresh}
use Rattle.mx_registers.specs.Registers.{applied}
use Rattle.mx_trace.specs.Sections.{Mark, Came, Got, Wrote, Went, Woke, Section, after_marks, at_open, closing, redrafted, writes_in}
use Rattle.mx_trace.specs.Serial.{AllClosed, Alternate, IsInNewest, NumberedFrom}
use Rattle.mx_explorer.specs.declared.verdict.Clause.{Clause}
use Rattle.mx_explorer.specs.declared.verdict.Clause.TheVariants.{Overlap, Number, Read}
use Rattle.mx_explorer.specs.Verdict.{ReadsFit}
use Rattle.mx_explorer.specs.Ledger.{at_entry, broken_by, holder, is_node, older}
use Rattle.mx_explorer.proofs.Ledgers.{at_closed, moved, open_of}

-- the node inside the newest section, with its number
abbrev pub standing : List Section → Option (ℕ × ℕ)
standing [] = None
standing (s ∷ ss) = cond s.closed None (Some (s.node, suc (length ss)))

-- a history is sound from these sections on
pub record SoundFrom (ss : List Section) (ms : List Mark) : Type 0 where
  pub exclusive : Alternate (standing ss) ms
  pub numbered : NumberedFrom (suc (length ss)) ms
  pub serial : ReadsFit ss ms

-- the first clause that a history breaks, from these sections on
abbrev pub BreaksFrom : Clause → List Section → List Mark → Type 0
BreaksFrom Overlap ss ms = ¬ Alternate (standing ss) ms
BreaksFrom Number ss ms = Alternate (standing ss) ms × ¬ NumberedFrom (suc (length ss)) ms
BreaksFrom Read ss ms = Alternate (standing ss) ms × NumberedFrom (suc (length ss)) ms × ¬ ReadsFit ss ms

-- a history is as sound after these marks as it was before them
pub record Passes (ss : List Section) (ms : List Mark) : Type 0 where
  pub exclusive : (rest : List Mark) → Alternate (standing ss) (ms ++ rest) ↔ Alternate (standing (after_marks ss ms)) rest
  pub numbered : (rest : List Mark) → NumberedFrom (suc (length ss)) (ms ++ rest) ↔ NumberedFrom (suc (length (after_marks ss ms))) rest
  pub serial : (rest : List Mark) → ReadsFit ss (ms ++ rest) ↔ ReadsFit (after_marks ss ms) rest
  pub left : AllClosed (older (after_marks ss ms))

length_at_open : (i : ℕ) (f : Section → Section) (ss : List Section) → length (at_open i f ss) ≡ length ss
length_at_open i f [] = refl
length_at_open i f (s ∷ ss) = elim (nat_eq s.node i && not s.closed) as (λ b. length (cond b (f s ∷ ss) (s ∷ at_open i f ss)) ≡ suc (length ss)) [
  | true ↦ refl
  | false ↦ ap suc (length_at_open i f ss)
]

-- all but the newest section are left after a change of the open one
older_at_open : (i : ℕ) (f : Section → Section) (ss : List Section) → AllClosed (older ss) → AllClosed (older (at_open i f ss))
older_at_open i f [] h = tt
older_at_open i f (s ∷ ss) h = elim (nat_eq s.node i && not s.closed) as (λ b. AllClosed (older (cond b (f s ∷ ss) (s ∷ at_open i f ss)))) [
  | true ↦ h
  | false ↦ subst AllClosed (sym (at_closed i f ss h)) h
]

-- what a node does in its section leaves it inside
standing_redrafted : (i : ℕ) (f : Drafted → Drafted) (ss : List Section) → standing (at_open i (redrafted f) ss) ≡ standing ss
standing_redrafted i f [] = refl
standing_redrafted i f (s ∷ ss) = elim (nat_eq s.node i && not s.closed) as (λ b. standing (cond b (redrafted f s ∷ ss) (s ∷ at_open i (redrafted f) ss)) ≡ standing (s ∷ ss)) [
  | true ↦ refl
  | false ↦ ap (λ n. cond s.closed None (Some (s.node, suc n))) (length_at_open i (redrafted f) ss)
]

-- one side of an equivalence, by an equation
along : {X : Type 0} (P : X → Type 0) (x y : X) → x ≡ y → P x ↔ P y
along P x y e = (λ p. subst P e p, λ p. subst P (sym e) p)

both : {A B C : Type 0} → A ↔ B → B ↔ C → A ↔ C
both f g = (λ a. g.0 (f.0 a), λ c. f.1 (g.1 c))

cond_none : (b : Bool) (c : Clause) → cond b None (Some c) ≡ None → b ≡ true
cond_none true c e = refl
cond_none false c e = let bad : ⊥ = cc in absurd bad

-- the same by cases of whether the newest section is left
shut_of : (closed : Bool) (node : ℕ) → cond closed None (Some node) ≡ None → closed ≡ true
shut_of true node e = refl
shut_of false node e = let bad : ⊥ = cc in absurd bad

-- nobody is inside once node i, which was, has left
gone : (i : ℕ) (ss : List Section) → is_node i (holder ss) ≡ true → standing (at_open i closing ss) ≡ None
gone i [] e = refl
gone i (s ∷ ss) e = ap standing (moved i closing s ss e)

-- who is inside, by the newest section: nobody, then all sections were left
pub standing_none : (ss : List Section) → holder ss ≡ None → standing ss ≡ None
standing_none [] e = refl
standing_none (s ∷ ss) e = ap (λ b. cond b None (Some (s.node, suc (length ss)))) (shut_of s.closed s.node e)

all_closed : (ss : List Section) → AllClosed (older ss) → holder ss ≡ None → AllClosed ss
all_closed [] h e = tt
all_closed (s ∷ ss) h e = (shut_of s.closed s.node e, h)

-- node i, then it bears the number of sections so far
node_inside : (i : ℕ) (ss : List Section) → is_node i (holder ss) ≡ true → (standing ss ≡ Some (i, length ss)) × IsInNewest i ss
node_inside i [] e = let bad : ⊥ = cc in absurd bad
node_inside i (s ∷ ss) e =
    let o = open_of s.closed s.node i e in
    (ap (λ b. cond b None (Some (s.node, suc (length ss)))) o.0 ∙ ap (λ j. Some (j, suc (length ss))) o.1, (o.1, o.0))

pub alternate_got : (st : Option (ℕ × ℕ)) (i r v : ℕ) (rest : List Mark) → Alternate st (Got i r v ∷ rest) ↔ Alternate st rest
alternate_got None i r v rest = (λ a. a, λ a. a)
alternate_got (Some p) i r v rest = (λ a. a, λ a. a)

alternate_wrote : (st : Option (ℕ × ℕ)) (i r v : ℕ) (rest : List Mark) → Alternate st (Wrote i r v ∷ rest) ↔ Alternate st rest
alternate_wrote None i r v rest = (λ a. a, λ a. a)
alternate_wrote (Some p) i r v rest = (λ a. a, λ a. a)

alternate_woke : (st : Option (ℕ × ℕ)) (i : ℕ) (rest : List Mark) → Alternate st (Woke i ∷ rest) ↔ Alternate st rest
alternate_woke None i rest = (λ a. a, λ a. a)
alternate_woke (Some p) i rest = (λ a. a, λ a. a)

-- an entry breaks nothing where nobody is inside and it bears the next number
entry_fits : (inside : Option ℕ) (next n : ℕ) → at_entry inside next n ≡ None → (inside ≡ None) × (n ≡ next)
entry_fits None next n e = (refl, eq_true n next (cond_none (nat_eq n next) Number e))
entry_fits (Some j) next n e = let bad : ⊥ = cc in absurd bad

-- what a node does in its section
redrafting : (i : ℕ) (f : Drafted → Drafted) (ss : List Section) → AllClosed (older ss)
    → ((rest : List Mark) → Alternate (standing ss) rest ↔ Alternate (standing (at_open i (redrafted f) ss)) rest)
    × ((rest : List Mark) → NumberedFrom (suc (length ss)) rest ↔ NumberedFrom (suc (length (at_open i (redrafted f) ss))) rest)
    × AllClosed (older (at_open i (redrafted f) ss))
redrafting i f ss h = (
  λ rest. along (λ st. Alternate st rest) (standing ss) (standing (at_open i (redrafted f) ss)) (sym (standing_redrafted i f ss)),
  λ rest. along (λ n. NumberedFrom (suc n) rest) (length ss) (length (at_open i (redrafted f) ss)) (sym (length_at_open i (redrafted f) ss)),
  older_at_open i (redrafted f) ss h,
)

-- a mark that breaks nothing
pub mark_passes : (ss : List Section) (m : Mark) → AllClosed (older ss) → broken_by ss m ≡ None → Passes ss (m ∷ [])
mark_passes ss (Came i n) h e =
    let fits = entry_fits (holder ss) (suc (length ss)) n e in
    record {
      exclusive = λ rest. both (along (λ st. Alternate st (Came i n ∷ rest)) (standing ss) None (standing_none ss fits.0)) (along (λ k. Alternate (Some (i, k)) rest) n (suc (length ss)) fits.1);
      numbered = λ rest. (λ p. p.1, λ q. (fits.1, q));
      serial = λ rest. (λ r. r, λ r. r);
      left = all_closed ss h fits.0;
    }
mark_passes ss (Got i r v) h e =
    let fits = and_true (is_node i (holder ss)) (nat_eq v (applied r (writes_in ss) 0)) (cond_none (is_node i (holder ss) && nat_eq v (applied r (writes_in ss) 0)) Read e) in
    let at = redrafting i (with_read r v) ss h in
    record {
      exclusive = λ rest. both (alternate_got (standing ss) i r v rest) (at.0 rest);
      numbered = at.1;
      serial = λ rest. (λ p. p.2, λ q. ((node_inside i ss fits.0).1, eq_true v (applied r (writes_in ss) 0) fits.1, q));
      left = at.2;
    }
mark_passes ss (Wrote i r v) h e =
    let at = redrafting i (with_write r v) ss h in
    record {
      exclusive = λ rest. both (alternate_wrote (standing ss) i r v rest) (at.0 rest);
      numbered = at.1;
      serial = λ rest. (λ r. r, λ r. r);
      left = at.2;
    }
mark_passes ss (Went i receipt) h e =
    let fits = and_true (is_node i (holder ss)) (nat_eq receipt.number (length ss)) (cond_none (is_node i (holder ss) && nat_eq receipt.number (length ss)) Overlap e) in
    let number = eq_true receipt.number (length ss) fits.1 in
    record {
      exclusive = λ rest. both (along (λ st. Alternate st (Went i receipt ∷ rest)) (standing ss) (Some (i, length ss)) (node_inside i ss fits.0).0)
          (both (λ p. p.2, λ q. (refl, number, q)) (along (λ st. Alternate st rest) None (standing (at_open i closing ss)) (sym (gone i ss fits.0))));
      numbered = λ rest. along (λ n. NumberedFrom (suc n) rest) (length ss) (length (at_open i closing ss)) (sym (length_at_open i closing ss));
      serial = λ rest. (λ r. r, λ r. r);
      left = older_at_open i closing ss h;
    }
mark_passes ss (Woke i) h e =
    let at = redrafting i (λ d. fresh) ss h in
    record {
      exclusive = λ rest. both (alternate_woke (standing ss) i rest) (at.0 rest);
      numbered = at.1;
      serial = λ rest. (λ r. r, λ r. r);
      left = at.2;
    }

pub nothing_passes : (ss : List Section) → AllClosed (older ss) → Passes ss []
nothing_passes ss h = record { exclusive = λ rest. (λ a. a, λ a. a); numbered = λ rest. (λ a. a, λ a. a); serial = λ rest. (λ a. a, λ a. a); left = h }

-- only one clause is the first
pub breaks_one : (c d : Clause) (ss : List Section) (ms : List Mark) → BreaksFrom c ss ms → BreaksFrom d ss ms → c ≡ d
breaks_one Overlap Overlap ss ms x y = refl
breaks_one Overlap Number ss ms x y = absurd (x y.0)
breaks_one Overlap Read ss ms x y = absurd (x y.0)
breaks_one Number Overlap ss ms x y = absurd (y x.0)
breaks_one Number Number ss ms x y = refl
breaks_one Number Read ss ms x y = absurd (x.1 y.1)
breaks_one Read Overlap ss ms x y = absurd (y x.0)
breaks_one Read Number ss ms x y = absurd (y.1 x.1)
breaks_one Read Read ss ms x y = refl

-- a sound history breaks none
pub sound_breaks_none : (c : Clause) (ss : List Section) (ms : List Mark) → SoundFrom ss ms → BreaksFrom c ss ms → ⊥
sound_breaks_none Overlap ss ms h b = b h.exclusive
sound_breaks_none Number ss ms h b = b.1 h.numbered
sound_breaks_none Read ss ms h b = b.2 h.serial

-- a history is as sound, and as broken, behind marks that pass
pub sound_behind : (ss : List Section) (ms rest : List Mark) → Passes ss ms → SoundFrom ss (ms ++ rest) ↔ SoundFrom (after_marks ss ms) rest
sound_behind ss ms rest p = (
  λ h. record { exclusive = (p.exclusive rest).0 h.exclusive; numbered = (p.numbered rest).0 h.numbered; serial = (p.serial rest).0 h.serial },
  λ h. record { exclusive = (p.exclusive rest).1 h.exclusive; numbered = (p.numbered rest).1 h.numbered; serial = (p.serial rest).1 h.serial },
)

pub broken_behind : (c : Clause) (ss : List Section) (ms rest : List Mark) → Passes ss ms → BreaksFrom c ss (ms ++ rest) ↔ BreaksFrom c (after_marks ss ms) rest
broken_behind Overlap ss ms rest p = (λ b a. b ((p.exclusive rest).1 a), λ b a. b ((p.exclusive rest).0 a))
broken_behind Number ss ms rest p =
    (λ b. ((p.exclusive rest).0 b.0, λ n. b.1 ((p.numbered rest).1 n)), λ b. ((p.exclusive rest).1 b.0, λ n. b.1 ((p.numbered rest).0 n)))
broken_behind Read ss ms rest p =
    (λ b. ((p.exclusive rest).0 b.0, (p.numbered rest).0 b.1, λ r. b.2 ((p.serial rest).1 r)), λ b. ((p.exclusive rest).1 b.0, (p.numbered rest).1 b.1, λ r. b.2 ((p.serial rest).0 r)))
