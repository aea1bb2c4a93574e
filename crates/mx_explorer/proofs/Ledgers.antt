-- What a ledger tells after a mark.
use Rattle.std.proofs.Common.{ℕ, suc, ◌≡◌, ◌<◌, inl, inr, ◌&&◌, Bool, true, false, cond, not, List, [], ◌∷◌, ◌++◌, Option, Some, None, length, replicate, get_or, slice_set, nat_eq, refl, sym, ◌∙◌, ap, subst, arith, get_or-set_same, get_or-set_other}
use Rattle.std.proofs.lemmas.List.{get_or-replicate, length-replicate, length-set}
use Rattle.mx_stamps.proofs.Lists.{dec_eq}
use Rattle.mx_journal.proofs.Choices.{cond_true, cond_false, eq_is, eq_not, eq_true}
use Rattle.mx_journal.specs.declared.records.Write.{Write}
use Rattle.mx_journal.specs.Drafted.{with_write}
use Rattle.mx_registers.specs.Registers.{applied}
use Rattle.mx_registers.proofs.Applying.{applied_append}
use Rattle.mx_trace.specs.Sections.{Section, at_open, redrafted, writes_in}
use Rattle.mx_trace.specs.Serial.{AllClosed}
use Rattle.mx_explorer.specs.declared.ledger.LastWrite.{LastWrite}
use Rattle.mx_explorer.specs.declared.ledger.Ledger.{Ledger}
use Rattle.mx_explorer.specs.Ledger.{IsLedgerOf, Shows, after_writes, holder, is_node, last_write, older}

value_of : Option LastWrite → ℕ
value_of None = 0
value_of (Some w) = w.value

value_chosen : (t : Bool) (w : LastWrite) (o : Option LastWrite) → value_of (cond t (Some w) o) ≡ cond t w.value (value_of o)
unfolding value_of
value_chosen true w o = refl
value_chosen false w o = refl

value_after : (r i n : ℕ) (ws : List Write) (o : Option LastWrite) → value_of (after_writes r i n ws o) ≡ applied r ws (value_of o)
value_after r i n [] o = refl
value_after r i n (w ∷ ws) o =
    let x : LastWrite = record { value = w.value; node = i; section = n } in
    value_after r i n ws (cond (nat_eq w.register r) (Some x) o) ∙ ap (applied r ws) (value_chosen (nat_eq w.register r) x o)

-- the last write to a register has the value that all writes leave
value_held : (r : ℕ) (ss : List Section) → value_of (last_write r ss) ≡ applied r (writes_in ss) 0
unfolding value_of
value_held r [] = refl
value_held r (s ∷ ss) =
    value_after r s.node (suc (length ss)) s.draft.writes (last_write r ss) ∙ ap (applied r s.draft.writes) (value_held r ss)
    ∙ sym (applied_append r (writes_in ss) s.draft.writes 0)

pub none_held : (r : ℕ) (ss : List Section) → last_write r ss ≡ None → 0 ≡ applied r (writes_in ss) 0
unfolding value_of
none_held r ss e = sym (ap value_of e) ∙ value_held r ss

pub some_held : (r : ℕ) (ss : List Section) (w : LastWrite) → last_write r ss ≡ Some w → w.value ≡ applied r (writes_in ss) 0
unfolding value_of
some_held r ss w e = sym (ap value_of e) ∙ value_held r ss

after_more : (r i n : ℕ) (ws : List Write) (w : Write) (o : Option LastWrite)
    → after_writes r i n (ws ++ w ∷ []) o ≡ cond (nat_eq w.register r) (Some (record { value = w.value; node = i; section = n })) (after_writes r i n ws o)
after_more r i n [] w o = refl
after_more r i n (u ∷ ws) w o = after_more r i n ws w (cond (nat_eq u.register r) (Some (record { value = u.value; node = i; section = n })) o)

-- before any write all registers are unwritten
pub first_ledger : IsLedgerOf [] (record { inside = None; last = 0; before = replicate 256 None; held = replicate 256 None })
first_ledger =
    let blank : Shows [] (replicate 256 None) = (length-replicate {A = Option LastWrite} 256 None, λ r lt. get_or-replicate {A = Option LastWrite} 256 r None None lt) in
    record { inside = refl; last = refl; left = tt; held = blank; before = blank }

-- one write more, in the newest section
shows_more : (s : Section) (ss : List Section) (held : List (Option LastWrite)) (r v : ℕ) → r < 256 → Shows (s ∷ ss) held
    → Shows (redrafted (with_write r v) s ∷ ss) (slice_set held r (Some (record { value = v; node = s.node; section = suc (length ss) })))
shows_more s ss held r v lt h =
    let w : Write = record { register = r; value = v } in
    let x : Option LastWrite = Some (record { value = v; node = s.node; section = suc (length ss) }) in
    let more = λ (q : ℕ). after_more q s.node (suc (length ss)) s.draft.writes w (last_write q ss) in (
      length-set held r x ∙ h.0,
      λ q l. elim (dec_eq q r) [
        | inl e ↦
            let room : r < length held = omega (arith, h.0) in
            ap (λ k. get_or (slice_set held r x) k None) e ∙ get_or-set_same held r x None room
            ∙ sym (more q ∙ cond_true (nat_eq r q) x (last_write q (s ∷ ss)) (eq_is r q (sym e)))
        | inr ne ↦
            get_or-set_other held r q x None ne ∙ h.1 q l
            ∙ sym (more q ∙ cond_false (nat_eq r q) x (last_write q (s ∷ ss)) (eq_not r q (λ e. ne (sym e))))
      ],
    )

and_never : (b : Bool) → (b && false) ≡ false
and_never true = refl
and_never false = refl

and_always : (b : Bool) → (b && true) ≡ b
and_always true = refl
and_always false = refl

-- nothing changes where all sections were left
pub at_closed : (i : ℕ) (f : Section → Section) (ss : List Section) → AllClosed ss → at_open i f ss ≡ ss
at_closed i f [] h = refl
at_closed i f (s ∷ ss) h =
    let shut : (nat_eq s.node i && not s.closed) ≡ false = ap (λ b. nat_eq s.node i && not b) h.0 ∙ and_never (nat_eq s.node i) in
    cond_false (nat_eq s.node i && not s.closed) (f s ∷ ss) (s ∷ at_open i f ss) shut ∙ ap (λ l. s ∷ l) (at_closed i f ss h.1)

-- whether the newest section is node i's and open
pub held_test : (i : ℕ) (node : ℕ) (closed : Bool) → is_node i (cond closed None (Some node)) ≡ (nat_eq node i && not closed)
held_test i node true = sym (and_never (nat_eq node i))
held_test i node false = sym (and_always (nat_eq node i))

-- nothing changes where node i is not inside the newest section, and the others were left
pub unmoved : (i : ℕ) (f : Section → Section) (ss : List Section) → AllClosed (older ss) → is_node i (holder ss) ≡ false → at_open i f ss ≡ ss
unmoved i f [] h e = refl
unmoved i f (s ∷ ss) h e =
    cond_false (nat_eq s.node i && not s.closed) (f s ∷ ss) (s ∷ at_open i f ss) (sym (held_test i s.node s.closed) ∙ e) ∙ ap (λ l. s ∷ l) (at_closed i f ss h)

-- the newest section changes where node i is inside it
pub moved : (i : ℕ) (f : Section → Section) (s : Section) (ss : List Section) → is_node i (holder (s ∷ ss)) ≡ true → at_open i f (s ∷ ss) ≡ f s ∷ ss
moved i f s ss e = cond_true (nat_eq s.node i && not s.closed) (f s ∷ ss) (s ∷ at_open i f ss) (sym (held_test i s.node s.closed) ∙ e)

-- the node inside is that of the newest section, which is open
pub open_of : (closed : Bool) (node i : ℕ) → is_node i (cond closed None (Some node)) ≡ true → (closed ≡ false) × (node ≡ i)
open_of true node i e = let bad : ⊥ = cc in absurd bad
open_of false node i e = (refl, eq_true node i e)

-- a write of the node inside
pub ledger_written : (ss : List Section) (l : Ledger) (i r v : ℕ) → r < 256 → IsLedgerOf ss l → is_node i l.inside ≡ true
    → IsLedgerOf (at_open i (redrafted (with_write r v)) ss) (record l { held = slice_set l.held r (Some (record { value = v; node = i; section = l.last })) })
ledger_written [] l i r v lt h e = let bad : ⊥ = cc in absurd bad
ledger_written (s ∷ ss) l i r v lt h e =
    let inside : is_node i (holder (s ∷ ss)) ≡ true = ap (is_node i) (sym h.inside) ∙ e in
    let with : ℕ → ℕ → List (Option LastWrite) = λ j n. slice_set l.held r (Some (record { value = v; node = j; section = n })) in
    let same : with s.node (suc (length ss)) ≡ with i l.last = ap (λ j. with j (suc (length ss))) (open_of s.closed s.node i inside).1 ∙ ap (with i) (sym h.last) in
    subst (λ after. IsLedgerOf after (record l { held = with i l.last })) (sym (moved i (redrafted (with_write r v)) s ss inside))
    (record { inside = h.inside; last = h.last; left = h.left; held = subst (Shows (redrafted (with_write r v) s ∷ ss)) same (shows_more s ss l.held r v lt h.held); before = h.before })

-- anything of a node that is not inside
pub ledger_unmoved : (ss : List Section) (l : Ledger) (i : ℕ) (f : Section → Section) → IsLedgerOf ss l → is_node i l.inside ≡ false → IsLedgerOf (at_open i f ss) l
ledger_unmoved ss l i f h e = subst (λ after. IsLedgerOf after l) (sym (unmoved i f ss h.left (ap (is_node i) (sym h.inside) ∙ e))) h
