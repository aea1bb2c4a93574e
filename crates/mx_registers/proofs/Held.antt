-- What a register holds, which the members of a list of records alone decide.
use Rattle.std.proofs.Common.{ℕ, ◌≤◌, ◌≡◌, inl, inr, List, [], ◌∷◌, ◌++◌, Option, Some, None, nat_le, refl, sym, ◌∙◌, ap, subst, arith}
use Rattle.std.proofs.lemmas.Option.{same_Some}
use Rattle.mx_stamps.specs.Lists.{IsIn}
use Rattle.mx_stamps.proofs.Lists.{append_append, append_nil, in_append, in_left, in_right, none_is_no_some}
use Rattle.mx_stamps.proofs.Choices.{le_true, le_false, cond_case}
use Rattle.mx_journal.specs.declared.records.Record.{Record}
use Rattle.mx_journal.specs.Agreement.{IsConsistent, IsSubmap}
use Rattle.mx_registers.specs.declared.contents.Content.{Content}
use Rattle.mx_registers.specs.Registers.{IsHeld, IsHeldBy, IsLastWrite, after_record, after_records, after_write, blank, number_by, register_of, written}

-- a register that no record writes has no last write
not_both : (o : Option ℕ) (v : ℕ) → o ≡ None → o ≡ Some v → ⊥
not_both o v n s = none_is_no_some v (sym n ∙ s)

-- the write of a record that is not below any of those before it
newest : (register : ℕ) (done : List Record) (x : Record) (v : ℕ) → written register x ≡ Some v → ((y : Record) (u : ℕ) → IsIn y done → written register y ≡ Some u → y.number ≤ x.number) → IsLastWrite register (done ++ x ∷ []) x.number v
newest register done x v w below = (
  x,
  in_right x done (x ∷ []) (inl refl),
  refl,
  w,
  λ y u k q. elim (in_append y done (x ∷ []) k) [
    | inl d ↦ below y u d q
    | inr (inl e) ↦ (let n : y.number ≡ x.number = ap (λ (z : Record). z.number) e in omega arith)
    | inr (inr bad) ↦ absurd bad
  ],
)

-- the write that was last stays so, beside a record that writes nothing or has a lower number
still : (register : ℕ) (done : List Record) (x : Record) (n v : ℕ) → ((u : ℕ) → written register x ≡ Some u → x.number ≤ n) → IsLastWrite register done n v → IsLastWrite register (done ++ x ∷ []) n v
still register done x n v low h = (
  h.0,
  in_left h.0 done (x ∷ []) h.1,
  h.2,
  h.3,
  λ y u k q. elim (in_append y done (x ∷ []) k) [
    | inl d ↦ h.4 y u d q
    | inr (inl e) ↦ subst (λ (z : Record). z.number ≤ n) (sym e) (low u (sym (ap (written register) e) ∙ q))
    | inr (inr bad) ↦ absurd bad
  ],
)

held_more_by : (register : ℕ) (done : List Record) (x : Record) (o by : Option ℕ) (v : ℕ) → written register x ≡ o → IsHeldBy register done by v → IsHeld register (done ++ x ∷ []) (after_write x.number o (record { value = v; by = by }))
held_more_by register done x None None v w h = (
  h.0,
  λ y k. elim (in_append y done (x ∷ []) k) [
    | inl d ↦ h.1 y d
    | inr (inl e) ↦ ap (written register) e ∙ w
    | inr (inr bad) ↦ absurd bad
  ],
)
held_more_by register done x None (Some n) v w h = still register done x n v (λ u q. absurd (not_both (written register x) u w q)) h
held_more_by register done x (Some u) None v w h =
    cond_case (λ content. IsHeld register (done ++ x ∷ []) content) (nat_le 0 x.number) (record { value = u; by = Some x.number }) (record { value = v; by = None })
    (λ _. newest register done x u w (λ y s k q. absurd (not_both (written register y) s (h.1 y k) q)))
    (λ f. absurd (let l = le_false 0 x.number f in omega arith))
held_more_by register done x (Some u) (Some n) v w h =
    cond_case (λ content. IsHeld register (done ++ x ∷ []) content) (nat_le n x.number) (record { value = u; by = Some x.number }) (record { value = v; by = Some n })
    (λ t. newest register done x u w (λ y s k q. let l = le_true n x.number t in let m = h.4 y s k q in omega arith))
    (λ f. still register done x n v (λ s q. let l = le_false n x.number f in omega arith) h)

held_from : (register : ℕ) (done xs : List Record) (content : Content) → IsHeld register done content → IsHeld register (done ++ xs) (after_records register xs content)
held_from register done [] content h = subst (λ l. IsHeld register l content) (sym (append_nil done)) h
held_from register done (x ∷ xs) content h =
    subst (λ l. IsHeld register l (after_records register xs (after_record register x content))) (append_append done (x ∷ []) xs)
    (held_from register (done ++ x ∷ []) xs (after_record register x content) (held_more_by register done x (written register x) content.by content.value refl h))

-- whatever the order of the records, each register holds the last write to it
pub held : (register : ℕ) (xs : List Record) → IsHeld register xs (register_of register xs)
held register xs = held_from register [] xs blank (refl, λ x k. absurd k)

-- lists with the same members hold the same
held_by_members_by : (register : ℕ) (xs ys : List Record) (by : Option ℕ) (v : ℕ) → IsSubmap xs ys → IsSubmap ys xs → IsHeldBy register xs by v → IsHeldBy register ys by v
held_by_members_by register xs ys None v s t h = (h.0, λ x k. h.1 x (t x k))
held_by_members_by register xs ys (Some n) v s t h = (h.0, s h.0 h.1, h.2, h.3, λ y u k q. h.4 y u (t y k) q)

pub held_by_members : (register : ℕ) (xs ys : List Record) (content : Content) → IsSubmap xs ys → IsSubmap ys xs → IsHeld register xs content → IsHeld register ys content
held_by_members register xs ys content s t h = held_by_members_by register xs ys content.by content.value s t h

held_once_by : (register : ℕ) (xs : List Record) (a b : Option ℕ) (v w : ℕ) → IsConsistent xs → IsHeldBy register xs a v → IsHeldBy register xs b w → (a ≡ b) × (v ≡ w)
held_once_by register xs None None v w c h k = (refl, h.0 ∙ sym k.0)
held_once_by register xs None (Some m) v w c h k = absurd (not_both (written register k.0) w (h.1 k.0 k.1) k.3)
held_once_by register xs (Some n) None v w c h k = absurd (not_both (written register h.0) v (k.1 h.0 h.1) h.3)
held_once_by register xs (Some n) (Some m) v w c h k =
    let up = k.4 h.0 v h.1 h.3 in
    let down = h.4 k.0 w k.1 k.3 in
    let left = h.2 in
    let right = k.2 in
    let number : h.0.number ≡ k.0.number = omega arith in
    let one : h.0 ≡ k.0 = c h.0 k.0 h.1 k.1 number in
    (ap Some (sym left ∙ number ∙ right), same_Some v w (sym h.3 ∙ ap (written register) one ∙ k.3))

-- agreeing records leave one content
pub held_once : (register : ℕ) (xs : List Record) (c d : Content) → IsConsistent xs → IsHeld register xs c → IsHeld register xs d → c ≡ d
held_once register xs c d agreed h k =
    let e = held_once_by register xs c.by d.by c.value d.value agreed h k in
    let first : c ≡ record { value = d.value; by = c.by } = ap (λ v. let content : Content = record { value = v; by = c.by } in content) e.1 in
    let second : record { value = d.value; by = c.by } ≡ d = ap (λ o. let content : Content = record { value = d.value; by = o } in content) e.0 in
    first ∙ second

-- so agreeing records hold the same in any order, and however often each comes
pub same_register : (register : ℕ) (xs ys : List Record) → IsConsistent xs → IsSubmap xs ys → IsSubmap ys xs → register_of register xs ≡ register_of register ys
same_register register xs ys c s t =
    held_once register ys (register_of register xs) (register_of register ys) (λ x y k q e. c x y (t x k) (t y q) e)
    (held_by_members register xs ys (register_of register xs) s t (held register xs)) (held register ys)

number_held_by : (register n : ℕ) (xs : List Record) (by : Option ℕ) (v : ℕ) → ((x : Record) → IsIn x xs → x.number ≤ n) → IsHeldBy register xs by v → number_by by ≤ n
number_held_by register n xs None v low h = omega arith
number_held_by register n xs (Some m) v low h = let l = low h.0 h.1 in let e = h.2 in omega arith

-- a register's number is one of the records'
pub number_held : (register n : ℕ) (xs : List Record) (content : Content) → ((x : Record) → IsIn x xs → x.number ≤ n) → IsHeld register xs content → number_by content.by ≤ n
number_held register n xs content low h = number_held_by register n xs content.by content.value low h
