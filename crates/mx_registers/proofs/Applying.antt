-- Journals without gaps: their registers are the plain application of the writes of sections 1, 2, .., k.
use Rattle.std.proofs.Common.{ℕ, zero, suc, ◌<◌, ◌≤◌, ◌≡◌, ◌==◌, inl, inr, true, false, cond, List, [], ◌∷◌, ◌++◌, Option, Some, None, map, filter, nat_eq, nat_lt, nat_le, unwrap_or, refl, sym, ◌∙◌, ap, arith}
use Rattle.std.specs.List.{last_or}
use Rattle.std.proofs.lemmas.Bool.Decides.{nat_tests}
use Rattle.mx_stamps.specs.Lists.{IsIn}
use Rattle.mx_stamps.proofs.Lists.{get_each_below}
use Rattle.mx_stamps.proofs.Choices.{lt_is, cond_true}
use Rattle.mx_journal.specs.declared.records.Write.{Write}
use Rattle.mx_journal.specs.declared.records.Record.{Record}
use Rattle.mx_journal.specs.Drafted.{last_value}
use Rattle.mx_journal.specs.Gapless.{IsGapless}
use Rattle.mx_journal.specs.Records.{Ascending, below, record_at, top_of}
use Rattle.mx_journal.proofs.Below.{below_more, below_none, gapless_first_missing, in_below}
use Rattle.mx_journal.proofs.Maps.{found_at}
use Rattle.mx_registers.specs.declared.contents.Content.{Content}
use Rattle.mx_registers.specs.Registers.{AreApplied, after_write, applied, number_by, register_of, registers_of, writes_of, writes_to, written}
use Rattle.mx_registers.proofs.Held.{held, number_held}
use Rattle.mx_registers.proofs.Taking.{register_more}

pub applied_append : (register : ℕ) (us ws : List Write) (v : ℕ) → applied register (us ++ ws) v ≡ applied register ws (applied register us v)
applied_append register [] ws v = refl
applied_append register (u ∷ us) ws v = applied_append register us ws (cond (nat_eq u.register register) u.value v)

applied_from : (register : ℕ) (ws : List Write) (o : Option ℕ) (v : ℕ) → applied register ws (unwrap_or o v) ≡ unwrap_or (last_or o (map (λ w. w.value) (filter (λ w. w.register == register) ws))) v
applied_from register [] o v = refl
applied_from register (w ∷ ws) o v =
    let rest = filter (λ (x : Write). x.register == register) ws in
    elim (nat_eq w.register register) as (λ b. applied register ws (cond b w.value (unwrap_or o v)) ≡ unwrap_or (last_or o (map (λ (x : Write). x.value) (cond b (w ∷ rest) rest))) v) [
      | true ↦ applied_from register ws (Some w.value) v
      | false ↦ applied_from register ws o v
    ]

-- of several writes that are applied in order the last one counts
pub applied_last : (register : ℕ) (ws : List Write) (v : ℕ) → applied register ws v ≡ unwrap_or (last_value register ws) v
applied_last register ws v = applied_from register ws None v

-- the last write of a section counts where no later section has written the register
pub value_after : (n : ℕ) (o : Option ℕ) (content : Content) → number_by content.by ≤ n → (after_write n o content).value ≡ unwrap_or o content.value
value_after n None content l = refl
value_after n (Some v) content l =
    ap (λ (c : Content). c.value) (cond_true (nat_le (number_by content.by) n) (record { value = v; by = Some n }) content (grind (arith, nat_tests)))

-- the registers of sections 1 to k, all of which are there
pub gapless_application : (register k : ℕ) (xs : List Record) → Ascending 1 xs → IsGapless k xs → (register_of register (below (suc k) xs)).value ≡ applied register (writes_to k xs) 0
gapless_application register zero xs a g = ap (λ l. (register_of register l).value) (below_none 1 1 xs a (omega arith))
gapless_application register (suc k) xs a g =
    let more = below_more (suc k) 1 xs a (omega arith) (gapless_first_missing (suc k) xs a g) in
    let x = more.0 in
    let before = register_of register (below (suc k) xs) in
    let low : number_by before.by ≤ x.number = number_held register x.number (below (suc k) xs) before (λ y m. let l = (in_below (suc k) xs y m).1 in let e = more.2 in omega arith) (held register (below (suc k) xs)) in
    let found : record_at (suc k) xs ≡ Some x = ap (λ n. record_at n xs) (sym more.2) ∙ found_at 1 xs a x more.1 in
    let same : before.value ≡ applied register (writes_to k xs) 0 = gapless_application register k xs a (λ n l h. g n l (omega arith)) in
    ap (λ l. (register_of register l).value) more.3
    ∙ ap (λ (c : Content). c.value) (register_more register (below (suc k) xs) x)
    ∙ value_after x.number (written register x) before low
    ∙ ap (λ v. unwrap_or (written register x) v) same
    ∙ sym (applied_last register x.writes.items (applied register (writes_to k xs) 0))
    ∙ ap (λ o. applied register (writes_of o) (applied register (writes_to k xs) 0)) (sym found)
    ∙ sym (applied_append register (writes_to k xs) (writes_of (record_at (suc k) xs)) 0)

-- the records below a number that is above all are all
below_whole : (n : ℕ) (xs : List Record) → ((x : Record) → IsIn x xs → x.number < n) → below n xs ≡ xs
below_whole n [] h = refl
below_whole n (x ∷ xs) h =
    cond_true (nat_lt x.number n) (x ∷ below n xs) [] (lt_is x.number n (h x (inl refl))) ∙ ap (λ l. x ∷ l) (below_whole n xs (λ y k. h y (inr k)))

below_top : (xs : List Record) (x : Record) → IsIn x xs → x.number ≤ top_of xs
below_top [] x h = absurd h
below_top (y ∷ ys) x (inl e) = let q : x.number ≡ y.number = ap (λ (z : Record). z.number) e in omega arith
below_top (y ∷ ys) x (inr h) = let l = below_top ys x h in omega arith

-- where no number reaches n, the records below n are all
pub below_all : (n : ℕ) (xs : List Record) → top_of xs < n → below n xs ≡ xs
below_all n xs l = below_whole n xs (λ x h. let m = below_top xs x h in omega arith)

-- the registers of a journal whose numbers are 1 to k
pub gapless_view : (count k : ℕ) (xs : List Record) → Ascending 1 xs → IsGapless k xs → top_of xs ≤ k → AreApplied (writes_to k xs) (registers_of count xs)
gapless_view count k xs a g top register content e =
    let whole : below (suc k) xs ≡ xs = below_all (suc k) xs (omega arith) in
    ap (λ (c : Content). c.value) (get_each_below (λ i. register_of i xs) count register content e).1
    ∙ ap (λ l. (register_of register l).value) (sym whole)
    ∙ gapless_application register k xs a g
