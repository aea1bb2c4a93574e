-- The writes of one section, one by one and by the last of them.
use Rattle.std.proofs.Common.{ℕ, ◌≡◌, ◌==◌, true, false, cond, List, [], ◌∷◌, Option, Some, None, map, filter, nat_eq, refl, sym, ◌∙◌, ap}
use Rattle.std.specs.List.{last_or}
use Rattle.mx_journal.specs.declared.records.Write.{Write}
use Rattle.mx_journal.specs.Drafted.{last_value}
use Rattle.mx_journal.specs.Written.{after_each}

-- of two writes of one section the second counts
abbrev pub SecondCounts : {C : Type 0} → (Option ℕ → C → C) → Type 0
SecondCounts {C} after = (v : ℕ) (o : Option ℕ) (cell : C) → after (Some v) (after o cell) ≡ after (Some v) cell

after_each_from : {C : Type 0} (after : Option ℕ → C → C) → SecondCounts after → (register : ℕ) (ws : List Write) (o : Option ℕ) (cell : C) → after_each after register ws (after o cell) ≡ after (last_or o (map (λ w. w.value) (filter (λ w. w.register == register) ws))) cell
after_each_from after second register [] o cell = refl
after_each_from after second register (w ∷ ws) o cell =
    let rest = filter (λ (x : Write). x.register == register) ws in
    let before = after o cell in
    elim (nat_eq w.register register) as (λ b. after_each after register ws (cond b (after (Some w.value) before) before) ≡ after (last_or o (map (λ (x : Write). x.value) (cond b (w ∷ rest) rest))) cell) [
      | true ↦ ap (λ c. after_each after register ws c) (second w.value o cell) ∙ after_each_from after second register ws (Some w.value) cell
      | false ↦ after_each_from after second register ws o cell
    ]

-- the writes of a section leave what the last of them does
pub after_each_last : {C : Type 0} (after : Option ℕ → C → C) → SecondCounts after → ((cell : C) → after None cell ≡ cell) → (register : ℕ) (ws : List Write) (cell : C) → after_each after register ws cell ≡ after (last_value register ws) cell
after_each_last after second none register ws cell =
    ap (λ c. after_each after register ws c) (sym (none cell)) ∙ after_each_from after second register ws None cell
