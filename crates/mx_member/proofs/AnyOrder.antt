-- Registers after records of different numbers: the order in which these come does not matter, whatever the
-- registers held before.
use Rattle.std.proofs.Common.{ℕ, suc, ◌<◌, ◌≤◌, ◌≡◌, ◌≢◌, inl, inr, List, [], ◌∷◌, ◌++◌, Option, Some, None, nat_le, refl, sym, ◌∙◌, ap, arith}
use Rattle.std.proofs.lemmas.Bool.Decides.{nat_tests}
use Rattle.mx_stamps.specs.Lists.{IsIn}
use Rattle.mx_stamps.proofs.Lists.{append_nil}
use Rattle.mx_stamps.proofs.Choices.{compared, cond_false, cond_true, dec_le}
use Rattle.mx_journal.specs.declared.records.Record.{Record}
use Rattle.mx_journal.specs.Agreement.{AgreesWith, IsConsistent, IsSubmap}
use Rattle.mx_journal.specs.Bases.{BaseState}
use Rattle.mx_journal.specs.Records.{Ascending, with_record, with_records}
use Rattle.mx_journal.proofs.Maps.{ascending_above, ascending_with, in_with_record, with_record_case}
use Rattle.mx_registers.specs.declared.contents.Content.{Content}
use Rattle.mx_registers.specs.Based.{cell_in, registers_from}
use Rattle.mx_registers.specs.Registers.{after_record, after_records, after_write, number_by, with_taken, written}
use Rattle.mx_registers.proofs.Taking.{after_records_more, each_below_same, taken_more_from}

-- what a section writes last
abbrev last_of : ℕ → ℕ → Content
last_of n v = record { value = v; by = Some n }

-- a write of a section counts, unless a later one wrote the register
counts : (n v : ℕ) (cell : Content) → number_by cell.by ≤ n → after_write n (Some v) cell ≡ last_of n v
counts n v cell l = cond_true (nat_le (number_by cell.by) n) (last_of n v) cell (grind (arith, nat_tests))

passes : (n v : ℕ) (cell : Content) → n < number_by cell.by → after_write n (Some v) cell ≡ cell
passes n v cell l = cond_false (nat_le (number_by cell.by) n) (last_of n v) cell (grind (arith, nat_tests))

-- of two sections' writes the later one counts, in whatever order they come
later : (n m v u : ℕ) (cell : Content) → n < m → after_write n (Some v) (after_write m (Some u) cell) ≡ after_write m (Some u) (after_write n (Some v) cell)
later n m v u cell l = elim (dec_le (number_by cell.by) m) [
  | inl low ↦
      let left : after_write n (Some v) (after_write m (Some u) cell) ≡ last_of m u = ap (λ c. after_write n (Some v) c) (counts m u cell low) ∙ passes n v (last_of m u) l in
      elim (dec_le (number_by cell.by) n) [
        | inl lower ↦ left ∙ sym (ap (λ c. after_write m (Some u) c) (counts n v cell lower) ∙ counts m u (last_of n v) (omega arith))
        | inr between ↦ left ∙ sym (ap (λ c. after_write m (Some u) c) (passes n v cell between) ∙ counts m u cell low)
      ]
  | inr high ↦
      ap (λ c. after_write n (Some v) c) (passes m u cell high) ∙ passes n v cell (omega arith)
      ∙ sym (ap (λ c. after_write m (Some u) c) (passes n v cell (omega arith)) ∙ passes m u cell high)
]

either_first : (n m : ℕ) (o p : Option ℕ) (cell : Content) → n ≢ m → after_write n o (after_write m p cell) ≡ after_write m p (after_write n o cell)
either_first n m None p cell ne = refl
either_first n m (Some v) None cell ne = refl
either_first n m (Some v) (Some u) cell ne = elim (compared n m) [
  | inl l ↦ later n m v u cell l
  | inr (inl e) ↦ absurd (ne e)
  | inr (inr l) ↦ sym (later m n u v cell l)
]

-- a section's writes, once more, change nothing
once_more : (n : ℕ) (o : Option ℕ) (cell : Content) → after_write n o (after_write n o cell) ≡ after_write n o cell
once_more n None cell = refl
once_more n (Some v) cell = elim (dec_le (number_by cell.by) n) [
  | inl low ↦ ap (λ c. after_write n (Some v) c) (counts n v cell low) ∙ counts n v (last_of n v) (omega arith) ∙ sym (counts n v cell low)
  | inr high ↦ ap (λ c. after_write n (Some v) c) (passes n v cell high)
]

-- a record of another number may come first or last
first_or_last : (register : ℕ) (xs : List Record) (entry : Record) (cell : Content) → ((x : Record) → IsIn x xs → x.number ≢ entry.number) → after_records register xs (after_record register entry cell) ≡ after_record register entry (after_records register xs cell)
first_or_last register [] entry cell h = refl
first_or_last register (x ∷ xs) entry cell h =
    ap (λ c. after_records register xs c) (either_first x.number entry.number (written register x) (written register entry) cell (h x (inl refl)))
    ∙ first_or_last register xs entry (after_record register x cell) (λ y m. h y (inr m))

-- a record that came already changes nothing
came_already : (register k : ℕ) (xs : List Record) (entry : Record) (cell : Content) → Ascending k xs → IsIn entry xs → after_record register entry (after_records register xs cell) ≡ after_records register xs cell
came_already register k [] entry cell a h = absurd h
came_already register k (x ∷ xs) entry cell a (inl e) =
    ap (λ y. after_record register y (after_records register xs (after_record register x cell))) e
    ∙ sym (first_or_last register xs x (after_record register x cell) (λ y m q. let low = ascending_above (suc x.number) xs a.1 y m in absurd (omega arith)))
    ∙ ap (λ c. after_records register xs c) (once_more x.number (written register x) cell)
came_already register k (x ∷ xs) entry cell a (inr h) = came_already register (suc x.number) xs entry (after_record register x cell) a.1 h

-- a record at its place in a journal with which it agrees, and one behind all others
pub after_with : (register k : ℕ) (xs : List Record) (entry : Record) (cell : Content) → Ascending k xs → AgreesWith entry xs → after_records register (with_record entry xs) cell ≡ after_record register entry (after_records register xs cell)
after_with register k [] entry cell a agrees = refl
after_with register k (x ∷ xs) entry cell a agrees =
    with_record_case (λ l. after_records register l cell ≡ after_record register entry (after_records register (x ∷ xs) cell)) entry x xs
    (λ low. first_or_last register (x ∷ xs) entry cell (λ y m q. let l = ascending_above x.number (x ∷ xs) (omega arith, a.1) y m in absurd (omega arith)))
    (λ _. after_with register (suc x.number) xs entry (after_record register x cell) a.1 (λ y m e. agrees y (inr m) e))
    (λ e. sym (came_already register k (x ∷ xs) entry cell a (inl (sym (agrees x (inl refl) e)))))

after_both : (register : ℕ) (xs ys : List Record) (cell : Content) → after_records register (xs ++ ys) cell ≡ after_records register ys (after_records register xs cell)
after_both register [] ys cell = refl
after_both register (x ∷ xs) ys cell = after_both register xs ys (after_record register x cell)

-- the same for records that all agree
after_with_list : (register k : ℕ) (rs xs all : List Record) (cell : Content) → Ascending k xs → ((x : Record) → IsIn x rs → k ≤ x.number) → IsConsistent all → IsSubmap xs all → IsSubmap rs all → after_records register (with_records rs xs) cell ≡ after_records register (xs ++ rs) cell
after_with_list register k [] xs all cell a high agreed s t = ap (λ l. after_records register l cell) (sym (append_nil xs))
after_with_list register k (r ∷ rs) xs all cell a high agreed s t =
    let more = with_record r xs in
    let known : IsSubmap more all = λ x h. elim (in_with_record r xs x h) [ inl m ↦ s x m | inr e ↦ t x (inl e) ] in
    after_with_list register k rs more all cell (ascending_with k r xs a (high r (inl refl))) (λ x h. high x (inr h)) agreed known (λ x h. t x (inr h))
    ∙ after_both register more rs cell
    ∙ ap (λ c. after_records register rs c) (after_with register k xs r cell a (λ x h e. agreed x r (s x h) (t r (inl refl)) e))
    ∙ sym (after_both register xs (r ∷ rs) cell)

-- so the registers of a base and records are those of the base and the journal that the records make
pub registers_joined : (base : BaseState) (count k : ℕ) (xs rs : List Record) → Ascending k xs → ((x : Record) → IsIn x rs → k ≤ x.number) → IsConsistent (xs ++ rs) → IsSubmap xs (xs ++ rs) → IsSubmap rs (xs ++ rs) → registers_from base count (xs ++ rs) ≡ registers_from base count (with_records rs xs)
registers_joined base count k xs rs a high agreed s t =
    each_below_same (λ r. after_records r (xs ++ rs) (cell_in r base)) (λ r. after_records r (with_records rs xs) (cell_in r base)) count
    (λ r _. sym (after_with_list r k rs xs (xs ++ rs) (cell_in r base) a high agreed s t))

-- and one that takes a record is that of the journal with it
pub registers_taken : (base : BaseState) (count k : ℕ) (xs : List Record) (entry : Record) → Ascending k xs → AgreesWith entry xs → with_taken entry (registers_from base count xs) ≡ registers_from base count (with_record entry xs)
registers_taken base count k xs entry a agrees =
    taken_more_from (λ r. cell_in r base) count xs entry
    ∙ each_below_same (λ r. after_records r (xs ++ entry ∷ []) (cell_in r base)) (λ r. after_records r (with_record entry xs) (cell_in r base)) count
    (λ r _. after_records_more r xs entry (cell_in r base) ∙ sym (after_with r k xs entry (cell_in r base) a agrees))
