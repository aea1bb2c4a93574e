-- Registers of journals with a base: what they hold, and that settling keeps them.
use Rattle.std.proofs.Common.{ℕ, zero, suc, ◌<◌, ◌≤◌, ◌≡◌, ◌⊎◌, inl, inr, List, [], ◌∷◌, ◌++◌, Option, Some, None, get_or, nat_eq, nat_le, unwrap_or, refl, sym, ◌∙◌, ap, subst, arith}
use Rattle.std.proofs.lemmas.Bool.Decides.{nat_tests}
use Rattle.mx_stamps.specs.Lists.{IsIn}
use Rattle.mx_stamps.proofs.Lists.{append_nil, get_each_below, get_or_replicate, none_is_no_some}
use Rattle.mx_stamps.proofs.Choices.{compared, cond_case, cond_false, cond_true, eq_not}
use Rattle.mx_journal.specs.declared.cells.Cell.{Cell}
use Rattle.mx_journal.specs.declared.records.Record.{Record}
use Rattle.mx_journal.specs.Bases.{AreCellsOf, BaseState, IsCellOf, after_section, origin, unwritten, with_section, with_sections}
use Rattle.mx_journal.specs.Drafted.{last_value}
use Rattle.mx_journal.specs.Records.{Ascending, above, below, record_at, top_of}
use Rattle.mx_journal.specs.Settled.{JournalState, settled}
use Rattle.mx_journal.proofs.Bases.{cell_of, cells_of_more, get_or_each_below, with_section_of}
use Rattle.mx_journal.proofs.Below.{ascending_below, below_case, below_none, in_below}
use Rattle.mx_journal.proofs.Going.{above_case}
use Rattle.mx_journal.proofs.Maps.{ascending_above, found_at, none_found}
use Rattle.mx_registers.specs.declared.contents.Content.{Content}
use Rattle.mx_registers.specs.Based.{AreAppliedTo, AreHeldIn, IsHeldIn, cell_in, registers_from, registers_in, shown_cell}
use Rattle.mx_registers.specs.Registers.{IsLastWrite, IsUnwritten, after_record, after_records, after_write, applied, blank, number_by, registers_of, writes_of, writes_to, written}
use Rattle.mx_registers.proofs.Applying.{applied_append, applied_last, below_all, value_after}
use Rattle.mx_registers.proofs.Taking.{after_records_more, each_below_same}

-- what a register holds after records of ascending numbers, all above that of what it held before: the last
-- write of them, or what it held
abbrev pub IsHeldFrom : ℕ → List Record → Content → Content → Type 0
IsHeldFrom register xs start content =
    ((n : ℕ) × (content.by ≡ Some n) × IsLastWrite register xs n content.value) ⊎ (IsUnwritten register xs × (content ≡ start))

-- the last write is the last one behind one more record too, where that writes nothing, or writes before it
last_behind : (register n value : ℕ) (x : Record) (xs : List Record) → IsLastWrite register xs n value → ((v : ℕ) → written register x ≡ Some v → x.number ≤ n) → IsLastWrite register (x ∷ xs) n value
last_behind register n value x xs last before = (
  last.0,
  inr last.1,
  last.2,
  last.3,
  λ y v m q. elim m [
    | inl e ↦ subst (λ (z : Record). z.number ≤ n) (sym e) (before v (ap (written register) (sym e) ∙ q))
    | inr k ↦ last.4 y v k q
  ],
)

-- one record before the others, which writes nothing to the register
held_behind : (register : ℕ) (x : Record) (xs : List Record) (start content : Content) → written register x ≡ None → IsHeldFrom register xs start content → IsHeldFrom register (x ∷ xs) start content
held_behind register x xs start content w (inl h) = inl (h.0, h.1, last_behind register h.0 content.value x xs h.2 (λ v q. absurd (none_is_no_some v (sym w ∙ q))))
held_behind register x xs start content w (inr h) = inr (λ y m. elim m [ inl e ↦ ap (written register) e ∙ w | inr k ↦ h.0 y k ], h.1)

-- and one that writes it
held_over : (register u : ℕ) (x : Record) (xs : List Record) (start content : Content) → Ascending (suc x.number) xs → written register x ≡ Some u → IsHeldFrom register xs (record { value = u; by = Some x.number }) content → IsHeldFrom register (x ∷ xs) start content
held_over register u x xs start content a w (inl h) =
    let last : IsLastWrite register xs h.0 content.value = h.2 in
    let high = ascending_above (suc x.number) xs a last.0 last.1 in
    let number = last.2 in
    inl (h.0, h.1, last_behind register h.0 content.value x xs last (λ _ _. omega arith))
held_over register u x xs start content a w (inr h) =
    let more : IsLastWrite register (x ∷ xs) x.number content.value = (
      x,
      inl refl,
      refl,
      w ∙ ap Some (sym (ap (λ (c : Content). c.value) h.1)),
      λ y v m q. elim m [
        | inl e ↦ (let s : y.number ≡ x.number = ap (λ (z : Record). z.number) e in omega arith)
        | inr k ↦ absurd (none_is_no_some v (sym (h.0 y k) ∙ q))
      ],
    ) in
    inl (x.number, ap (λ (c : Content). c.by) h.1, more)

held_step : (register : ℕ) (o : Option ℕ) (x : Record) (xs : List Record) (start : Content) → Ascending (suc x.number) xs → number_by start.by ≤ x.number → written register x ≡ o → ((c : Content) → number_by c.by ≤ x.number → IsHeldFrom register xs c (after_records register xs c)) → IsHeldFrom register (x ∷ xs) start (after_records register xs (after_write x.number o start))
held_step register None x xs start a l w rest = held_behind register x xs start (after_records register xs start) w (rest start l)
held_step register (Some u) x xs start a l w rest =
    let one : Content = record { value = u; by = Some x.number } in
    let here : after_write x.number (Some u) start ≡ one = cond_true (nat_le (number_by start.by) x.number) one start (grind (arith, nat_tests)) in
    subst (λ c. IsHeldFrom register (x ∷ xs) start (after_records register xs c)) (sym here)
    (held_over register u x xs start (after_records register xs one) a w (rest one (omega arith)))

pub held_from_start : (register k : ℕ) (xs : List Record) (start : Content) → Ascending (suc k) xs → number_by start.by ≤ k → IsHeldFrom register xs start (after_records register xs start)
held_from_start register k [] start a l = inr (λ x h. absurd h, refl)
held_from_start register k (x ∷ xs) start a l =
    let low = a.0 in
    held_step register (written register x) x xs start a.1 (omega arith) refl (λ c m. held_from_start register x.number xs c a.1 m)

-- a base's cell bears a number of its sections
number_shown : (cell : Cell) → number_by (shown_cell cell).by ≤ cell.number
number_shown cell =
    cond_case (λ (c : Content). number_by c.by ≤ cell.number) (nat_eq cell.number 0) blank (record { value = cell.value; by = Some cell.number }) (λ _. omega arith) (λ _. omega arith)

pub cell_bound : (register : ℕ) (base : BaseState) → AreCellsOf base.upto base.cells → number_by (cell_in register base).by ≤ base.upto
cell_bound register base h =
    let of : IsCellOf base.upto (get_or base.cells register unwritten) = cell_of base.upto base.cells register h in
    let low = of.0 in
    let number = number_shown (get_or base.cells register unwritten) in
    omega arith

-- each register of a journal holds what it should
pub held_in : (count : ℕ) (journal : JournalState) → Ascending (suc journal.base.upto) journal.records → AreCellsOf journal.base.upto journal.base.cells → AreHeldIn journal (registers_in count journal)
held_in count journal a h register content e =
    let same = (get_each_below (λ i. after_records i journal.records (cell_in i journal.base)) count register content e).1 in
    subst (λ c. IsHeldIn register journal c) (sym same) (held_from_start register journal.base.upto journal.records (cell_in register journal.base) a (cell_bound register journal.base h))

-- the records below m + 1 are those below m, and the one of m where it is there
below_step : (m k : ℕ) (xs : List Record) → Ascending k xs → ((record_at m xs ≡ None) × (below (suc m) xs ≡ below m xs)) ⊎ ((x : Record) × IsIn x xs × (x.number ≡ m) × (below (suc m) xs ≡ below m xs ++ x ∷ []))
below_step m k [] a = inl (refl, refl)
below_step m k (y ∷ ys) a = elim (compared y.number m) [
  | inl l ↦
      let long : below (suc m) (y ∷ ys) ≡ y ∷ below (suc m) ys = below_case (λ q. q ≡ y ∷ below (suc m) ys) (suc m) y ys (λ _. refl) (λ bad. absurd (omega arith)) in
      let short : y ∷ below m ys ≡ below m (y ∷ ys) = below_case (λ q. y ∷ below m ys ≡ q) m y ys (λ _. refl) (λ bad. absurd (omega arith)) in
      elim (below_step m (suc y.number) ys a.1) [
        | inl w ↦ inl (cond_false (nat_eq y.number m) (Some y) (record_at m ys) (eq_not y.number m (λ e. absurd (omega arith))) ∙ w.0, long ∙ ap (λ q. y ∷ q) w.1 ∙ short)
        | inr w ↦ inr (w.0, inr w.1, w.2, long ∙ ap (λ q. y ∷ q) w.3 ∙ ap (λ q. q ++ w.0 ∷ []) short)
      ]
  | inr (inl e) ↦
      let long : below (suc m) (y ∷ ys) ≡ y ∷ [] = below_case (λ q. q ≡ y ∷ []) (suc m) y ys (λ _. ap (λ q. y ∷ q) (below_none (suc m) (suc y.number) ys a.1 (omega arith))) (λ bad. absurd (omega arith)) in
      let short : [] ≡ below m (y ∷ ys) = below_case (λ q. [] ≡ q) m y ys (λ bad. absurd (omega arith)) (λ _. refl) in
      inr (y, inl refl, e, long ∙ ap (λ q. q ++ y ∷ []) short)
  | inr (inr l) ↦
      let long : below (suc m) (y ∷ ys) ≡ [] = below_case (λ q. q ≡ []) (suc m) y ys (λ bad. absurd (omega arith)) (λ _. refl) in
      let short : [] ≡ below m (y ∷ ys) = below_case (λ q. [] ≡ q) m y ys (λ bad. absurd (omega arith)) (λ _. refl) in
      let low = ascending_above y.number (y ∷ ys) (omega arith, a.1) in
      inl (none_found m (y ∷ ys) (λ x h e. absurd (let q = low x h in omega arith)), long ∙ short)
]

-- a register is the plain application of the writes of the sections up to k, in order, to what it held before
pub application_from : (register k b : ℕ) (xs : List Record) (start : Content) → Ascending (suc b) xs → number_by start.by ≤ b → (after_records register (below (suc k) xs) start).value ≡ applied register (writes_to k xs) start.value
application_from register zero b xs start a l = ap (λ q. (after_records register q start).value) (below_none 1 (suc b) xs a (omega arith))
application_from register (suc k) b xs start a l =
    let v = start.value in
    let same = application_from register k b xs start a l in
    elim (below_step (suc k) (suc b) xs a) [
      | inl w ↦
          ap (λ q. (after_records register q start).value) w.1 ∙ same
          ∙ sym (ap (λ ws. applied register ws v) (ap (λ o. writes_to k xs ++ writes_of o) w.0 ∙ append_nil (writes_to k xs)))
      | inr w ↦
          let x = w.0 in
          let before = after_records register (below (suc k) xs) start in
          let number = w.2 in
          let low : number_by before.by ≤ x.number = elim (held_from_start register b (below (suc k) xs) start (ascending_below (suc k) (suc b) xs a) l) [
            | inl h ↦ (let last = h.2 in let m = (in_below (suc k) xs last.0 last.1).1 in let n = last.2 in let e : number_by before.by ≡ h.0 = ap number_by h.1 in omega arith)
            | inr h ↦ (let e : number_by before.by ≡ number_by start.by = ap (λ (c : Content). number_by c.by) h.1 in let high = ascending_above (suc b) xs a x w.1 in omega arith)
          ] in
          let found : record_at (suc k) xs ≡ Some x = ap (λ n. record_at n xs) (sym number) ∙ found_at (suc b) xs a x w.1 in
          ap (λ q. (after_records register q start).value) w.3
          ∙ ap (λ (c : Content). c.value) (after_records_more register (below (suc k) xs) x start)
          ∙ value_after x.number (written register x) before low
          ∙ ap (λ u. unwrap_or (written register x) u) same
          ∙ sym (applied_last register x.writes.items (applied register (writes_to k xs) v))
          ∙ ap (λ o. applied register (writes_of o) (applied register (writes_to k xs) v)) (sym found)
          ∙ sym (applied_append register (writes_to k xs) (writes_of (record_at (suc k) xs)) v)
    ]

pub applied_in : (count k : ℕ) (journal : JournalState) → Ascending (suc journal.base.upto) journal.records → AreCellsOf journal.base.upto journal.base.cells → top_of journal.records ≤ k → AreAppliedTo journal.base (writes_to k journal.records) (registers_in count journal)
applied_in count k journal a h top register content e =
    let xs = journal.records in
    let start = cell_in register journal.base in
    ap (λ (c : Content). c.value) (get_each_below (λ i. after_records i xs (cell_in i journal.base)) count register content e).1
    ∙ ap (λ l. (after_records register l start).value) (sym (below_all (suc k) xs (omega arith)))
    ∙ application_from register k journal.base.upto xs start a (cell_bound register journal.base h)

-- a journal that has settled nothing shows the registers of its records
pub registers_unsettled : (count : ℕ) (xs : List Record) → registers_from origin count xs ≡ registers_of count xs
registers_unsettled count xs =
    each_below_same (λ r. after_records r xs (cell_in r origin)) (λ r. after_records r xs blank) count
    (λ r _. ap (λ (c : Cell). after_records r xs (shown_cell c)) (get_or_replicate 32 r unwritten))

-- a base's cell and a register change in the same way
shown_after : (n : ℕ) (o : Option ℕ) (cell : Cell) → 1 ≤ n → cell.number ≤ n → shown_cell (after_section n o cell) ≡ after_write n o (shown_cell cell)
shown_after n None cell l m = refl
shown_after n (Some v) cell l m =
    let one : Content = record { value = v; by = Some n } in
    let number = number_shown cell in
    cond_false (nat_eq n 0) blank one (eq_not n 0 (λ e. absurd (omega arith)))
    ∙ sym (cond_true (nat_le (number_by (shown_cell cell).by) n) one (shown_cell cell) (let q : number_by (shown_cell cell).by ≤ n = omega arith in grind (arith, nat_tests)))

pub cells_shown : (register b : ℕ) (xs : List Record) (cells : List Cell) → register < 32 → Ascending (suc b) xs → AreCellsOf b cells → shown_cell (get_or (with_sections xs cells) register unwritten) ≡ after_records register xs (shown_cell (get_or cells register unwritten))
cells_shown register b [] cells l a h = refl
cells_shown register b (x ∷ xs) cells l a h =
    let low = a.0 in
    let more = cells_of_more b x.number cells (omega arith) h in
    let of : IsCellOf x.number (get_or cells register unwritten) = cell_of x.number cells register more in
    cells_shown register x.number xs (with_section x cells) l a.1 (with_section_of x.number x cells (omega arith) (omega arith) more)
    ∙ ap (λ (c : Cell). after_records register xs (shown_cell c)) (get_or_each_below (λ r. after_section x.number (last_value r x.writes.items) (get_or cells r unwritten)) 32 register unwritten l)
    ∙ ap (λ (c : Content). after_records register xs c) (shown_after x.number (written register x) (get_or cells register unwritten) (omega arith) of.0)

after_append : (register : ℕ) (xs ys : List Record) (content : Content) → after_records register (xs ++ ys) content ≡ after_records register ys (after_records register xs content)
after_append register [] ys content = refl
after_append register (x ∷ xs) ys content = after_append register xs ys (after_record register x content)

-- the records up to k, and those above it
pub split_at : (k j : ℕ) (xs : List Record) → Ascending j xs → below (suc k) xs ++ above k xs ≡ xs
split_at k j [] a = refl
split_at k j (x ∷ xs) a = elim (compared k x.number) [
  | inl l ↦
      let low : below (suc k) (x ∷ xs) ≡ [] = below_case (λ q. q ≡ []) (suc k) x xs (λ bad. absurd (omega arith)) (λ _. refl) in
      let high : above k (x ∷ xs) ≡ x ∷ xs = above_case (λ q. q ≡ x ∷ xs) k x xs (λ _. refl) (λ bad. absurd (omega arith)) in
      ap (λ q. q ++ above k (x ∷ xs)) low ∙ high
  | inr l ↦
      let within : x.number ≤ k = elim l [ inl e ↦ omega arith | inr q ↦ omega arith ] in
      let low : below (suc k) (x ∷ xs) ≡ x ∷ below (suc k) xs = below_case (λ q. q ≡ x ∷ below (suc k) xs) (suc k) x xs (λ _. refl) (λ bad. absurd (omega arith)) in
      let high : above k (x ∷ xs) ≡ above k xs = above_case (λ q. q ≡ above k xs) k x xs (λ bad. absurd (omega arith)) (λ _. refl) in
      ap (λ q. q ++ above k (x ∷ xs)) low ∙ ap (λ q. (x ∷ below (suc k) xs) ++ q) high ∙ ap (λ q. x ∷ q) (split_at k (suc x.number) xs a.1)
]

-- settling keeps every register
pub registers_settled : (count k : ℕ) (journal : JournalState) → count ≤ 32 → Ascending (suc journal.base.upto) journal.records → AreCellsOf journal.base.upto journal.base.cells → registers_in count (settled k journal) ≡ registers_in count journal
registers_settled count k journal few a h =
    let xs = journal.records in
    let cells = journal.base.cells in
    each_below_same (λ r. after_records r (above k xs) (cell_in r (settled k journal).base)) (λ r. after_records r xs (cell_in r journal.base)) count
    (λ r l.
    ap (λ c. after_records r (above k xs) c) (cells_shown r journal.base.upto (below (suc k) xs) cells (omega arith) (ascending_below (suc k) (suc journal.base.upto) xs a) h)
    ∙ sym (after_append r (below (suc k) xs) (above k xs) (cell_in r journal.base))
    ∙ ap (λ q. after_records r q (cell_in r journal.base)) (split_at k (suc journal.base.upto) xs a))
