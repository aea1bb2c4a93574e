-- Journals of one list of sections: where they cover the same numbers, they show the same registers.
use Rattle.std.proofs.Common.{ℕ, zero, suc, ◌<◌, ◌≤◌, ◌≡◌, inl, inr, List, [], ◌∷◌, ◌++◌, replicate, refl, sym, ◌∙◌, ap, subst, arith}
use Rattle.mx_stamps.specs.Lists.{IsIn}
use Rattle.mx_stamps.proofs.Choices.{dec_le}
use Rattle.mx_journal.specs.declared.cells.Cell.{Cell}
use Rattle.mx_journal.specs.declared.records.Record.{Record}
use Rattle.mx_journal.specs.Agreement.{IsSubmap}
use Rattle.mx_journal.specs.Bases.{AreCellsOf, BaseState, origin, unwritten, with_section, with_sections}
use Rattle.mx_journal.specs.Records.{Ascending, above, below}
use Rattle.mx_journal.specs.Settled.{Covers, JournalState, settled}
use Rattle.mx_journal.proofs.Bases.{with_section_of}
use Rattle.mx_journal.proofs.Below.{ascending_below, below_case, below_has, in_below}
use Rattle.mx_journal.proofs.Found.{above_has, in_above}
use Rattle.mx_journal.proofs.Going.{ascending_rest_above}
use Rattle.mx_journal.proofs.Maps.{ascending_above, ascending_same, same_members}
use Rattle.mx_registers.specs.Based.{registers_in}
use Rattle.mx_registers.proofs.Based.{registers_settled, split_at}

-- a journal that knows of these sections alone: its base is that of the first of them, its records are theirs
pub record IsOf (sections : List Record) (journal : JournalState) : Type 0 where
  pub order : Ascending (suc journal.base.upto) journal.records
  pub base : journal.base ≡ record { upto = journal.base.upto; cells = with_sections (below (suc journal.base.upto) sections) origin.cells }
  pub records : IsSubmap journal.records sections

-- what a covers b covers too
abbrev pub CoversAll : JournalState → JournalState → Type 0
CoversAll b a = (n : ℕ) → Covers n a → Covers n b

-- no section wrote a cell of the origin
in_replicate : (n : ℕ) (cell : Cell) → IsIn cell (replicate n unwritten) → cell ≡ unwritten
in_replicate zero cell h = absurd h
in_replicate (suc n) cell (inl e) = e
in_replicate (suc n) cell (inr h) = in_replicate n cell h

with_sections_of : (k : ℕ) (xs : List Record) (cells : List Cell) → ((x : Record) → IsIn x xs → (1 ≤ x.number) × (x.number ≤ k)) → AreCellsOf k cells → AreCellsOf k (with_sections xs cells)
with_sections_of k [] cells h of = of
with_sections_of k (x ∷ xs) cells h of =
    let w = h x (inl refl) in
    with_sections_of k xs (with_section x cells) (λ y m. h y (inr m)) (with_section_of k x cells w.0 w.1 of)

with_sections_append : (xs ys : List Record) (cells : List Cell) → with_sections (xs ++ ys) cells ≡ with_sections ys (with_sections xs cells)
with_sections_append [] ys cells = refl
with_sections_append (x ∷ xs) ys cells = with_sections_append xs ys (with_section x cells)

below_below : (m n : ℕ) (xs : List Record) → m ≤ n → below m (below n xs) ≡ below m xs
below_below m n [] l = refl
below_below m n (x ∷ xs) l =
    below_case (λ q. below m q ≡ below m (x ∷ xs)) n x xs
    (λ _. below_case (λ q. q ≡ below m (x ∷ xs)) m x (below n xs)
    (λ low. below_case (λ q. x ∷ below m (below n xs) ≡ q) m x xs (λ _. ap (λ q. x ∷ q) (below_below m n xs l)) (λ bad. absurd (omega arith)))
    (λ high. below_case (λ q. [] ≡ q) m x xs (λ bad. absurd (omega arith)) (λ _. refl)))
    (λ high. below_case (λ q. [] ≡ q) m x xs (λ bad. absurd (omega arith)) (λ _. refl))

-- a record of a section that a covers above its base is among a's
theirs : (sections : List Record) (a : JournalState) → Ascending 1 sections → IsOf sections a → (x : Record) → IsIn x sections → a.base.upto < x.number → Covers x.number a → IsIn x a.records
theirs sections a order of x h l (inl s) = absurd (let q = s.1 in omega arith)
theirs sections a order of x h l (inr w) =
    subst (λ z. IsIn z a.records) (ascending_same 1 sections order w.0 x (of.records w.0 w.1) h w.2) w.1

-- the journal of the lower base, settled up to the other's, is the other
settled_to : (sections : List Record) (a b : JournalState) → Ascending 1 sections → IsOf sections a → IsOf sections b → a.base.upto ≤ b.base.upto → CoversAll b a → CoversAll a b → settled b.base.upto a ≡ b
settled_to sections a b order oa ob low ab ba =
    let i = a.base.upto in
    let k = b.base.upto in
    let first = below (suc k) sections in
    let upto : Ascending 1 first = ascending_below (suc k) 1 sections order in
    let middle : below (suc k) a.records ≡ above i first = same_members (suc i) (suc i) (below (suc k) a.records) (above i first)
    (ascending_below (suc k) (suc i) a.records oa.order) (ascending_rest_above i 1 first upto)
    (λ x h.
    let w = in_below (suc k) a.records x h in
    let high = ascending_above (suc i) a.records oa.order x w.0 in
    above_has i first x (below_has (suc k) 1 sections order x (oa.records x w.0) w.1) (omega arith))
    (λ x h.
    let high = ascending_above (suc i) (above i first) (ascending_rest_above i 1 first upto) x h in
    let w = in_below (suc k) sections x (in_above i first x h) in
    let number = w.1 in
    let there = theirs sections a order oa x w.0 (omega arith) (ba x.number (inl (omega arith, omega arith))) in
    below_has (suc k) (suc i) a.records oa.order x there w.1) in
    let joined : below (suc i) sections ++ below (suc k) a.records ≡ first =
    ap (λ q. q ++ below (suc k) a.records) (sym (below_below (suc i) (suc k) sections (omega arith))) ∙ ap (λ q. below (suc i) first ++ q) middle ∙ split_at i 1 first upto in
    let cells : with_sections (below (suc k) a.records) a.base.cells ≡ with_sections first origin.cells =
    ap (λ (s : BaseState). with_sections (below (suc k) a.records) s.cells) oa.base
    ∙ sym (with_sections_append (below (suc i) sections) (below (suc k) a.records) origin.cells) ∙ ap (λ q. with_sections q origin.cells) joined in
    let base : (settled k a).base ≡ b.base = ap (λ q. let s : BaseState = record { upto = k; cells = q } in s) cells ∙ sym ob.base in
    let records : above k a.records ≡ b.records = same_members (suc k) (suc k) (above k a.records) b.records (ascending_rest_above k (suc i) a.records oa.order) ob.order
    (λ x h.
    let high = ascending_above (suc k) (above k a.records) (ascending_rest_above k (suc i) a.records oa.order) x h in
    let m = in_above k a.records x h in
    theirs sections b order ob x (oa.records x m) (omega arith) (ab x.number (inr (x, m, refl))))
    (λ x h.
    let high = ascending_above (suc k) b.records ob.order x h in
    above_has k a.records x (theirs sections a order oa x (ob.records x h) (omega arith) (ba x.number (inr (x, h, refl)))) (omega arith)) in
    ap (λ s. let j : JournalState = record { base = s; records = above k a.records } in j) base ∙ ap (λ l. let j : JournalState = record { base = b.base; records = l } in j) records

cells_of_first : (sections : List Record) (a : JournalState) → Ascending 1 sections → IsOf sections a → AreCellsOf a.base.upto a.base.cells
cells_of_first sections a order of =
    let k = a.base.upto in
    let none : AreCellsOf k origin.cells = λ cell h. (subst (λ (c : Cell). c.number ≤ k) (sym (in_replicate 32 cell h)) (omega arith), inr (ap (λ (c : Cell). c.value) (in_replicate 32 cell h))) in
    subst (λ (s : BaseState). AreCellsOf k s.cells) (sym of.base)
    (with_sections_of k (below (suc k) sections) origin.cells (λ x h. let w = in_below (suc k) sections x h in let low = ascending_above 1 sections order x w.0 in let high = w.1 in (omega arith, omega arith)) none)

same_from_lower : (count : ℕ) (sections : List Record) (a b : JournalState) → count ≤ 32 → Ascending 1 sections → IsOf sections a → IsOf sections b → a.base.upto ≤ b.base.upto → CoversAll b a → CoversAll a b → registers_in count a ≡ registers_in count b
same_from_lower count sections a b few order oa ob low ab ba =
    sym (registers_settled count b.base.upto a few oa.order (cells_of_first sections a order oa))
    ∙ ap (λ j. registers_in count j) (settled_to sections a b order oa ob low ab ba)

-- journals of one list of sections that cover the same numbers show the same registers
pub same_coverage : (count : ℕ) (sections : List Record) (a b : JournalState) → count ≤ 32 → Ascending 1 sections → IsOf sections a → IsOf sections b → CoversAll b a → CoversAll a b → registers_in count a ≡ registers_in count b
same_coverage count sections a b few order oa ob ab ba = elim (dec_le a.base.upto b.base.upto) [
  | inl low ↦ same_from_lower count sections a b few order oa ob low ab ba
  | inr high ↦ sym (same_from_lower count sections b a few order ob oa (omega arith) ba ab)
]
