-- What the judge remembers of the earlier items of a trace, and what it finds at the next mark.
use Rattle.std.specs.Prelude.{ℕ, suc, ◌≡◌, ◌<◌, ◌&&◌, Bool, false, List, [], ◌∷◌, Option, Some, None, length, nat_eq, slice_index_or, if◌then◌else◌}
use Rattle.mx_journal.specs.declared.records.Write.{Write}
use Rattle.mx_registers.specs.Registers.{applied}
use Rattle.mx_trace.specs.Sections.{Mark, Came, Got, Wrote, Went, Woke, Section, after_marks, writes_in}
use Rattle.mx_trace.specs.Serial.{AllClosed}
use Rattle.mx_explorer.specs.declared.ledger.LastWrite.{LastWrite}
use Rattle.mx_explorer.specs.declared.ledger.Ledger.{Ledger}
use Rattle.mx_explorer.specs.declared.verdict.Clause.{Clause}
use Rattle.mx_explorer.specs.declared.verdict.Clause.TheVariants.{Overlap, Number, Read}

-- the sections before the newest
abbrev pub older : List Section → List Section
older [] = []
older (s ∷ ss) = ss

-- the node inside the newest section, if this section is not closed
abbrev pub holder : List Section → Option ℕ
holder [] = None
holder (s ∷ ss) = if s.closed then None else Some s.node

-- the last write to the register after these writes of section n, which node i entered; `before` is
-- the last one before them
abbrev pub after_writes : ℕ → ℕ → ℕ → List Write → Option LastWrite → Option LastWrite
after_writes register i n [] before = before
after_writes register i n (w ∷ ws) before =
    after_writes register i n ws
    (if nat_eq w.register register
    then Some (record { value = w.value; node = i; section = n })
    else before)

-- the last write to the register in these sections, in order of entry
abbrev pub last_write : ℕ → List Section → Option LastWrite
last_write register [] = None
last_write register (s ∷ ss) =
    after_writes register s.node (suc (length ss)) s.draft.writes (last_write register ss)

-- these are the last writes in the sections to the 256 registers
abbrev pub Shows : List Section → List (Option LastWrite) → Type 0
Shows ss held =
    (length held ≡ 256) × ((r : ℕ) → r < 256 → slice_index_or held r None ≡ last_write r ss)

-- the ledger describes these sections, and all but the newest are closed
pub record IsLedgerOf (ss : List Section) (l : Ledger) : Type 0 where
  pub inside : l.inside ≡ holder ss
  pub last : l.last ≡ length ss
  pub left : AllClosed (older ss)
  pub held : Shows ss l.held
  pub before : Shows (older ss) l.before

abbrev pub is_node : ℕ → Option ℕ → Bool
is_node i None = false
is_node i (Some j) = nat_eq j i

-- the clause that an entry with number n breaks, given the node inside and the next number
abbrev pub at_entry : Option ℕ → ℕ → ℕ → Option Clause
at_entry None next n = if nat_eq n next then None else Some Number
at_entry (Some j) next n = Some Overlap

-- the clause that a mark breaks after these sections, if it breaks one
abbrev pub broken_by : List Section → Mark → Option Clause
broken_by ss (Came i n) = at_entry (holder ss) (suc (length ss)) n
broken_by ss (Got i register value) =
    if is_node i (holder ss) && nat_eq value (applied register (writes_in ss) 0)
    then None
    else Some Read
broken_by ss (Wrote i register value) = None
broken_by ss (Went i receipt) =
    if is_node i (holder ss) && nat_eq receipt.number (length ss) then None else Some Overlap
broken_by ss (Woke i) = None

-- the clause that an item of the trace breaks by its mark. An item without a mark breaks none
abbrev pub broken_at : List Section → List Mark → Option Clause
broken_at ss [] = None
broken_at ss (m ∷ ms) = broken_by ss m

-- after an item of the trace: `found` is the clause that the item breaks. If it breaks none, the
-- new ledger describes the sections after the item
abbrev pub Takes : Ledger → List Mark → Option Clause → Ledger → Type 0
Takes old marks found new =
    (ss : List Section) → IsLedgerOf ss old
    → (found ≡ broken_at ss marks) × (found ≡ None → IsLedgerOf (after_marks ss marks) new)
