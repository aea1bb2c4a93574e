-- Marks (what events do in sections), the sections that a list of marks makes, and their journal.
use Rattle.std.specs.Prelude.{ℕ, suc, ◌&&◌, ◌++◌, Bool, true, false, not, List, [], ◌∷◌, length, nat_eq, nat_lt, if◌then◌else◌}
use Rattle.mx_journal.specs.declared.records.Write.{Write}
use Rattle.mx_journal.specs.declared.records.Record.{Record}
use Rattle.mx_journal.specs.declared.receipts.Receipt.{Receipt}
use Rattle.mx_journal.specs.Drafted.{Drafted, fresh, with_read, with_write, receipt_of, record_of}

-- a mark, what an event does in a section: a node enters, reads a value from a register, writes a
-- value to a register, leaves with a receipt, or restarts
pub data Mark : Type 0 where
  Came : (node number : ℕ) → Mark
  Got : (node register value : ℕ) → Mark
  Wrote : (node register value : ℕ) → Mark
  Went : (node : ℕ) (receipt : Receipt) → Mark
  Woke : (node : ℕ) → Mark

-- a section: the node that entered it, the node's reads and writes in it since it entered or last
-- restarted, and whether the section is closed (the node has left it)
pub record Section : Type 0 where
  pub node : ℕ
  pub draft : Drafted
  pub closed : Bool

abbrev pub opened : ℕ → Section
opened i = record { node = i; draft = fresh; closed = false }

abbrev pub redrafted : (Drafted → Drafted) → Section → Section
redrafted f s = record { node = s.node; draft = f s.draft; closed = s.closed }

abbrev pub closing : Section → Section
closing s = record { node = s.node; draft = s.draft; closed = true }

-- the sections, after f has changed the newest one that node i has entered and not left
abbrev pub at_open : ℕ → (Section → Section) → List Section → List Section
at_open i f [] = []
at_open i f (s ∷ ss) = if nat_eq s.node i && not s.closed then f s ∷ ss else s ∷ at_open i f ss

-- the sections after a mark. They are listed with the newest first, so that n - 1 others follow the
-- n-th
abbrev pub after_mark : List Section → Mark → List Section
after_mark ss (Came i n) = opened i ∷ ss
after_mark ss (Got i register value) = at_open i (redrafted (with_read register value)) ss
after_mark ss (Wrote i register value) = at_open i (redrafted (with_write register value)) ss
after_mark ss (Went i receipt) = at_open i closing ss
after_mark ss (Woke i) = at_open i (redrafted (λ _. fresh)) ss

abbrev pub after_marks : List Section → List Mark → List Section
after_marks ss [] = ss
after_marks ss (m ∷ ms) = after_marks (after_mark ss m) ms

-- the writes of the sections, in order of entry, each section's in order
abbrev pub writes_in : List Section → List Write
writes_in [] = []
writes_in (s ∷ ss) = writes_in ss ++ s.draft.writes

-- the first k sections in order of entry
abbrev pub oldest : ℕ → List Section → List Section
oldest k [] = []
oldest k (s ∷ ss) = if nat_lt (length ss) k then s ∷ ss else oldest k ss

-- the receipt of a section, by its number n
abbrev pub section_receipt : ℕ → Section → Receipt
section_receipt n s = receipt_of n s.node s.draft

-- the record of the n-th section, if it is closed
abbrev pub closed_record : ℕ → Section → List Record
closed_record n s = if s.closed then record_of (section_receipt n s) ∷ [] else []

-- the journal of the sections: the records of the closed ones, in order of entry
abbrev pub section_journal : List Section → List Record
section_journal [] = []
section_journal (s ∷ ss) = section_journal ss ++ closed_record (suc (length ss)) s
