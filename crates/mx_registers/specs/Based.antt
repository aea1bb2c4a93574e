-- The contents of registers in a journal: those of its base, changed by the records above it.
use Rattle.std.specs.Prelude.{ℕ, ◌≡◌, ◌⊎◌, List, Some, nat_eq, if◌then◌else◌, get_or, slice_get}
use Rattle.mx_stamps.specs.Lists.{each_below}
use Rattle.mx_journal.specs.declared.cells.Cell.{Cell}
use Rattle.mx_journal.specs.declared.records.Record.{Record}
use Rattle.mx_journal.specs.declared.records.Write.{Write}
use Rattle.mx_journal.specs.Bases.{BaseState, unwritten}
use Rattle.mx_journal.specs.Records.{below}
use Rattle.mx_journal.specs.Settled.{JournalState}
use Rattle.mx_registers.specs.declared.contents.Content.{Content}
use Rattle.mx_registers.specs.Registers.{IsLastWrite, IsUnwritten, after_records, applied, blank}

-- the contents of a register, by its cell in a base: the cell's number is 0 if no section wrote it
abbrev pub shown_cell : Cell → Content
shown_cell cell =
    if nat_eq cell.number 0 then blank else record { value = cell.value; by = Some cell.number }

abbrev pub cell_in : ℕ → BaseState → Content
cell_in register base = shown_cell (get_or base.cells register unwritten)

-- the contents of the registers below `count`, after the sections of a base and these records
abbrev pub registers_from : BaseState → ℕ → List Record → List Content
registers_from base count records =
    each_below (λ register. after_records register records (cell_in register base)) count

-- the contents of the registers below `count` in a journal
abbrev pub registers_in : ℕ → JournalState → List Content
registers_in count journal = registers_from journal.base count journal.records

-- the contents of the registers below `count` after the sections below n, in a journal whose base
-- is below n
abbrev pub registers_below : ℕ → ℕ → JournalState → List Content
registers_below n count journal = registers_from journal.base count (below n journal.records)

-- the content is that of the register in the journal: the last write of the record with the
-- greatest number that writes the register, or the contents in the base if no record writes it
abbrev pub IsHeldIn : ℕ → JournalState → Content → Type 0
IsHeldIn register journal content =
    ((n : ℕ) × (content.by ≡ Some n) × IsLastWrite register journal.records n content.value)
    ⊎ (IsUnwritten register journal.records × (content ≡ cell_in register journal.base))

-- each content in the list is that of its register in the journal
abbrev pub AreHeldIn : JournalState → List Content → Type 0
AreHeldIn journal contents =
    (register : ℕ) (content : Content)
    → slice_get contents register ≡ Some content → IsHeldIn register journal content

-- each content in the list has the value of its register after the writes, applied in order to the
-- base
abbrev pub AreAppliedTo : BaseState → List Write → List Content → Type 0
AreAppliedTo base writes contents =
    (register : ℕ) (content : Content) → slice_get contents register ≡ Some content
    → content.value ≡ applied register writes (cell_in register base).value
