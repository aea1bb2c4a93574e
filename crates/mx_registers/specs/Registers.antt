-- The contents of registers after sections. A register has the value of the last write to it in the
-- record with the greatest number that writes it, and the number of that record. A register that no
-- record writes has the value 0 and no number.
use Rattle.std.specs.Prelude.{ℕ, zero, suc, ◌≡◌, ◌≤◌, List, [], ◌∷◌, ◌++◌, Option, Some, None, nat_le, nat_eq, if◌then◌else◌, length, get_or, slice_get}
use Rattle.std.specs.Option.{option_map}
use Rattle.mx_stamps.specs.Lists.{IsIn, each_below}
use Rattle.mx_journal.specs.declared.records.Write.{Write}
use Rattle.mx_journal.specs.declared.records.Record.{Record}
use Rattle.mx_journal.specs.Records.{record_at}
use Rattle.mx_journal.specs.Agreement.{IsSubmap}
use Rattle.mx_journal.specs.Drafted.{last_value}
use Rattle.mx_registers.specs.declared.contents.Content.{Content}

-- the value that the record writes to the register last, if it writes to it
abbrev pub written : ℕ → Record → Option ℕ
written register entry = last_value register entry.writes.items

abbrev pub IsUnwritten : ℕ → List Record → Type 0
IsUnwritten register records = (x : Record) → IsIn x records → written register x ≡ None

-- n is the greatest number of a record that writes the register, and value is the last that this
-- record writes to it
abbrev pub IsLastWrite : ℕ → List Record → ℕ → ℕ → Type 0
IsLastWrite register records n value =
    (x : Record) × IsIn x records × (x.number ≡ n) × (written register x ≡ Some value)
    × ((y : Record) (other : ℕ) → IsIn y records → written register y ≡ Some other → y.number ≤ n)

-- after the records the register has this value: section n wrote it last; or, for None, no section
-- wrote the register and the value is 0
abbrev pub IsHeldBy : ℕ → List Record → Option ℕ → ℕ → Type 0
IsHeldBy register records None value = (value ≡ 0) × IsUnwritten register records
IsHeldBy register records (Some n) value = IsLastWrite register records n value

-- the content is that of the register after the records, whatever their order
abbrev pub IsHeld : ℕ → List Record → Content → Type 0
IsHeld register records content = IsHeldBy register records content.by content.value

-- each content in the list is that of its register after the records
abbrev pub AreHeld : List Record → List Content → Type 0
AreHeld records contents =
    (register : ℕ) (content : Content)
    → slice_get contents register ≡ Some content → IsHeld register records content

-- both lists have the same members, in any order and any number of times
abbrev pub HaveSameMembers : List Record → List Record → Type 0
HaveSameMembers xs ys = IsSubmap xs ys × IsSubmap ys xs

abbrev pub blank : Content
blank = record { value = 0; by = None }

-- the number of the section that wrote the register, or 0 if none did
abbrev pub number_by : Option ℕ → ℕ
number_by None = 0
number_by (Some n) = n

-- a register after section n; the value is that of the section's last write to the register, if it
-- has one. A write of a later section remains
abbrev pub after_write : ℕ → Option ℕ → Content → Content
after_write n None content = content
after_write n (Some value) content =
    if nat_le (number_by content.by) n then record { value = value; by = Some n } else content

abbrev pub after_record : ℕ → Record → Content → Content
after_record register entry content = after_write entry.number (written register entry) content

abbrev pub after_records : ℕ → List Record → Content → Content
after_records register [] content = content
after_records register (x ∷ xs) content =
    after_records register xs (after_record register x content)

-- the contents of a register after these records, if it was unwritten before
abbrev pub register_of : ℕ → List Record → Content
register_of register records = after_records register records blank

-- the contents of the registers below `count` after these records
abbrev pub registers_of : ℕ → List Record → List Content
registers_of count records = each_below (λ register. register_of register records) count

abbrev pub with_taken : Record → List Content → List Content
with_taken entry contents =
    each_below (λ register. after_record register entry (get_or contents register blank))
    (length contents)

-- the value of a register, if there is such a register
abbrev pub value_in : ℕ → List Content → Option ℕ
value_in register contents =
    option_map (λ (content : Content). content.value) (slice_get contents register)

-- the number of the section that wrote the contents; none if no section did, or there are none
abbrev pub writer_of : Option Content → Option ℕ
writer_of None = None
writer_of (Some content) = content.by

-- the number of the section that wrote the register; none if no section did, or there is no such
-- register
abbrev pub writer_in : ℕ → List Content → Option ℕ
writer_in register contents = writer_of (slice_get contents register)

-- the value of a register after the writes, applied one after another to this value
abbrev pub applied : ℕ → List Write → ℕ → ℕ
applied register [] value = value
applied register (w ∷ ws) value =
    applied register ws (if nat_eq w.register register then w.value else value)

abbrev pub writes_of : Option Record → List Write
writes_of None = []
writes_of (Some entry) = entry.writes.items

-- the writes of sections 1, 2, .., k, each section's in order
abbrev pub writes_to : ℕ → List Record → List Write
writes_to zero records = []
writes_to (suc k) records = writes_to k records ++ writes_of (record_at (suc k) records)

-- each content in the list has the value of its register after the writes, applied in order
abbrev pub AreApplied : List Write → List Content → Type 0
AreApplied writes contents =
    (register : ℕ) (content : Content) → slice_get contents register ≡ Some content
    → content.value ≡ applied register writes 0
