use Rattle.std.specs.Prelude.{ℕ, suc, ◌≡◌, ◌++◌, List, [], ◌∷◌, Ok, length, nat_eq, if◌then◌else◌}
use Rattle.mx_stamps.specs.Lists.{IsIn}
use Rattle.mx_journal.specs.declared.records.Record.{Record}
use Rattle.mx_journal.specs.declared.records.Write.{Write}
use Rattle.mx_journal.specs.declared.receipts.Read.{Read}
use Rattle.mx_journal.specs.declared.receipts.Receipt.{Receipt}
use Rattle.mx_journal.specs.Drafted.{record_of}
use Rattle.mx_member.specs.declared.acts.Answer.{Answer}
use Rattle.mx_member.specs.declared.acts.Answer.TheVariants as answer
use Rattle.mx_trace.specs.Sections.{Section, section_receipt}
use Rattle.mx_trace.specs.Serial.{IsSerialRead}

-- the receipt in the result of an accepted leave; none in any other result
abbrev pub closed_by : Answer → List Receipt
closed_by (answer.Left (Ok receipt)) = receipt ∷ []
closed_by _ = []

-- the receipts of the closed sections, the newest first
abbrev pub receipts_in : List Section → List Receipt
receipts_in [] = []
receipts_in (s ∷ ss) =
    if s.closed then section_receipt (suc (length ss)) s ∷ receipts_in ss else receipts_in ss

-- the receipts of node i, the oldest first; the given receipts are listed with the newest first
abbrev pub own_in : ℕ → List Receipt → List Receipt
own_in i [] = []
own_in i (r ∷ rs) = if nat_eq r.node i then own_in i rs ++ r ∷ [] else own_in i rs

-- the writes of the receipts, in order; the receipts are listed with the newest first
abbrev pub receipt_writes : List Receipt → List Write
receipt_writes [] = []
receipt_writes (r ∷ rs) = receipt_writes rs ++ r.writes.items

-- the records of the receipts, the oldest first; the receipts are listed with the newest first
abbrev pub records_of : List Receipt → List Record
records_of [] = []
records_of (r ∷ rs) = records_of rs ++ record_of r ∷ []

-- receipts, listed with the newest first: the oldest has the number 1, the next 2, and so on. Each
-- value read is that of the register after the writes of all earlier receipts and the receipt's own
-- earlier writes
abbrev pub StandInOrder : List Receipt → Type 0
StandInOrder [] = Unit {0}
StandInOrder (r ∷ rs) =
    (r.number ≡ suc (length rs))
    × ((x : Read) → IsIn x r.reads.items → IsSerialRead (receipt_writes rs) r.writes.items x)
    × StandInOrder rs
