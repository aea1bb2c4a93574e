use Rattle.std.specs.Prelude.{◌≡◌, ◌↔◌, ℕ, suc, ◌≤◌, List, Some, map, length, slice_get}
use Rattle.mx_stamps.specs.declared.limits.TheConstants.{MAX_REGISTERS}
use Rattle.mx_stamps.specs.Lists.{IsIn}
use Rattle.mx_journal.specs.declared.receipts.Read.{Read}
use Rattle.mx_journal.specs.declared.receipts.Receipt.{Receipt}
use Rattle.mx_journal.specs.Drafted.{record_of}
use Rattle.mx_journal.specs.Settled.{Covers, JournalState, settled, unsettled}
use Rattle.mx_registers.specs.Based.{registers_in}
use Rattle.mx_registers.specs.Registers.{AreApplied, writes_to}
use Rattle.mx_trace.specs.Serial.{IsSerialRead}

pub record AreSerial (receipts : List Receipt) (journal : JournalState) : Type 0 where
  -- the receipts have the numbers 1, 2, 3 and so on
  pub numbered : (k : ℕ) (r : Receipt) → slice_get receipts k ≡ Some r → r.number ≡ suc k
  -- the journal has exactly the records of the receipts, in order, except that those up to its base
  -- are settled: the base has the registers after them
  pub records : journal ≡ settled journal.base.upto (unsettled (map record_of receipts))
  -- so the journal covers the numbers from 1 to the number of receipts, and no others
  pub covers : (n : ℕ) → Covers n journal ↔ ((1 ≤ n) × (n ≤ length receipts))
  -- each value read is the register's after the writes of the receipts before, in order, and the
  -- receipt's own writes before the read
  pub reads : (k : ℕ) (r : Receipt) (x : Read) → slice_get receipts k ≡ Some r
      → IsIn x r.reads.items → IsSerialRead (writes_to k (map record_of receipts)) r.writes.items x
  -- and each register of the journal has its value after the writes of all receipts, in order
  pub shows : (count : ℕ) → count ≤ MAX_REGISTERS
      → AreApplied (writes_to (length receipts) (map record_of receipts))
      (registers_in count journal)
