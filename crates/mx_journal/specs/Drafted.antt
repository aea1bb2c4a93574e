use Rattle.std.specs.Prelude.{ℕ, ◌==◌, ◌++◌, List, [], ◌∷◌, Option, None, length, map, filter}
use Rattle.std.specs.List.{last_or}
use Rattle.mx_journal.specs.declared.records.Write.{Write}
use Rattle.mx_journal.specs.declared.records.Record.{Record}
use Rattle.mx_journal.specs.declared.receipts.Read.{Read}
use Rattle.mx_journal.specs.declared.receipts.Receipt.{Receipt}

-- the reads and writes of a section so far, each in order
pub record Drafted : Type 0 where
  pub reads : List Read
  pub writes : List Write

abbrev pub fresh : Drafted
fresh = record { reads = []; writes = [] }

-- the value of the last of these writes to the register, if there is one
abbrev pub last_value : ℕ → List Write → Option ℕ
last_value register writes =
    last_or None (map (λ w. w.value) (filter (λ w. w.register == register) writes))

-- the draft with one more read, which comes after the writes so far
abbrev pub with_read : ℕ → ℕ → Drafted → Drafted
with_read register value draft = record {
  reads = draft.reads
      ++ record { register = register; value = value; after = length draft.writes } ∷ [];
  writes = draft.writes;
}

abbrev pub with_write : ℕ → ℕ → Drafted → Drafted
with_write register value draft = record {
  reads = draft.reads;
  writes = draft.writes ++ record { register = register; value = value } ∷ [];
}

abbrev pub receipt_of : ℕ → ℕ → Drafted → Receipt
receipt_of number node draft = record {
  number = number;
  node = node;
  reads = record { items = draft.reads };
  writes = record { items = draft.writes };
}

-- the receipt without its reads
abbrev pub record_of : Receipt → Record
record_of receipt = record { number = receipt.number; node = receipt.node; writes = receipt.writes }
