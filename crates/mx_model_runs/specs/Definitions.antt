-- Small histories (lists of marks), journals and maps that the definitions exclude, and journals
-- that they accept. And the merging of journals that have settled nothing.
use Rattle.std.specs.Prelude.{ℕ, ◌≡◌, true, List, [], ◌∷◌, None}
use Rattle.mx_journal.specs.declared.records.Record.{Record}
use Rattle.mx_journal.specs.declared.records.Write.{Write}
use Rattle.mx_journal.specs.declared.receipts.Receipt.{Receipt}
use Rattle.mx_journal.specs.Agreement.{AreAgreeing, IsSubmap}
use Rattle.mx_journal.specs.Bases.{origin}
use Rattle.mx_journal.specs.Records.{Ascending}
use Rattle.mx_journal.specs.Settled.{JournalState, joined, settled, unsettled}
use Rattle.mx_merge.specs.Join.{IsLeastUpperBound}
use Rattle.mx_trace.specs.Sections.{Came, Got, Mark, Section, Went, Woke, Wrote}
use Rattle.mx_trace.specs.Serial.{AllFit, Alternate, NumberedFrom, ReadSerially}
use Rattle.mx_trace.specs.Trace.{ShowsInOrder}
use Rattle.mx_trace.specs.declared.outcome.Entry.{Entry}
use Rattle.mx_trace.specs.declared.outcome.Outcome.TheVariants.{Entered, Written, Left}
use Rattle.mx_events.specs.declared.event.Event.TheVariants as event
use Rattle.mx_model_runs.specs.Runs.{first_receipt, is}

-- the receipt of a section that read nothing
abbrev pub receipt_of : ℕ → ℕ → List Write → Receipt
receipt_of number node writes =
    record {
      number = number;
      node = node;
      reads = record { items = [] };
      writes = record { items = writes };
    }

-- a write of this value to register 0
abbrev pub to_zero : ℕ → Write
to_zero value = record { register = 0; value = value }

-- node 0 enters section 1 and writes 7 to register 0; then the marks `rest` follow
abbrev pub written_seven : List Mark → List Mark
written_seven rest = Came 0 1 ∷ Wrote 0 0 7 ∷ rest

-- histories that the definitions exclude
pub record RefusesHistories : Type 0 where
  -- two entries without an exit between them
  pub two_inside : AllFit [] (Came 0 1 ∷ Came 1 2 ∷ []) → ⊥
  pub two_alternate : Alternate None (Came 0 1 ∷ Came 1 2 ∷ []) → ⊥
  -- an exit of another node, or with another number
  pub other_leaves : Alternate None (Came 0 1 ∷ Went 1 (receipt_of 1 1 []) ∷ []) → ⊥
  pub other_number : Alternate None (Came 0 1 ∷ Went 0 (receipt_of 2 0 []) ∷ []) → ⊥
  -- a first entry with the number 2
  pub second_first : AllFit [] (Came 0 2 ∷ []) → ⊥
  pub second_numbered : NumberedFrom 1 (Came 0 2 ∷ []) → ⊥
  -- a read of a value that nobody wrote, or that an earlier section overwrote
  pub unwritten : AllFit [] (Came 0 1 ∷ Got 0 0 5 ∷ []) → ⊥
  pub stale : AllFit [] (written_seven (Went 0 (receipt_of 1 0 (to_zero 7 ∷ [])) ∷ Came 1 2
      ∷ Got 1 0 0 ∷ [])) → ⊥
  -- a read or a write by a node that is not inside
  pub read_outside : AllFit [] (Came 0 1 ∷ Got 1 0 0 ∷ []) → ⊥
  pub written_outside : AllFit [] (Wrote 0 0 7 ∷ []) → ⊥
  -- a receipt that misses a write, and one that has a write from before its node restarted
  pub missed : AllFit [] (written_seven (Went 0 (receipt_of 1 0 []) ∷ [])) → ⊥
  pub kept : AllFit [] (written_seven (Woke 0 ∷ Went 0 (receipt_of 1 0 (to_zero 7 ∷ [])) ∷ []))
      → ⊥

-- node 0 enters section 1, writes 7, and leaves
abbrev pub one_section : List Entry
one_section =
    is (event.Enter 0) (Entered 1) ∷ is (event.Write 0 0 7) Written
    ∷ is (event.Leave 0) (Left first_receipt) ∷ []

-- the record of section 1 of node 0, which wrote this value to register 0
abbrev pub wrote : ℕ → Record
wrote value =
    record { number = 1; node = 0; writes = record { items = to_zero value ∷ [] } }

-- section 1 of node 0 read 5, and wrote nothing
abbrev pub read_five : Section
read_five =
    record {
      node = 0;
      draft = record { reads = record { register = 0; value = 5; after = 0 } ∷ []; writes = [] };
      closed = true;
    }

-- journals, sections and maps that the definitions exclude, and journals that they accept
pub record RefusesJournals : Type 0 where
  -- the journal of that section shows the section's write, whether the section is settled or not; a
  -- journal with another value does not
  pub shown : ShowsInOrder one_section (unsettled (wrote 7 ∷ []))
  pub shown_settled : ShowsInOrder one_section (settled 1 (unsettled (wrote 7 ∷ [])))
  pub other_shown : ShowsInOrder one_section (unsettled (wrote 9 ∷ [])) → ⊥
  -- a section that read a value that nobody wrote
  pub unwritten : ReadSerially (read_five ∷ []) → ⊥
  -- a map with a record is not below the empty map, and is not the join of two empty maps
  pub not_below : IsSubmap (wrote 7 ∷ []) [] → ⊥
  pub no_join : IsLeastUpperBound [] [] (wrote 7 ∷ []) → ⊥

-- if two journals have settled nothing and agree, the merged one is their least upper bound as maps
-- of records, and has settled nothing
abbrev pub MapsJoin : Type 0
MapsJoin =
    (a b : JournalState) → a.base ≡ origin → b.base ≡ origin → Ascending 1 a.records →
    Ascending 1 b.records → AreAgreeing a.records b.records →
    IsLeastUpperBound a.records b.records (joined b a).records × ((joined b a).base ≡ origin)
