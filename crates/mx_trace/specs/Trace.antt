-- Properties of a trace: exclusion, numbering, the sections, their journal and their order.
use Rattle.std.specs.Prelude.{ℕ, ◌≤◌, Bool, true, false, List, [], ◌∷◌, ◌++◌, None}
use Rattle.mx_stamps.specs.declared.limits.TheConstants.{MAX_REGISTERS}
use Rattle.mx_journal.specs.declared.records.Record.{Record}
use Rattle.mx_journal.specs.Settled.{IsCovered, JournalState, top_covered}
use Rattle.mx_registers.specs.Based.{registers_in}
use Rattle.mx_registers.specs.Registers.{AreApplied}
use Rattle.mx_trace.specs.Sections.{Mark, Came, Got, Wrote, Went, Woke, Section, after_marks, oldest, section_journal, writes_in}
use Rattle.mx_trace.specs.Serial.{AllFit, Alternate, NumberedFrom}
use Rattle.mx_events.specs.declared.event.Event.{Event}
use Rattle.mx_events.specs.declared.event.Event.TheVariants.{Enter, Read, Write, Leave, Restart}
use Rattle.mx_trace.specs.declared.outcome.Outcome.{Outcome}
use Rattle.mx_trace.specs.declared.outcome.Outcome.TheVariants.{Entered, Value, Written, Left, Woken}
use Rattle.mx_trace.specs.declared.outcome.Entry.{Entry}

-- a node enters a section with this event
abbrev pub enters : Event → Outcome → Bool
enters (Enter i) (Entered n) = true
enters _ _ = false

abbrev pub is_entry : Entry → Bool
is_entry e = enters e.event e.outcome

-- the mark of an event with its outcome: Enter with `Entered`, Read with `Value`, Write with
-- `Written`, Leave with `Left` or Restart with `Woken`. Any other pair has no mark
abbrev pub mark_of : Event → Outcome → List Mark
mark_of (Enter i) (Entered n) = Came i n ∷ []
mark_of (Read i register) (Value value) = Got i register value ∷ []
mark_of (Write i register value) Written = Wrote i register value ∷ []
mark_of (Leave i) (Left receipt) = Went i receipt ∷ []
mark_of (Restart i) Woken = Woke i ∷ []
mark_of _ _ = []

abbrev pub marks : List Entry → List Mark
marks [] = []
marks (e ∷ es) = mark_of e.event e.outcome ++ marks es

-- no two nodes are ever inside together
abbrev pub IsExclusive : List Entry → Type 0
IsExclusive trace = Alternate None (marks trace)

-- the n-th section entered has the number n
abbrev pub IsNumbered : List Entry → Type 0
IsNumbered trace = NumberedFrom 1 (marks trace)

-- the sections of the trace, the newest first
abbrev pub sections : List Entry → List Section
sections trace = after_marks [] (marks trace)

-- the journal of the sections: the record of each closed section
abbrev pub journal_of : List Entry → List Record
journal_of trace = section_journal (sections trace)

-- the sections follow one another: each value read is that of the register after the writes before
-- the read, in order of entry, and each receipt is that of its section
abbrev pub IsSerial : List Entry → Type 0
IsSerial trace = AllFit [] (marks trace)

-- if the journal covers exactly sections 1 to k, its registers, at most MAX_REGISTERS, have the
-- values after the writes of the first k sections, applied in order of entry
abbrev pub ShowsInOrder : List Entry → JournalState → Type 0
ShowsInOrder trace journal =
    (k count : ℕ) → count ≤ MAX_REGISTERS → IsCovered k journal → top_covered journal ≤ k →
    AreApplied (writes_in (oldest k (sections trace))) (registers_in count journal)
