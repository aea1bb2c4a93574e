-- A small trace that shows what the definitions on sections and journals accept and refuse.
use Rattle.std.proofs.Common.{ℕ, inl, inr, true, List, [], ◌∷◌, Some, refl, arith}
use Rattle.mx_journal.specs.declared.records.Record.{Record}
use Rattle.mx_journal.specs.Agreement.{IsSubmap}
use Rattle.mx_journal.specs.Settled.{IsCovered, settled, unsettled}
use Rattle.mx_merge.specs.Join.{IsLeastUpperBound}
use Rattle.mx_trace.specs.Serial.{ReadSerially}
use Rattle.mx_member.proofs.SectionLists.{journal_ascends}
use Rattle.mx_member.proofs.OfSections.{settled_ascends, settled_of, unsettled_of}
use Rattle.mx_member.proofs.SectionWrites.{covered_shows}
use Rattle.mx_events.specs.declared.event.Event.TheVariants as event
use Rattle.mx_trace.specs.declared.outcome.Outcome.TheVariants.{Entered, Written, Left}
use Rattle.mx_trace.specs.declared.outcome.Entry.{Entry}
use Rattle.mx_trace.specs.Trace.{ShowsInOrder, journal_of, sections}

-- the record of section 1 by node 0, which gave register 0 this value
abbrev wrote : ℕ → Record
wrote value = record { number = 1; node = 0; writes = record { items = record { register = 0; value = value } ∷ [] } }

-- node 0 enters, writes 7, and leaves
abbrev one_section : List Entry
one_section =
    record { event = event.Enter 0; outcome = Entered 1 } ∷ record { event = event.Write 0 0 7; outcome = Written } ∷
    record {
      event = event.Leave 0;
      outcome = Left (record { number = 1; node = 0; reads = record { items = [] }; writes = record { items = record { register = 0; value = 7 } ∷ [] } });
    } ∷ []

-- its journal shows the writes in order, whether it has settled the section or not
pub shown : ShowsInOrder one_section (unsettled (journal_of one_section))
shown k count few all top =
    covered_shows k count (sections one_section) (unsettled (journal_of one_section)) few (journal_ascends (sections one_section))
    (unsettled_of (journal_of one_section) (journal_of one_section) (journal_ascends (sections one_section)) (λ x h. h)) all top

pub shown_settled : ShowsInOrder one_section (settled 1 (unsettled (journal_of one_section)))
shown_settled k count few all top =
    let order = journal_ascends (sections one_section) in
    let of = unsettled_of (journal_of one_section) (journal_of one_section) order (λ x h. h) in
    let one : IsCovered 1 (unsettled (journal_of one_section)) = λ n low high. inr (wrote 7, inl refl, omega (arith, low, high)) in
    covered_shows k count (sections one_section) (settled 1 (unsettled (journal_of one_section))) few
    (settled_ascends (journal_of one_section) (unsettled (journal_of one_section)) 1 order order of (omega arith) one)
    (settled_of (journal_of one_section) (unsettled (journal_of one_section)) 1 order order of (omega arith) one) all top

-- one with another value does not
pub not_shown : ShowsInOrder one_section (unsettled (wrote 9 ∷ [])) → ⊥
not_shown h =
    let all : IsCovered 1 (unsettled (wrote 9 ∷ [])) = λ n low high. inr (wrote 9, inl refl, omega (arith, low, high)) in
    let e = h 1 1 (omega arith) all (omega arith) 0 (record { value = 9; by = Some 1 }) refl in
    absurd (omega (arith, e))

-- a section that read what nobody wrote
pub unwritten_read : ReadSerially (record { node = 0; draft = record { reads = record { register = 0; value = 5; after = 0 } ∷ []; writes = [] }; closed = true } ∷ []) → ⊥
unwritten_read h = let e = (h.0 (record { register = 0; value = 5; after = 0 }) (inl refl)).1 in absurd (omega (arith, e))

-- a record is in no empty journal, and no join of two empty ones has it
pub not_below : IsSubmap (wrote 7 ∷ []) [] → ⊥
not_below h = h (wrote 7) (inl refl)

pub no_join : IsLeastUpperBound [] [] (wrote 7 ∷ []) → ⊥
no_join h = h.least [] (λ x k. k) (λ x k. k) (wrote 7) (inl refl)
