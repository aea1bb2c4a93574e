-- What the calls that send gossip send.
use Rattle.std.proofs.Common.{ℕ, ◌<◌, ◌≤◌, ◌≡◌, List, [], ◌∷◌, length, refl, arith}
use Rattle.mx_journal.specs.declared.ranges.Range.{Range}
use Rattle.mx_journal.specs.declared.records.Record.{Record}
use Rattle.std.specs.List.{list_any}
use Rattle.mx_stamps.proofs.Choices.{cond_case}
use Rattle.mx_journal.specs.Settled.{JournalState}
use Rattle.mx_member.specs.declared.parcel.Parcel.{Parcel}
use Rattle.mx_member.specs.declared.parcel.Parcel.TheVariants.{Want, Base, Records}
use Rattle.mx_member.specs.Steps.{base_to, reaches, records_to, want_to}

-- what is sent where there is something to say, and where there is nothing
pub wants : {M : Type 0} (i : ℕ) (rs : List Range) → 0 < length rs → want_to {M = M} i rs ≡ (i, Want (record { items = rs })) ∷ []
wants i [] l = absurd (omega arith)
wants i (r ∷ rs) l = refl

pub wants_nothing : {M : Type 0} (i : ℕ) (rs : List Range) → length rs ≡ 0 → want_to {M = M} i rs ≡ []
wants_nothing i [] l = refl
wants_nothing i (r ∷ rs) l = absurd (omega arith)

pub sends_records : {M : Type 0} (i : ℕ) (rs : List Record) → 0 < length rs → records_to {M = M} i rs ≡ (i, Records (record { items = rs })) ∷ []
sends_records i [] l = absurd (omega arith)
sends_records i (r ∷ rs) l = refl

-- a base is one parcel at most
pub base_short : (M : Type 0) (i : ℕ) (ranges : List Range) (journal : JournalState) → length (base_to {M = M} i ranges journal) ≤ 1
base_short M i ranges journal =
    cond_case (λ (ls : List (ℕ × Parcel M)). length ls ≤ 1) (list_any (reaches journal.base.upto) ranges) ((i, Base journal.base) ∷ []) [] (λ _. omega arith) (λ _. omega arith)
