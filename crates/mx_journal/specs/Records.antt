-- A journal is a finite map from numbers to records: the strictly ascending list of its records.
use Rattle.std.specs.Prelude.{ℕ, suc, ◌≡◌, ◌≤◌, ◌&&◌, List, [], ◌∷◌, Option, Some, None, nat_lt, nat_le, nat_eq, if◌then◌else◌, filter}
use Rattle.mx_stamps.specs.Lists.{IsIn, greatest}
use Rattle.mx_journal.specs.declared.records.Record.{Record}
use Rattle.mx_journal.specs.declared.ranges.Range.{Range}

-- the numbers ascend strictly, and the first is at least `least`
abbrev pub Ascending : ℕ → List Record → Type 0
Ascending least [] = Unit {0}
Ascending least (x ∷ xs) = (least ≤ x.number) × Ascending (suc x.number) xs

abbrev pub record_at : ℕ → List Record → Option Record
record_at n [] = None
record_at n (x ∷ xs) = if nat_eq x.number n then Some x else record_at n xs

abbrev pub IsThere : ℕ → List Record → Type 0
IsThere n xs = (x : Record) × IsIn x xs × (x.number ≡ n)

-- each number is at least 1
abbrev pub IsNumbered : List Record → Type 0
IsNumbered xs = (x : Record) → IsIn x xs → 1 ≤ x.number

-- the map with this record too, or unchanged if it has a record of this number already
abbrev pub with_record : Record → List Record → List Record
with_record r [] = r ∷ []
with_record r (x ∷ xs) =
    if nat_lt r.number x.number then r ∷ x ∷ xs
    else (if nat_lt x.number r.number then x ∷ with_record r xs else x ∷ xs)

-- the map with these records too; of records with the same number, that of the map or else the
-- first counts
abbrev pub with_records : List Record → List Record → List Record
with_records [] journal = journal
with_records (r ∷ rs) journal = with_records rs (with_record r journal)

-- some record of the list has a number that no record of the journal has
abbrev pub BringsNew : List Record → List Record → Type 0
BringsNew list journal = (x : Record) × IsIn x list × (record_at x.number journal ≡ None)

abbrev pub below : ℕ → List Record → List Record
below n [] = []
below n (x ∷ xs) = if nat_lt x.number n then x ∷ below n xs else []

abbrev pub above : ℕ → List Record → List Record
above n [] = []
above n (x ∷ xs) = if nat_lt n x.number then x ∷ xs else above n xs

abbrev pub in_range : Range → List Record → List Record
in_range range xs = filter (λ x. nat_le range.first x.number && nat_le x.number range.last) xs

-- the greatest number, or 0 without records
abbrev pub top_of : List Record → ℕ
top_of xs = greatest (λ x. x.number) xs
