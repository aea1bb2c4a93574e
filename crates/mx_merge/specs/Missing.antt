-- The numbers from 1 to a limit that a journal lacks, and the records in given ranges.
use Rattle.std.specs.Prelude.{ℕ, ◌+◌, ◌-◌, ◌≡◌, ◌≤◌, ◌<◌, ◌⊎◌, ◌&&◌, Bool, List, [], ◌∷◌, ◌++◌, length, nat_lt, nat_le, if◌then◌else◌, filter}
use Rattle.std.specs.List.{list_any}
use Rattle.mx_stamps.specs.Lists.{IsIn}
use Rattle.mx_journal.specs.declared.records.Record.{Record}
use Rattle.mx_journal.specs.declared.ranges.Range.{Range}
use Rattle.mx_journal.specs.Settled.{Covers, JournalState}

-- a range of missing numbers, as wide as possible: it is not empty, lies between 1 and the limit,
-- and contains no covered number. It can be extended neither downwards nor upwards
pub record IsGap (limit : ℕ) (journal : JournalState) (range : Range) : Type 0 where
  pub low : 1 ≤ range.first
  pub some : range.first ≤ range.last
  pub high : range.last ≤ limit
  pub gone : (n : ℕ) → range.first ≤ n → n ≤ range.last → Covers n journal → ⊥
  pub left : (range.first ≡ 1) ⊎ Covers (range.first - 1) journal
  pub right : (range.last ≡ limit) ⊎ Covers (range.last + 1) journal

-- each range starts after the end of the one before it, and the first at `least` or later
abbrev pub AscendingRanges : ℕ → List Range → Type 0
AscendingRanges least [] = Unit {0}
AscendingRanges least (r ∷ rs) = (least ≤ r.first) × AscendingRanges (r.last + 1) rs

-- the gap is missing in the list because the list is full: there are `count` ranges, and the gap
-- comes after all of them
abbrev pub IsLeftOut : ℕ → Range → List Range → Type 0
IsLeftOut count gap ranges =
    (length ranges ≡ count) × ((r : Range) → IsIn r ranges → r.last < gap.first)

-- the ranges are gaps, ascending; each gap is among them, or is missing because the list is full
pub record IsListOfGaps (count limit : ℕ) (journal : JournalState) (ranges : List Range)
    : Type 0 where
  pub gaps : (r : Range) → IsIn r ranges → IsGap limit journal r
  pub ascending : AscendingRanges 1 ranges
  pub all : (gap : Range) → IsGap limit journal gap → IsIn gap ranges ⊎ IsLeftOut count gap ranges

-- the range of the numbers above `before` up to `last`; no range if there is no such number
abbrev pub gap_after : ℕ → ℕ → List Range
gap_after before last =
    if nat_lt before last then record { first = before + 1; last = last } ∷ [] else []

-- the gaps above `before` up to the limit, in a map whose numbers are above `before`
abbrev pub gaps_above : ℕ → ℕ → List Record → List Range
gaps_above before limit [] = gap_after before limit
gaps_above before limit (x ∷ xs) =
    if nat_lt limit x.number then gap_after before limit
    else gap_after before (x.number - 1) ++ gaps_above x.number limit xs

-- all gaps of a journal, up to the limit, ascending; the base covers all numbers up to its `upto`
abbrev pub gaps_in : ℕ → JournalState → List Range
gaps_in limit journal = gaps_above journal.base.upto limit journal.records

abbrev pub lies_in : List Range → ℕ → Bool
lies_in ranges n = list_any (λ (range : Range). nat_le range.first n && nat_le n range.last) ranges

abbrev pub in_ranges : List Range → List Record → List Record
in_ranges ranges journal = filter (λ x. lies_in ranges x.number) journal
