-- The records of a journal as runs: lists of records with consecutive numbers, with missing numbers
-- between the runs.
use Rattle.std.specs.Prelude.{ℕ, suc, ◌+◌, ◌-◌, ◌≡◌, ◌≤◌, ◌<◌, ◌⊎◌, List, [], ◌∷◌, ◌++◌, None, length, get_or, slice_set, nat_eq, nat_le, if◌then◌else◌}
use Rattle.std.specs.List.{remove}
use Rattle.mx_stamps.specs.Lists.{IsIn}
use Rattle.mx_journal.specs.declared.records.Record.{Record}
use Rattle.mx_journal.specs.Agreement.{AreAgreeing}
use Rattle.mx_journal.specs.Records.{Ascending, IsThere, above, record_at, with_record, with_records}

abbrev pub flatten : List (List Record) → List Record
flatten [] = []
flatten (run ∷ runs) = run ++ flatten runs

-- the numbers of the records are n, n + 1 and so on
abbrev pub AreConsecutive : ℕ → List Record → Type 0
AreConsecutive n [] = Unit {0}
AreConsecutive n (x ∷ xs) = (x.number ≡ n) × AreConsecutive (suc n) xs

abbrev pub first_number : List Record → ℕ
first_number [] = 0
first_number (x ∷ xs) = x.number

abbrev pub last_number : List Record → ℕ
last_number [] = 0
last_number (x ∷ []) = x.number
last_number (x ∷ y ∷ ys) = last_number (y ∷ ys)

-- each run has a record, and its numbers are consecutive; the first number is at least `least`; at
-- least one number is missing between a run and the next
abbrev pub AreRuns : ℕ → List (List Record) → Type 0
AreRuns least [] = Unit {0}
AreRuns least ([] ∷ runs) = ⊥
AreRuns least ((x ∷ xs) ∷ runs) =
    (least ≤ x.number) × AreConsecutive (suc x.number) xs × AreRuns (last_number (x ∷ xs) + 2) runs

-- the number of runs that end at n or below, if the runs ascend
abbrev pub runs_up_to : ℕ → List (List Record) → ℕ
runs_up_to n [] = 0
runs_up_to n (run ∷ runs) = if nat_le (last_number run) n then suc (runs_up_to n runs) else 0

-- the run before place i ends right below n
abbrev pub TouchesBelow : ℕ → ℕ → List (List Record) → Type 0
TouchesBelow n i runs = (1 ≤ i) × (last_number (get_or runs (i - 1) []) + 1 ≡ n)

-- the run at place i starts right above n
abbrev pub TouchesAbove : ℕ → ℕ → List (List Record) → Type 0
TouchesAbove n i runs = (i < length runs) × (first_number (get_or runs i []) ≡ n + 1)

-- the runs with this one instead of two: the run at place i and the run before place i
abbrev pub with_joined : ℕ → List Record → List (List Record) → List (List Record)
with_joined i run runs = remove (slice_set (slice_set runs i []) (i - 1) run) i

-- the new runs have the old records and, if its number is new, the record r
pub record IsPut (r : Record) (old new : List (List Record)) : Type 0 where
  pub records : flatten new ≡ with_record r (flatten old)
  pub runs : AreRuns 1 new

-- r is a record of xs or of ys with the least number above n
pub record IsNextOfBoth (n : ℕ) (xs ys : List Record) (r : Record) : Type 0 where
  pub member : IsIn r xs ⊎ IsIn r ys
  pub behind : n < r.number
  pub least : (x : Record) → IsIn x xs ⊎ IsIn x ys → n < x.number → r.number ≤ x.number

-- the joined records are exactly those of either map that are numbered above `from` and up to `to`
pub record IsJoinedUpTo (from to : ℕ) (xs ys joined : List Record) : Type 0 where
  pub known : (x : Record) → IsIn x joined
      → (IsIn x xs ⊎ IsIn x ys) × (from < x.number) × (x.number ≤ to)
  pub all : (x : Record) → IsIn x xs ⊎ IsIn x ys → from < x.number → x.number ≤ to → IsIn x joined

-- the records of `other` that are numbered above `from` can join `runs`: both are runs and agree,
-- and all records of `runs` are numbered above `from`
pub record CanJoin (from : ℕ) (other runs : List (List Record)) : Type 0 where
  pub ours : AreRuns 1 runs
  pub theirs : AreRuns 1 other
  pub agreeing : AreAgreeing (flatten runs) (flatten other)
  pub behind : Ascending (suc from) (flatten runs)

-- the new runs have the old records and, of those of `other` numbered above `from`, the k whose
-- numbers are new
pub record AreJoined (from : ℕ) (other old new : List (List Record)) (k : ℕ) : Type 0 where
  pub records : flatten new ≡ with_records (above from (flatten other)) (flatten old)
  pub runs : AreRuns 1 new
  pub count : length (flatten new) ≡ length (flatten old) + k

-- each record of the list has the number of some record of xs or of ys
abbrev pub AreNumbersOf : List Record → List Record → List Record → Type 0
AreNumbersOf list xs ys = (x : Record) → IsIn x list → IsThere x.number xs ⊎ IsThere x.number ys

-- `run`, and then `runs`; the first of `runs` is joined to `run` if it continues the numbers
abbrev pub stitched : List Record → List (List Record) → List (List Record)
stitched run [] = run ∷ []
stitched run (next ∷ runs) =
    if nat_eq (last_number run + 1) (first_number next) then (run ++ next) ∷ runs
    else run ∷ next ∷ runs

-- `runs`, and then `others`; the first of `others` is joined to the last of `runs` if it continues
-- the numbers
abbrev pub sewn : List (List Record) → List (List Record) → List (List Record)
sewn [] others = others
sewn (run ∷ []) others = stitched run others
sewn (run ∷ more ∷ runs) others = run ∷ sewn (more ∷ runs) others

-- no record of xs has the number of a record of ys
abbrev pub AreNew : List Record → List Record → Type 0
AreNew ys xs = (x : Record) → IsIn x ys → record_at x.number xs ≡ None
