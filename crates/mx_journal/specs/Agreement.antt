-- Agreement of records: records of the same number are equal.
use Rattle.std.specs.Prelude.{ℕ, ◌≡◌, ◌≢◌, ◌<◌, List, Option, Some, None}
use Rattle.mx_stamps.specs.Lists.{IsIn}
use Rattle.mx_journal.specs.declared.records.Record.{Record}

-- a record was found, and it differs from r
abbrev pub IsOther : Record → Option Record → Type 0
IsOther r None = ⊥
IsOther r (Some x) = x ≢ r

-- each record of xs with r's number is r
abbrev pub AgreesWith : Record → List Record → Type 0
AgreesWith r xs = (x : Record) → IsIn x xs → x.number ≡ r.number → x ≡ r

-- some record of xs with r's number differs from r
abbrev pub IsOpposed : Record → List Record → Type 0
IsOpposed r xs = (x : Record) × IsIn x xs × (x.number ≡ r.number) × (x ≢ r)

-- records of xs and of ys with the same number are equal
abbrev pub AreAgreeing : List Record → List Record → Type 0
AreAgreeing xs ys = (x y : Record) → IsIn x xs → IsIn y ys → x.number ≡ y.number → x ≡ y

-- records of the list with the same number are equal
abbrev pub IsConsistent : List Record → Type 0
IsConsistent xs = AreAgreeing xs xs

-- each record of xs is in ys
abbrev pub IsSubmap : List Record → List Record → Type 0
IsSubmap xs ys = (x : Record) → IsIn x xs → IsIn x ys

-- two records of the list have the number n, and differ
abbrev pub IsConflict : ℕ → List Record → Type 0
IsConflict n xs =
    (x : Record) × (y : Record) × IsIn x xs × IsIn y xs × (x.number ≡ n) × (y.number ≡ n) × (x ≢ y)

-- records of the list with the same number below n are equal
abbrev pub AreAgreeingBelow : ℕ → List Record → Type 0
AreAgreeingBelow n xs =
    (x y : Record) → IsIn x xs → IsIn y xs → x.number ≡ y.number → x.number < n → x ≡ y

-- n is the least number that two differing records of the list share
abbrev pub IsFirstConflict : ℕ → List Record → Type 0
IsFirstConflict n xs = IsConflict n xs × AreAgreeingBelow n xs
