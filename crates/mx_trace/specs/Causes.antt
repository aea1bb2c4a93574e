use Rattle.std.specs.Prelude.{ℕ, List, [], ◌∷◌, Option, Some, None, codes, if◌then◌else◌}
use Rattle.std.specs.Str.{bytes_eq}
use Rattle.mx_trace.specs.declared.cause.Cause.{Cause}
use Rattle.mx_trace.specs.declared.cause.Cause.TheVariants.{NotIdle, StampsSpent, NotWaiting, NotGranted, NumbersSpent, NotInside, NoRegister, Gap, Full, Below}

-- the words for the cause, without the number of a gap or a base
abbrev pub cause_words : Cause → List ℕ
cause_words NotIdle = codes "not idle"
cause_words StampsSpent = codes "stamps spent"
cause_words NotWaiting = codes "not waiting"
cause_words NotGranted = codes "not granted"
cause_words NumbersSpent = codes "numbers spent"
cause_words NotInside = codes "not inside"
cause_words NoRegister = codes "no register"
cause_words (Gap n) = codes "gap"
cause_words Full = codes "full"
cause_words (Below n) = codes "below"

-- the number in the cause: of a gap or a base; none for any other cause
abbrev pub cause_number : Cause → Option ℕ
cause_number (Gap n) = Some n
cause_number (Below n) = Some n
cause_number _ = None

-- all causes; those with a number have 0
abbrev pub causes : List Cause
causes =
    NotIdle ∷ StampsSpent ∷ NotWaiting ∷ NotGranted ∷ NumbersSpent ∷ NotInside ∷ NoRegister ∷ Gap 0
    ∷ Full ∷ Below 0 ∷ []

-- the first of some causes in these words
abbrev pub first_named : List ℕ → List Cause → Option Cause
first_named words [] = None
first_named words (cause ∷ others) =
    if bytes_eq words (cause_words cause) then Some cause else first_named words others

abbrev pub cause_named : List ℕ → Option Cause
cause_named words = first_named words causes
