-- The words of events: one table for all readers and printed texts.
use Rattle.std.specs.Prelude.{ℕ, List, [], ◌∷◌, Option, Some, None, codes, if◌then◌else◌}
use Rattle.std.specs.Str.{bytes_eq}
use Rattle.mx_events.specs.declared.kind.EventKind.{EventKind}
use Rattle.mx_events.specs.declared.kind.EventKind.TheVariants.{Ask, Enter, Read, Write, Leave, Cancel, Settle, Tick, Want, Deliver, Restart}

abbrev pub word_of : EventKind → List ℕ
word_of Ask = codes "ask"
word_of Enter = codes "enter"
word_of Read = codes "read"
word_of Write = codes "write"
word_of Leave = codes "leave"
word_of Cancel = codes "cancel"
word_of Settle = codes "settle"
word_of Tick = codes "tick"
word_of Want = codes "want"
word_of Deliver = codes "deliver"
word_of Restart = codes "restart"

-- all kinds, in the order in which they are listed for a reader
abbrev pub kinds : List EventKind
kinds = Ask ∷ Enter ∷ Read ∷ Write ∷ Leave ∷ Cancel ∷ Settle ∷ Tick ∷ Want ∷ Deliver ∷ Restart ∷ []

-- the first of some kinds that has this word
abbrev pub first_named : List ℕ → List EventKind → Option EventKind
first_named word [] = None
first_named word (kind ∷ others) =
    if bytes_eq word (word_of kind) then Some kind else first_named word others

abbrev pub kind_named : List ℕ → Option EventKind
kind_named word = first_named word kinds
