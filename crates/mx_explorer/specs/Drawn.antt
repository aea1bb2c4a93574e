-- Events drawn from the words of a generator.
use Rattle.std.specs.Prelude.{ℕ, zero, suc, ◌%◌, List, [], ◌∷◌, nat_lt, if◌then◌else◌}
use Rattle.rand_pcg.specs.Lcg.{Lcg}
use Rattle.rand_pcg.specs.Pcg.{pcg32}
use Rattle.mx_events.specs.declared.event.Event.{Event}
use Rattle.mx_events.specs.declared.event.Event.TheVariants.{Ask, Enter, Read, Write, Leave, Cancel, Tick, Want, Settle, Deliver, Restart}

-- the next word (32-bit number) of a generator, and (below) the generator after this many words
abbrev pub word : Lcg → ℕ
word g = (pcg32 g).0

abbrev pub after_words : ℕ → Lcg → Lcg
after_words zero g = g
after_words (suc n) g = after_words n (pcg32 g).1

-- the event for a number n below 16. Each argument, in order, takes one word
abbrev pub event_by : ℕ → ℕ → ℕ → Lcg → Event
event_by n nodes registers g =
    if nat_lt n 2 then Ask (word g % nodes)
    else if nat_lt n 4 then Enter (word g % nodes)
    else if nat_lt n 5 then Read (word g % nodes) (word (after_words 1 g) % registers)
    else if nat_lt n 6 then
    Write (word g % nodes) (word (after_words 1 g) % registers) (word (after_words 2 g))
    else if nat_lt n 8 then Leave (word g % nodes)
    else if nat_lt n 9 then Tick (word g % nodes)
    else if nat_lt n 10 then Want (word g % nodes) (word (after_words 1 g) % nodes)
    else if nat_lt n 11 then Restart (word g % nodes)
    else if nat_lt n 14 then Deliver (word g)
    else if nat_lt n 15 then Settle (word g % nodes) (word (after_words 1 g) % 17)
    else Cancel (word g % nodes)

-- the next event: one word chooses its kind, and its arguments take the words after that
abbrev pub drawn : ℕ → ℕ → Lcg → Event
drawn nodes registers g = event_by (word g % 16) nodes registers (after_words 1 g)

abbrev pub arguments : Event → ℕ
arguments (Read i register) = 2
arguments (Write i register value) = 3
arguments (Want i j) = 2
arguments (Settle i upto) = 2
arguments _ = 1

abbrev pub after_drawn : Event → Lcg → Lcg
after_drawn e = after_words (suc (arguments e))

-- the events drawn in this many steps
abbrev pub drawn_list : ℕ → ℕ → ℕ → Lcg → List Event
drawn_list zero nodes registers g = []
drawn_list (suc steps) nodes registers g =
    drawn nodes registers g
    ∷ drawn_list steps nodes registers (after_drawn (drawn nodes registers g) g)
