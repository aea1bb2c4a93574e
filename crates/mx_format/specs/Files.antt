-- Files of events: a list in JSON, with one event a line.
use Rattle.std.specs.Prelude.{List, [], ◌∷◌, ◌++◌, codes, map}
use Rattle.mx_events.specs.declared.event.Event.{Event}
use Rattle.mx_trace.specs.declared.outcome.Entry.{Entry}
use Rattle.mx_plan.specs.Text.{Text, line_feed}
use Rattle.mx_plan.specs.Fields.{Fields}
use Rattle.mx_format.specs.EventArrays.{item_text}
use Rattle.mx_format.specs.Lines.{each_text}

abbrev pub events_of : List Entry → List Event
events_of = map (λ entry. entry.event)

-- an event after the first: a comma, and then the event on the next line
abbrev pub next_text : Fields → Event → Text
next_text p event = codes "," ++ line_feed ++ item_text p event

-- the file of a list of events
abbrev pub file_text : Fields → List Event → Text
file_text p [] = codes "[]" ++ line_feed
file_text p (e ∷ es) =
    codes "[" ++ line_feed ++ item_text p e ++ each_text (next_text p) es ++ line_feed ++ codes "]"
    ++ line_feed
