-- The trace in a text.
use Rattle.std.specs.Prelude.{◌≡◌, ◌⊎◌, ◌||◌, ◌&&◌, ◌==◌, ◌+◌, ℕ, List, [], ◌∷◌, Bool, false, not, length, map, nat_lt, codes, if◌then◌else◌, Option, Some, None, Result, Ok, Err}
use Rattle.std.specs.List.{find, list_all, list_any, slice_split}
use Rattle.std.specs.Str.{bytes_eq}
use Rattle.std.specs.Option.{option_map_or}
use Rattle.serde_json.specs.Data.{Data}
use Rattle.mx_plan.specs.Text.{Text}
use Rattle.mx_plan.specs.Fields.{Fields}
use Rattle.mx_plan.specs.Values.{list_in, value_of}
use Rattle.mx_stamps.specs.declared.limits.TheConstants.{MAX_EVENTS}
use Rattle.mx_trace.specs.declared.outcome.Entry.{Entry}
use Rattle.mx_cli.specs.Printing.{IsStopWith}
use Rattle.mx_cli.specs.declared.stop.Stop.{Stop}
use Rattle.mx_cli.specs.declared.stop.Stop.TheVariants as stop
use Rattle.mx_judge.specs.Entries.{is_passed_over, item_of}
use Rattle.mx_judge.specs.Faults.{IsMessageOf, line_fault, list_fault, trace_line}
use Rattle.mx_judge.specs.Listed.{ReadTrace, listed, nothing, with_message, with_one}
use Rattle.mx_judge.specs.Members.{has_member}
use Rattle.mx_judge.specs.Messages.{SentMessage}
use Rattle.mx_judge.specs.declared.entry_reader.Item.{Item}
use Rattle.mx_judge.specs.declared.entry_reader.Item.TheVariants.{Event, Message}
use Rattle.mx_judge.specs.declared.faults.ItemFault.{ItemFault}
use Rattle.mx_judge.specs.declared.faults.ItemFault.TheVariants as item
use Rattle.mx_judge.specs.declared.faults.TraceFault.{TraceFault}
use Rattle.mx_judge.specs.declared.faults.TraceFault.TheVariants.{NotJson, Plan, Memory}
use Rattle.mx_judge.specs.declared.trace.Trace.{Trace}

-- `wanted` is this fault, or the fault is that memory ran out
abbrev pub RefusesItem : {T : Type 0} → Result T ItemFault → ItemFault → Type 0
RefusesItem wanted fault = (wanted ≡ Err fault) ⊎ (fault ≡ item.Memory)

-- the result has the trace or the fault that is wanted, or memory ran out
abbrev pub GivesTrace : Result ReadTrace TraceFault → Result Trace TraceFault → Type 0
GivesTrace wanted (Ok trace) = wanted ≡ Ok (listed trace)
GivesTrace wanted (Err fault) = (wanted ≡ Err fault) ⊎ (fault ≡ Memory)

-- the result has the trace that is wanted; or the line of the fault that is wanted, or memory ran out
abbrev pub ReadsTrace : Result ReadTrace TraceFault → Result Trace Stop → Type 0
ReadsTrace wanted (Ok trace) = wanted ≡ Ok (listed trace)
ReadsTrace wanted (Err end) =
    ((fault : TraceFault) × (message : Text) × (wanted ≡ Err fault) × IsMessageOf fault message
    × IsStopWith (trace_line fault message) end)
    ⊎ (end ≡ stop.Memory)

-- a space, a tab, a line feed or a carriage return
abbrev pub is_blank : ℕ → Bool
is_blank b = b == 32 || b == 9 || b == 10 || b == 13

-- the text begins with the byte order mark of UTF-8
abbrev pub is_marked : Text → Bool
is_marked (a ∷ b ∷ c ∷ rest) = a == 239 && b == 187 && c == 191
is_marked _ = false

-- the entry or the message of a line, after messages of these names; none, if the line is blank or
-- its object is passed over; or a fault
unfoldable pub line_item : Fields → Text → List Text → Result (Option Item) ItemFault
line_item p line names =
    if list_all is_blank line then Ok None
    else if is_marked line then Err item.Mark
    else option_map_or (λ d. item_of p d names) (value_of line) (Err item.NotJson)

-- this trace, and then the entry of the k-th line or item; a fault, if there are too many
abbrev pub with_entry : ℕ → ReadTrace → Entry → Result ReadTrace ItemFault
with_entry k t entry =
    if nat_lt (length t.entries) MAX_EVENTS then Ok (with_one k t entry) else Err item.TooMany

-- this trace, whose newest entry sends this message too; a fault, if it has no entry, or a message of
-- the same name
abbrev pub with_sent : ReadTrace → SentMessage → Result ReadTrace ItemFault
with_sent t message =
    if length t.entries == 0 then Err item.NoSender
    else if list_any (bytes_eq message.name) t.names then Err item.SentBefore
    else Ok (with_message t message)

-- this trace, and then what the k-th line or item has, if it has something
abbrev pub with_item : ℕ → ReadTrace → Result (Option Item) ItemFault → Result ReadTrace ItemFault
with_item k t (Ok None) = Ok t
with_item k t (Ok (Some (Event entry))) = with_entry k t entry
with_item k t (Ok (Some (Message message))) = with_sent t message
with_item k t (Err fault) = Err fault

-- continues if the k-th item had no fault; otherwise returns the fault with this number
abbrev pub go_on : (ℕ → ItemFault → TraceFault) → ℕ → Result ReadTrace ItemFault
    → (ReadTrace → Result ReadTrace TraceFault) → Result ReadTrace TraceFault
go_on name k (Ok t) f = f t
go_on name k (Err fault) f = Err (name k fault)

-- this trace, and then the entries of these items, the first with the number k; or the first fault.
-- Each item is read after the messages with these names
unfoldable pub entries_from : (ℕ → ItemFault → TraceFault) → ReadTrace → ℕ
    → List (List Text → Result (Option Item) ItemFault) → Result ReadTrace TraceFault
entries_from name t k [] = Ok t
entries_from name t k (i ∷ items) =
    go_on name k (with_item k t (i t.names)) (λ more. entries_from name more (k + 1) items)

-- the lines of a text, between its line feeds
abbrev pub lines_of : Text → List Text
lines_of text = slice_split (λ b. b == 10) text

abbrev pub lines_at : Fields → Text → Result ReadTrace TraceFault
lines_at p text = entries_from line_fault nothing 1 (map (line_item p) (lines_of text))

-- the trace in a text that is an array of JSON
abbrev pub array_at : Fields → Text → Result ReadTrace TraceFault
array_at p text =
    option_map_or (λ d. entries_from list_fault nothing 1 (map (item_of p) (list_in d)))
    (value_of text) (Err NotJson)

-- the first byte that is not blank
abbrev pub first_mark : Text → Option ℕ
first_mark text = find (λ b. not (is_blank b)) text

-- the first byte that is not blank starts an array
abbrev pub begins_array : Text → Bool
begins_array text = option_map_or (λ b. b == 91) (first_mark text) false

-- an event has its own line; in an array it is an item
abbrev pub place_word : Text → Text
place_word text = if begins_array text then codes "item" else codes "line"

-- the object is a plan: it has `algorithm`, and is neither an event nor passed over
abbrev pub is_plan_object : Data → Bool
is_plan_object d =
    has_member (codes "algorithm") d && not (has_member (codes "act") d || is_passed_over d)

-- the whole text is a plan
abbrev pub is_plan : Text → Bool
is_plan text = option_map_or is_plan_object (value_of text) false

-- the trace in a text: in an array, if the text starts with one, and otherwise in lines; a fault, if
-- the text is a plan
abbrev pub trace_at : Fields → Text → Result ReadTrace TraceFault
trace_at p text =
    if begins_array text then array_at p text
    else if is_plan text then Err Plan
    else lines_at p text
