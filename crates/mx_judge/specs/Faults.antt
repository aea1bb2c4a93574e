-- The faults of a trace, and the line for each.
use Rattle.std.specs.Prelude.{◌≡◌, ℕ, ◌++◌, [], Option, Some, None, codes, decimal}
use Rattle.mx_plan.specs.Text.{Text, line_feed}
use Rattle.mx_cli.specs.Printing.{Report, ends, has_line}
use Rattle.mx_lines.specs.Escapes.{ArePrintable}
use Rattle.mx_judge.specs.declared.members.Member.{Member}
use Rattle.mx_judge.specs.declared.faults.ItemFault.{ItemFault}
use Rattle.mx_judge.specs.declared.faults.ItemFault.TheVariants as item
use Rattle.mx_judge.specs.declared.faults.TraceFault.{TraceFault}
use Rattle.mx_judge.specs.declared.faults.TraceFault.TheVariants.{NotJson, Plan, Line, Item, Memory}
use Rattle.mx_judge.specs.Members.{message_of, key_of}

-- the fault of the k-th line, or that memory ran out
abbrev pub line_fault : ℕ → ItemFault → TraceFault
line_fault k item.Memory = Memory
line_fault k fault = Line k fault

-- the same for the k-th item of an array
abbrev pub list_fault : ℕ → ItemFault → TraceFault
list_fault k item.Memory = Memory
list_fault k fault = Item k fault

abbrev pub item_text : ItemFault → Text
item_text item.Mark = codes "a byte order mark"
item_text item.NotJson = codes "not json"
item_text item.NotEvent = codes "no event"
item_text item.NoOutcome = codes "an event without outcome, as in a file of events"
item_text (item.Wrong m) = key_of m ++ codes ": " ++ message_of m
item_text item.NoSender = codes "a message before the first event"
item_text item.SentBefore = codes "parcel: sent before"
item_text item.TooMany = codes "more than 1000000 events"
item_text item.Memory = codes "out of memory"

-- the fault in words
abbrev pub fault_text : TraceFault → Text
fault_text NotJson = codes "mx: trace: not json"
fault_text Plan = codes "mx: trace: a plan, not a trace"
fault_text (Line k fault) =
    codes "mx: trace: line " ++ decimal k ++ codes ": " ++ item_text fault
fault_text (Item k fault) =
    codes "mx: trace: item " ++ decimal k ++ codes ": " ++ item_text fault
fault_text Memory = codes "mx: trace: out of memory"

-- the member that is missing or wrong; none, at another fault
abbrev pub wrong_member : TraceFault → Option Member
wrong_member (Line k (item.Wrong m)) = Some m
wrong_member (Item k (item.Wrong m)) = Some m
wrong_member _ = None

-- the text may follow the words of a fault: a message about this member, without control bytes; and
-- nothing, if no member is wrong
abbrev pub IsAbout : Option Member → Text → Type 0
IsAbout (Some m) message = ArePrintable message
IsAbout None message = message ≡ []

abbrev pub IsMessageOf : TraceFault → Text → Type 0
IsMessageOf fault message = IsAbout (wrong_member fault) message

-- the line of a fault, with a message after its words
abbrev pub trace_line : TraceFault → Text → Text
trace_line fault message = fault_text fault ++ message ++ line_feed

-- the report is the line of this fault
abbrev pub IsFaultReport : TraceFault → Report → Type 0
IsFaultReport fault r =
    (message : Text) × IsMessageOf fault message × (r ≡ ends (has_line (trace_line fault message)))
