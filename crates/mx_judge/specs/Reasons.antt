-- Why an event breaks a rule, in words.
use Rattle.std.specs.Prelude.{ℕ, suc, ◌++◌, List, [], Option, Some, None, codes, decimal, length, slice_get, take, if◌then◌else◌}
use Rattle.std.specs.List.{count_by}
use Rattle.std.specs.Option.{option_map_or}
use Rattle.mx_events.specs.declared.event.Event.{Event}
use Rattle.mx_events.specs.declared.event.Event.TheVariants.{Enter, Leave, Read}
use Rattle.mx_trace.specs.declared.outcome.Entry.{Entry}
use Rattle.mx_trace.specs.declared.outcome.Outcome.{Outcome}
use Rattle.mx_trace.specs.declared.outcome.Outcome.TheVariants.{Entered, Left, Value}
use Rattle.mx_trace.specs.Sections.{Section}
use Rattle.mx_trace.specs.Trace.{is_entry, sections}
use Rattle.mx_explorer.specs.Ledger.{holder, is_node, last_write}
use Rattle.mx_explorer.specs.declared.ledger.LastWrite.{LastWrite}
use Rattle.mx_explorer.specs.declared.verdict.Clause.{Clause}
use Rattle.mx_explorer.specs.declared.verdict.Clause.TheVariants as clause
use Rattle.mx_explorer.specs.declared.verdict.Verdict.{Verdict}
use Rattle.mx_explorer.specs.declared.verdict.Verdict.TheVariants.{Sound, Broken}
use Rattle.mx_plan.specs.Text.{Text}
use Rattle.mx_plan.specs.Fields.{Fields}
use Rattle.mx_format.specs.EventTexts.{name_of, register_name_of}

-- how many sections were entered
abbrev pub entered_in : List Entry → ℕ
entered_in = count_by is_entry

-- a name and a number, each with words before it
abbrev pub named : Text → Text → Text → ℕ → Text
named words name more number = words ++ name ++ more ++ decimal number

module _ (p : Fields) where
  -- who is inside, by the node inside the newest section and the number of this section
  abbrev pub inside_by : Option ℕ → ℕ → Text
  inside_by None n = codes ", while no node is inside"
  inside_by (Some i) n = named (codes ", while ") (name_of p i) (codes " is inside section ") n

  abbrev pub inside_text : List Section → Text
  inside_text ss = inside_by (holder ss) (length ss)

  -- what a register holds by its last write
  abbrev pub expected_text : Option LastWrite → Text
  expected_text None = codes ", expected 0, never written"
  expected_text (Some w) =
      codes ", expected " ++ decimal w.value
      ++ named (codes ", written by ") (name_of p w.node) (codes " in section ") w.section

  -- the node reads another value than the register holds, or it reads outside a section
  abbrev pub wanted_text : List Section → ℕ → ℕ → Text
  wanted_text ss i register =
      if is_node i (holder ss) then expected_text (last_write register ss) else inside_text ss

  -- a node enters while one is inside; or it leaves a section in which it is not, or reads wrongly
  abbrev pub misfit_reason : List Section → Event → Outcome → Text
  misfit_reason ss (Enter i) (Entered n) = codes "enter " ++ name_of p i ++ inside_text ss
  misfit_reason ss (Leave i) (Left receipt) =
      named (codes "leave ") (name_of p i) (codes " from section ") receipt.number
      ++ inside_text ss
  misfit_reason ss (Read i register) (Value value) =
      name_of p i ++ named (codes " reads ") (register_name_of p register) (codes " ") value
      ++ wanted_text ss i register
  misfit_reason ss _ _ = []

  -- a node enters with another number than the next one
  abbrev pub number_reason : ℕ → Event → Outcome → Text
  number_reason next (Enter i) (Entered n) =
      codes "enter " ++ name_of p i ++ codes " has number " ++ decimal n
      ++ codes ", the next is " ++ decimal next
  number_reason next _ _ = []

  -- why an entry breaks this rule, by the entries before it
  abbrev pub reason_of : List Entry → Clause → Event → Outcome → Text
  reason_of before clause.Number = number_reason (suc (entered_in before))
  reason_of before _ = misfit_reason (sections before)

  -- why the k-th entry breaks this rule
  abbrev pub reason_at : List Entry → ℕ → Clause → Text
  reason_at trace k broken =
      option_map_or (λ (e : Entry). reason_of (take k trace) broken e.event e.outcome)
      (slice_get trace k) []

  -- why a trace with this verdict is broken; nothing, if it is sound
  abbrev pub reason_for : List Entry → Verdict → Text
  reason_for trace Sound = []
  reason_for trace (Broken k broken) = reason_at trace k broken
