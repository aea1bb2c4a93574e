-- The entries and the messages of a trace as JSON.
use Rattle.std.specs.Prelude.{ℕ, ◌++◌, codes}
use Rattle.mx_events.specs.declared.event.Event.{Event}
use Rattle.mx_events.specs.declared.event.Event.TheVariants.{Leave}
use Rattle.mx_trace.specs.declared.outcome.Entry.{Entry}
use Rattle.mx_trace.specs.declared.outcome.Outcome.{Outcome}
use Rattle.mx_trace.specs.declared.outcome.Outcome.TheVariants.{Left}
use Rattle.mx_plan.specs.Text.{Text}
use Rattle.mx_plan.specs.Fields.{Fields}
use Rattle.mx_format.specs.EventJson.{event_json}
use Rattle.mx_format.specs.Lines.{each_text}
use Rattle.mx_format.specs.Members.{node_member, number_member, number_start, word_member}
use Rattle.mx_judge.specs.Listed.{ReadTrace, sent_by}
use Rattle.mx_judge.specs.Messages.{message_json}

module _ (p : Fields) (k : ℕ) where
  -- node i leaves section n
  abbrev pub exit_json : ℕ → ℕ → Text
  exit_json i n =
      number_start (codes "event") k ++ word_member (codes "act") (codes "leave")
      ++ node_member p (codes "node") i ++ word_member (codes "outcome") (codes "left")
      ++ number_member (codes "number") n ++ codes "}\n"

  abbrev pub entry_json_by : Entry → Event → Outcome → Text
  entry_json_by e (Leave i) (Left receipt) = exit_json i receipt.number
  entry_json_by e _ _ = event_json p k e

  -- the line of the k-th entry: its object, as `replay --json` prints it, but without the member
  -- `writes` of an exit, since a receipt in a trace has only its number
  abbrev pub entry_json : Entry → Text
  entry_json e = entry_json_by e e.event e.outcome

-- the line of the k-th entry of a trace, and those of the messages that it sends
abbrev pub sending_json : Fields → ReadTrace → ℕ → Entry → Text
sending_json p t k e = entry_json p k e ++ each_text (message_json p) (sent_by t k)
