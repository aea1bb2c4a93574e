-- What `count` prints.
use Rattle.std.specs.Prelude.{ℕ, Bool, true, List, [], length}
use Rattle.mx_events.specs.declared.event.Event.{Event}
use Rattle.mx_plan.specs.Text.{Text}
use Rattle.mx_plan.specs.Fields.{Fields}
use Rattle.mx_plan.specs.Events.{events_at}
use Rattle.mx_format.specs.Parts.{maekawa_parts, maekawa_words, raymond_parts, raymond_words, ricart_parts, ricart_words, word_by}
use Rattle.mx_cli.specs.Printing.{IsReport, Report}
use Rattle.mx_driver.specs.Jobs.{where_read}
use Rattle.mx_driver.specs.Runs.{Texts}
use Rattle.mx_driver.specs.Sinks.{TextsBy, report_by}
use Rattle.mx_count.specs.Counted.{counts_text}
use Rattle.mx_count.specs.declared.counted_run.EventSource.{EventSource}
use Rattle.mx_count.specs.declared.counted_run.EventSource.TheVariants.{Given}
use Rattle.mx_count.specs.declared.counted_run.Options.{Options}

-- where the events come from, whether JSON is printed, and whether all counts are
abbrev pub options_of : EventSource → Bool → Bool → Options
options_of source is_json has_counts =
    record { source = source; is_json = is_json; has_counts = has_counts }

-- nothing for an event; at the end of a run of this many events, the counts and the verdict
abbrev pub count_texts : {S M : Type 0} → (M → Text) → List Text → Bool → Fields → ℕ → Texts S M
count_texts kind_text words is_json p events = record {
  event = λ _ _ _. [];
  closing = counts_text kind_text words (options_of Given is_json true) p events;
}

abbrev pub counts_by : Bool → Fields → ℕ → TextsBy
counts_by is_json p events = record {
  ricart = count_texts (word_by ricart_parts) ricart_words is_json p events;
  maekawa = count_texts (word_by maekawa_parts) maekawa_words is_json p events;
  raymond = count_texts (word_by raymond_parts) raymond_words is_json p events;
}

-- the counts of the cluster to which these events lead from that of a plan, at rest; or the fault of
-- an event that delivers a parcel that was not sent
abbrev pub count_report : Bool → Fields → List Event → Report
count_report is_json p es = report_by (counts_by is_json p (length es)) p p.shape es

-- the same of the events that a text lists, or the fault of the text
abbrev pub IsCount : Bool → Fields → Text → Report → Type 0
IsCount is_json p text = IsReport (where_read (events_at p text) (count_report is_json p))
