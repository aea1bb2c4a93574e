-- What is printed of counts, from what was read.
use Rattle.std.proofs.Common.{◌≡◌, ◌∙◌, ◌⊎◌, List, Result, Ok, Err, OnOk, Bool, ap, inl, inr, sym}
use Rattle.mx_events.specs.declared.event.Event.{Event}
use Rattle.mx_plan.specs.Text.{Text}
use Rattle.mx_plan.specs.Fields.{Fields}
use Rattle.mx_plan.specs.Events.{events_at}
use Rattle.mx_plan.specs.declared.faults.PlanFault.{PlanFault}
use Rattle.mx_plan.specs.declared.faults.PlanFault.TheVariants as plan_fault
use Rattle.mx_cli.specs.Printing.{IsReport, Prints, Report, Sight, stop_at}
use Rattle.mx_cli.specs.declared.stop.Stop.{Stop}
use Rattle.mx_cli.proofs.FrameLemmas.{text_prints}
use Rattle.mx_driver.specs.Jobs.{where_read}
use Rattle.mx_count.specs.Printed.{IsCount, count_report}

module _ (is_json : Bool) (p : Fields) (text : Text) where
  -- the text lists events
  pub is_count : (items es : List Event) → events_at p text ≡ Ok items → es ≡ items → (r : Report) → IsReport (count_report is_json p es) r → IsCount is_json p text r
  is_count items es read same r is = is ∙ ap (count_report is_json p) same ∙ ap (λ (t : Result (List Event) PlanFault). where_read t (count_report is_json p)) (sym read)

  -- it lists none, or memory ran out
  pub no_count : (fault : PlanFault) (o : Sight) (s : Stop) → (events_at p text ≡ Err fault) ⊎ (fault ≡ plan_fault.Memory) → s ≡ stop_at fault → Prints (IsCount is_json p text) o o (Err s)
  no_count fault o s (inl read) is = text_prints (IsCount is_json p text) o s fault (inl (ap (λ (t : Result (List Event) PlanFault). where_read t (count_report is_json p)) (sym read))) is
  no_count fault o s (inr out) is = text_prints (IsCount is_json p text) o s fault (inr out) is

-- nothing is said of a result
pub nothing_said : {T E : Type 0} (r : Result T E) → OnOk r (Unit {0})
nothing_said (Ok t) = tt
nothing_said (Err e) = tt
