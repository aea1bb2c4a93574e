-- What `replay` prints, from what its parts do.
use Rattle.std.proofs.Common.{◌≡◌, ◌∙◌, ◌⊎◌, List, Result, Ok, Err, ap, inl, inr, sym}
use Rattle.mx_events.specs.declared.event.Event.{Event}
use Rattle.mx_plan.specs.Text.{Text}
use Rattle.mx_plan.specs.Fields.{Fields}
use Rattle.mx_plan.specs.Events.{events_at}
use Rattle.mx_plan.specs.declared.faults.PlanFault.{PlanFault}
use Rattle.mx_plan.specs.declared.faults.PlanFault.TheVariants as plan_fault
use Rattle.mx_driver.specs.Jobs.{run_by, where_read}
use Rattle.mx_cli.specs.Printing.{IsReport, Prints, Report, Sight, stop_at}
use Rattle.mx_cli.specs.declared.stop.Stop.{Stop}
use Rattle.mx_cli.proofs.FrameLemmas.{text_prints}
use Rattle.mx_driver.specs.Commands.{IsReplay}

module _ (p : Fields) (text : Text) where
  -- events that were read
  pub is_replay : (es : List Event) → events_at p text ≡ Ok es → (r : Report) → IsReport (run_by p p.shape es) r → IsReplay p text r
  is_replay es read r is = is ∙ ap (λ (t : Result (List Event) PlanFault). where_read t (run_by p p.shape)) (sym read)

  -- a text without events
  pub no_replay : (fault : PlanFault) (o : Sight) (s : Stop) → (events_at p text ≡ Err fault) ⊎ (fault ≡ plan_fault.Memory) → s ≡ stop_at fault → Prints (IsReplay p text) o o (Err s)
  no_replay fault o s (inl read) is = text_prints (IsReplay p text) o s fault (inl (ap (λ (t : Result (List Event) PlanFault). where_read t (run_by p p.shape)) (sym read))) is
  no_replay fault o s (inr out) is = text_prints (IsReplay p text) o s fault (inr out) is
