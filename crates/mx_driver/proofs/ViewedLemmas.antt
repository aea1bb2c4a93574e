-- What a replay prints, from what its parts do.
use Rattle.std.proofs.Common.{◌≡◌, ◌⊎◌, ℕ, Bool, true, false, List, Option, Some, None, Result, Ok, Err, inl, inr, refl, subst, sym}
use Rattle.std.specs.Prelude.{string_bytes}
use Rattle.mx_events.specs.declared.event.Event.{Event}
use Rattle.mx_plan.specs.Text.{Text}
use Rattle.mx_plan.specs.Fields.{Fields}
use Rattle.mx_plan.specs.Events.{events_at}
use Rattle.mx_plan.specs.declared.faults.PlanFault.{PlanFault}
use Rattle.mx_plan.specs.declared.faults.PlanFault.TheVariants as plan_fault
use Rattle.mx_cli.specs.Printing.{IsReport, Prints, Report, Sight, ends, has_fault, has_line, stop_at}
use Rattle.mx_cli.specs.Requests.{View as Options}
use Rattle.mx_cli.specs.declared.faults.Fault.TheVariants.{BadText}
use Rattle.mx_cli.specs.declared.stop.Stop.{Stop}
use Rattle.mx_cli.specs.declared.stop.Stop.TheVariants as stop
use Rattle.mx_cli.proofs.FrameLemmas.{line_prints, memory_prints, text_prints}
use Rattle.mx_driver.specs.Jobs.{run_by, where_read}
use Rattle.mx_driver.specs.Shown.{view_by}
use Rattle.mx_driver.specs.Viewed.{IsFound, IsReplayed, IsShown, IsShownOn, IsView, IsViewBy, node_in, view_on}

-- ---- the node that is named

module _ (options : Options) (p : Fields) (es : List Event) where
  -- the plan has it
  pub is_shown : (index : Option ℕ) → node_in p options.node ≡ Some index → (r : Report) → IsReport (view_by p (view_on options index) p.shape es) r → IsShown options p es r
  is_shown index found r is = subst (λ (n : Option (Option ℕ)). IsShownOn options p es n r) (sym found) is

  -- the plan lacks it, or memory ran out
  pub not_found : (o : Sight) (s : Stop) → IsFound p options.node (Err s) → Prints (IsShown options p es) o o (Err s)
  not_found o (stop.Line line) h =
      line_prints (IsShown options p es) (string_bytes line) o (stop.Line line)
      (subst (λ (n : Option (Option ℕ)). IsShownOn options p es n (ends (has_line (string_bytes line)))) (sym h.0) (string_bytes line, h.1, refl)) refl
  not_found o stop.Memory h = memory_prints (IsShown options p es) o
  not_found o (stop.Fault fault) h = absurd h
  not_found o stop.Writer h = absurd h

-- ---- without options, a view is the plain lines

abbrev options_of : Bool → Option Text → Bool → Bool → Options
options_of is_quiet node is_json has_state = record { is_quiet = is_quiet; node = node; is_json = is_json; has_state = has_state }

plain : (p : Fields) (read : Result (List Event) PlanFault) (r : Report) → IsViewBy (options_of false None false false) p read r → r ≡ where_read read (run_by p p.shape)
plain p (Ok es) r is = is
plain p (Err fault) r is = is

module _ (p : Fields) (text : Text) (r : Report) where
  replayed_by : (is_quiet : Bool) (node : Option Text) (is_json has_state : Bool) → let o : Options = options_of is_quiet node is_json has_state in IsView o p text r → IsReplayed o p text r
  replayed_by true node is_json has_state is = is
  replayed_by false (Some name) is_json has_state is = is
  replayed_by false None true has_state is = is
  replayed_by false None false true is = is
  replayed_by false None false false is = plain p (events_at p text) r is

  pub replayed : (o : Options) → IsView o p text r → IsReplayed o p text r
  replayed o is = replayed_by o.is_quiet o.node o.is_json o.has_state is

-- ---- the text

module _ (options : Options) (p : Fields) (text : Text) where
  -- it lists events
  pub is_view : (items es : List Event) → events_at p text ≡ Ok items → es ≡ items → (r : Report) → IsShown options p es r → IsView options p text r
  is_view items es listed same r is =
      subst (λ (w : Result (List Event) PlanFault). IsViewBy options p w r) (sym listed) (subst (λ (l : List Event). IsShown options p l r) same is)

  -- it lists none, or memory ran out
  pub no_view : (fault : PlanFault) (o : Sight) (s : Stop) → (events_at p text ≡ Err fault) ⊎ (fault ≡ plan_fault.Memory) → s ≡ stop_at fault → Prints (IsView options p text) o o (Err s)
  no_view fault o s (inl refused) is =
      text_prints (IsView options p text) o s fault
      (inl (subst (λ (w : Result (List Event) PlanFault). IsViewBy options p w (ends (has_fault (BadText fault)))) (sym refused) refl)) is
  no_view fault o s (inr out) is = text_prints (IsView options p text) o s fault (inr out) is
