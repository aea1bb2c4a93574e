-- A picture, from its lines, and what is printed where there is none.
use Rattle.std.proofs.Common.{◌≡◌, ◌∙◌, ◌⊎◌, ◌++◌, ℕ, Bool, List, [], Option, None, Some, Result, Ok, Err, ap, false, inl, inr, length, refl, subst, sym, true}
use Rattle.std.specs.Prelude.{codes, option_map, string_bytes}
use Rattle.mx_events.specs.declared.event.Event.{Event}
use Rattle.mx_plan.specs.Text.{Text, line_feed}
use Rattle.mx_plan.specs.Fields.{Fields}
use Rattle.mx_plan.specs.Events.{events_at}
use Rattle.mx_plan.specs.declared.faults.PlanFault.{PlanFault}
use Rattle.mx_plan.specs.declared.faults.PlanFault.TheVariants as plan_fault
use Rattle.mx_cli.specs.Printing.{End, IsReport, Prints, Report, ShowsOne, Sight, ends, has_fault, has_line, has_status, is_refused, null_output, stop_at, whole}
use Rattle.mx_cli.specs.Requests.{Part}
use Rattle.mx_cli.specs.declared.faults.Fault.{Fault}
use Rattle.mx_cli.specs.declared.faults.Fault.TheVariants.{BadText}
use Rattle.mx_cli.specs.declared.stop.Stop.{Stop}
use Rattle.mx_cli.specs.declared.stop.Stop.TheVariants as stop
use Rattle.mx_cli.proofs.FrameLemmas.{fault_prints, line_prints, memory_prints, silent_end, text_prints}
use Rattle.mx_driver.specs.Jobs.{run_by}
use Rattle.mx_driver.specs.Viewed.{IsFound, node_in}
use Rattle.mx_picture.specs.declared.opening.Frame.{Frame}
use Rattle.mx_picture.specs.Drawn.{IsPage, IsPicture, names_text, opening_line, trace_title}
use Rattle.mx_picture.specs.Pictures.{DrawsEvents, IsPictured, IsPicturedBy, IsRunDrawn, IsRunDrawnOn, IsUnknown, part_on}
use Rattle.mx_picture.specs.declared.part.ShownPart.{ShownPart as Shown}

-- a text to which each part of a page was appended
pub page_is : (title : Text) (frame : Frame) (body t t1 t2 t3 t4 : Text) → t ≡ [] → t1 ≡ t ++ opening_line frame → t2 ≡ t1 ++ title
    → t3 ≡ t2 ++ body → t4 ≡ t3 ++ (codes "</svg>" ++ line_feed) → IsPage title t4
page_is title frame body t t1 t2 t3 t4 none first second third fourth =
    let opened : t1 ≡ opening_line frame = first ∙ ap (λ (s : Text). s ++ opening_line frame) none in
    (frame, body, fourth ∙ ap (λ (s : Text). s ++ (codes "</svg>" ++ line_feed)) (third ∙ ap (λ (s : Text). s ++ body) (second ∙ ap (λ (s : Text). s ++ title) opened)))

-- a text to which each part of the title of a trace was appended
pub trace_title_is : (p : Fields) (judgement t t1 t2 t3 t4 t5 : Text) → t ≡ [] → t1 ≡ t ++ codes "<title>Trace, nodes:" → t2 ≡ t1 ++ names_text p → t3 ≡ t2 ++ line_feed → t4 ≡ t3 ++ judgement
    → t5 ≡ t4 ++ (codes "</title>" ++ line_feed) → t5 ≡ trace_title p judgement
trace_title_is p judgement t t1 t2 t3 t4 t5 none first second third fourth fifth =
    let start : t1 ≡ codes "<title>Trace, nodes:" = first ∙ ap (λ (s : Text). s ++ codes "<title>Trace, nodes:") none in
    let named = second ∙ ap (λ (s : Text). s ++ names_text p) start in
    let judged = fourth ∙ ap (λ (s : Text). s ++ judgement) (third ∙ ap (λ (s : Text). s ++ line_feed) named) in
    fifth ∙ ap (λ (s : Text). s ++ (codes "</title>" ++ line_feed)) judged

-- a page with this title
pub titled : (a b page : Text) → a ≡ b → IsPage a page → IsPage b page
titled a b page is h = subst (λ (t : Text). IsPage t page) is h

never_refused : (r : Report) → ShowsOne (IsReport r) true None None is_refused → ⊥
never_refused r (inl early) = let bad : true ≡ false = early.0 in cc
never_refused r (inr shown) = let bad : true ≡ false = shown.2.0 in cc

module _ (p : Fields) (es : List Event) where
  -- a run that ends well
  pub run_drawn : (r : Report) (status : ℕ) (picture : Text) → Prints (IsReport r) null_output null_output (Ok status) → IsPicture p (length es) picture → DrawsEvents p es r.end (whole picture 0)
  run_drawn r status picture h is = subst (λ (end : End). DrawsEvents p es end (whole picture 0)) (sym (silent_end r (has_status status) h.shows)) (picture, is, refl)

  module _ (o : Sight) where
    -- a fault that is known
    pub fault_drawn : (end : End) (fault : Fault) → end ≡ has_fault fault → Prints (DrawsEvents p es end) o o (Err (stop.Fault fault))
    fault_drawn end fault is = fault_prints (DrawsEvents p es end) fault o (subst (λ (e : End). DrawsEvents p es e (ends (has_fault fault))) (sym is) refl)

    -- a run that stops
    pub run_stops : (r : Report) (s : Stop) → Prints (IsReport r) null_output null_output (Err s) → Prints (DrawsEvents p es r.end) o o (Err s)
    run_stops r (stop.Fault fault) h = fault_drawn r.end fault (silent_end r (has_fault fault) h.shows)
    run_stops r (stop.Line line) h =
        line_prints (DrawsEvents p es r.end) (string_bytes line) o (stop.Line line)
        (subst (λ (e : End). DrawsEvents p es e (ends (has_line (string_bytes line)))) (sym (silent_end r (has_line (string_bytes line)) h.shows)) refl) refl
    run_stops r stop.Writer h = absurd (never_refused r h.shows)
    run_stops r stop.Memory h = memory_prints (DrawsEvents p es r.end) o

-- what holds of a part holds where a node was found, or none was named
module _ (Is : Option (Option ℕ) → Type 0) (part : Part) (only_letters : Bool) (shown : Shown) where
  pub with_part : ((node : Option ℕ) → Is (Some node)) → (n : Option (Option ℕ)) → option_map (part_on part only_letters) n ≡ Some shown → Is n
  with_part h (Some node) is = h node
  with_part h None is = cc

-- the plan lacks the named node, or memory ran out
module _ (P : Report → Type 0) (p : Fields) (name : Option Text) (o : Sight) where
  pub not_found : ((r : Report) → node_in p name ≡ None → IsUnknown r → P r) → (s : Stop) → IsFound p name (Err s) → Prints P o o (Err s)
  not_found lacks (stop.Line line) h =
      line_prints P (string_bytes line) o (stop.Line line) (lacks (ends (has_line (string_bytes line))) h.0 (string_bytes line, h.1, refl)) refl
  not_found lacks stop.Memory h = memory_prints P o
  not_found lacks (stop.Fault fault) h = absurd h
  not_found lacks stop.Writer h = absurd h

module _ (part : Part) (p : Fields) (es : List Event) where
  -- part of a run is drawn
  pub part_drawn : (only_letters : Bool) (shown : Shown) → option_map (part_on part only_letters) (node_in p part.node) ≡ Some shown → (r : Report) → DrawsEvents p es (run_by p p.shape es).end r
      → IsRunDrawn part p es r
  part_drawn only_letters shown is r h =
      with_part (λ n. IsRunDrawnOn p es n r) part only_letters shown (λ node. h) (node_in p part.node) is

  pub part_unknown : (r : Report) → node_in p part.node ≡ None → IsUnknown r → IsRunDrawn part p es r
  part_unknown r none is = subst (λ (n : Option (Option ℕ)). IsRunDrawnOn p es n r) (sym none) is

module _ (part : Part) (p : Fields) (text : Text) where
  -- the events that a text lists
  pub listed : (es : List Event) → events_at p text ≡ Ok es → (r : Report) → IsPicturedBy part p (Ok es) r → IsPictured part p text r
  listed es read r h = subst (λ (t : Result (List Event) PlanFault). IsPicturedBy part p t r) (sym read) h

  -- a text that lists none
  pub unlisted : (fault : PlanFault) (o : Sight) (s : Stop) → (events_at p text ≡ Err fault) ⊎ (fault ≡ plan_fault.Memory) → s ≡ stop_at fault → Prints (IsPictured part p text) o o (Err s)
  unlisted fault o s (inl read) is =
      text_prints (IsPictured part p text) o s fault (inl (subst (λ (t : Result (List Event) PlanFault). IsPicturedBy part p t (ends (has_fault (BadText fault)))) (sym read) refl)) is
  unlisted fault o s (inr out) is = text_prints (IsPictured part p text) o s fault (inr out) is
