-- What is shown of a run, event by event.
use Rattle.std.proofs.Common.{◌≡◌, ◌∙◌, ◌+◌, ◌++◌, ℕ, Bool, true, false, List, [], ◌∷◌, Result, Ok, Err, OnOk, append_assoc, ap, ap₂, drop, length, refl, sym}
use Rattle.std.specs.Prelude.{if◌then◌else◌}
use Rattle.std.specs.List.{concat}
use Rattle.std.proofs.lemmas.List.{drop_at}
use Rattle.mx_stamps.proofs.Lists.{append_nil}
use Rattle.mx_knowledge.specs.Facts.{Known}
use Rattle.mx_nodelaws.specs.Core.{Core}
use Rattle.mx_ricart.specs.Step.{ricart_core}
use Rattle.mx_ricart.specs.Knows.{known_of as ricart_known}
use Rattle.mx_maekawa.specs.Step.{maekawa_core}
use Rattle.mx_maekawa.specs.Knows.{known_of as maekawa_known}
use Rattle.mx_raymond.specs.Step.{raymond_core}
use Rattle.mx_raymond.specs.Knows.{known_of as raymond_known}
use Rattle.mx_events.specs.declared.event.Event.{Event}
use Rattle.mx_network.specs.Step.{ClusterState, RunsTo, step_of}
use Rattle.mx_network.specs.declared.faults.StepFault.{StepFault}
use Rattle.mx_trace.specs.declared.outcome.Entry.{Entry}
use Rattle.mx_explorer.specs.declared.verdict.Verdict.{Verdict}
use Rattle.mx_explorer.specs.declared.verdict.Verdict.TheVariants.{Sound}
use Rattle.mx_plan.specs.Text.{Text}
use Rattle.mx_plan.specs.Fields.{Fields}
use Rattle.mx_plan.specs.declared.shape.Shape.{Shape}
use Rattle.mx_plan.specs.declared.shape.Shape.TheVariants.{Ricart, Maekawa, Raymond}
use Rattle.mx_format.specs.Lines.{each_text, texts_from}
use Rattle.mx_format.specs.Parts.{Parts, maekawa_parts, raymond_parts, ricart_parts}
use Rattle.mx_cli.specs.declared.faults.Fault.{Fault}
use Rattle.mx_cli.specs.declared.faults.Fault.TheVariants.{NoParcel}
use Rattle.mx_cli.specs.Printing.{End, Report, has_fault, has_status}
use Rattle.mx_explorer.specs.VerdictLines.{verdict_text}
use Rattle.mx_driver.specs.Runs.{at_rest, report_from, stepped}
use Rattle.mx_driver.specs.Shown.{ShowsRunBy, new_lines, shown_closing, shown_entry, shown_from, shown_owner, shown_parcel, shown_step, shown_text, step_text, view_by, view_from, view_texts, where_shown}
use Rattle.mx_driver.specs.declared.view.View.{View}

-- two texts, and then a verdict that is sound
pub with_verdict : (is_json : Bool) (t t1 t2 t3 a b : Text) (v : Verdict) → v ≡ Sound → t1 ≡ t ++ a → t2 ≡ t1 ++ b → t3 ≡ t2 ++ verdict_text is_json v → t3 ≡ t ++ (a ++ (b ++ verdict_text is_json Sound))
with_verdict is_json t t1 t2 t3 a b v sound first second third =
    let verdict : Text = verdict_text is_json Sound in
    third ∙ ap₂ (λ (x : Text) (y : Verdict). x ++ verdict_text is_json y) second sound ∙ append_assoc t1 b verdict
    ∙ ap (λ (x : Text). x ++ (b ++ verdict)) first ∙ append_assoc t a (b ++ verdict)

-- three texts, one after another
pub three_written : {T E : Type 0} (t t1 t2 t3 a b c : Text) (r : Result T E) → t1 ≡ t ++ a → t2 ≡ t1 ++ b → OnOk r (t3 ≡ t2 ++ c) → OnOk r (t3 ≡ t ++ (a ++ b ++ c))
three_written t t1 t2 t3 a b c (Ok u) first second third =
    third ∙ ap (λ (x : Text). x ++ c) (second ∙ ap (λ (x : Text). x ++ b) first ∙ append_assoc t a b) ∙ append_assoc t (a ++ b) c
three_written t t1 t2 t3 a b c (Err e) first second third = tt

perhaps_below : (b : Bool) (x y : Text) → x ++ where_shown b y ≡ (if b then x ++ y else x)
perhaps_below true x y = refl
perhaps_below false x y = append_nil x

-- what is shown of one event, by the newest item of the trace
pub newest_shown : {T E H S M : Type 0} (core : Core H S M) (parts : M → Parts) (p : Fields) (view : View) (knows : S → List Known) (k n : ℕ) (old new : ClusterState S M) (entry : Entry) (r : Result T E) (t t' : Text)
    → view.is_quiet ≡ false → new.trace ≡ old.trace ++ entry ∷ [] → n ≡ length old.sent
    → OnOk r (t' ≡ t ++ (shown_entry p view new.sent k entry ++ texts_from (shown_parcel p view parts) n (drop n new.sent) ++ where_shown view.has_state (shown_owner p view core knows new entry)))
    → OnOk r (t' ≡ t ++ step_text core parts p view knows k old new)
newest_shown core parts p view knows k n old new entry (Err e) t t' loud trace count is = tt
newest_shown core parts p view knows k n old new entry (Ok x) t t' loud trace count is =
    let line = shown_entry p view new.sent k entry in
    let owner = shown_owner p view core knows new in
    let parcels : ℕ → Text = λ m. texts_from (shown_parcel p view parts) m (drop m new.sent) in
    let newest : drop (length old.trace) new.trace ≡ entry ∷ [] = ap (drop (length old.trace)) trace ∙ drop_at old.trace _ (length old.trace) refl in
    let lines : texts_from (shown_entry p view new.sent) k (drop (length old.trace) new.trace) ≡ line = ap (texts_from (shown_entry p view new.sent) k) newest ∙ append_nil line in
    let below : each_text owner (drop (length old.trace) new.trace) ≡ owner entry = ap (each_text owner) newest ∙ append_nil (owner entry) in
    is
    ∙ ap₂ (λ (l : Text) (m : ℕ). t ++ (l ++ parcels m ++ where_shown view.has_state (owner entry))) (sym lines) count
    ∙ ap (λ (l : Text). t ++ (new_lines core parts p view knows k old new ++ where_shown view.has_state l)) (sym below)
    ∙ ap (λ (l : Text). t ++ l) (perhaps_below view.has_state (new_lines core parts p view knows k old new) (each_text owner (drop (length old.trace) new.trace)))
    ∙ ap (λ (b : Bool). t ++ (if b then [] else shown_text core parts p view knows k old new)) (sym loud)

-- ---- a report without a fault

nothing_before : (is_quiet : Bool) (text : Text) → text ++ [] ≡ (if is_quiet then [] else []) ++ text
nothing_before true text = append_nil text
nothing_before false text = append_nil text

both_before : (is_quiet : Bool) (x y : Text) → (if is_quiet then [] else x) ++ (if is_quiet then [] else y) ≡ (if is_quiet then [] else (x ++ y))
both_before true x y = refl
both_before false x y = refl

fault_is_status : (f : Fault) → ◌≡◌ {A = End} (has_fault f) (has_status 0) → ⊥
fault_is_status f e = cc

module _ {H S M : Type 0} (core : Core H S M) (parts : M → Parts) (p : Fields) (view : View) (knows : S → List Known) where
  -- the events lead to a cluster, and the texts are these lines and its closing lines
  abbrev Leads : ClusterState S M → List Event → Report → Text → Type 0
  Leads g es r lines =
      (new : ClusterState S M) × RunsTo core g es new × (concat r.texts ≡ (if view.is_quiet then [] else lines) ++ shown_closing p view core knows new)

  step_leads : (e : Event) (es : List Event) (k : ℕ) (g : ClusterState S M) (r : Result (ClusterState S M) StepFault) → step_of core g e ≡ r
      → ((new : ClusterState S M) → (view_from core parts p view knows (k + 1) new es).end ≡ has_status 0
      → Leads new es (view_from core parts p view knows (k + 1) new es) (shown_from core parts p view knows (k + 1) new es))
      → (stepped (view_texts core parts p view knows) k g r (λ new. view_from core parts p view knows (k + 1) new es)).end ≡ has_status 0
      → Leads g (e ∷ es) (stepped (view_texts core parts p view knows) k g r (λ new. view_from core parts p view knows (k + 1) new es))
      (shown_step core parts p view knows k g r (λ new. shown_from core parts p view knows (k + 1) new es))
  step_leads e es k g (Err fault) is more end = absurd (fault_is_status (NoParcel k) end)
  step_leads e es k g (Ok mid) is more end =
      let h = more mid end in
      let text : Text = step_text core parts p view knows k g mid in
      let lines : Text = if view.is_quiet then [] else shown_from core parts p view knows (k + 1) mid es in
      let closing : Text = shown_closing p view core knows h.0 in (
        h.0,
        (mid, is, h.1),
        ap (λ (l : Text). text ++ l) h.2 ∙ sym (append_assoc text lines closing)
            ∙ ap (λ (l : Text). l ++ closing) (both_before view.is_quiet (shown_text core parts p view knows k g mid) (shown_from core parts p view knows (k + 1) mid es)),
      )

  -- the texts show the run, if it has no fault
  leads : (es : List Event) (k : ℕ) (g : ClusterState S M) → (view_from core parts p view knows k g es).end ≡ has_status 0
      → Leads g es (view_from core parts p view knows k g es) (shown_from core parts p view knows k g es)
  unfolding report_from shown_from
  leads [] k g end = (g, refl, nothing_before view.is_quiet (shown_closing p view core knows g))
  leads (e ∷ es) k g end = step_leads e es k g (step_of core g e) refl (λ new. leads es (k + 1) new) end

-- the same, by the algorithm of a plan
pub shown_by : (p : Fields) (view : View) (es : List Event) (shape : Shape) → (view_by p view shape es).end ≡ has_status 0 → ShowsRunBy p view es (concat (view_by p view shape es).texts) shape
shown_by p view es (Ricart count) end = leads ricart_core ricart_parts p view ricart_known es 0 (at_rest ricart_core p count) end
shown_by p view es (Maekawa family) end = leads maekawa_core maekawa_parts p view maekawa_known es 0 (at_rest maekawa_core p family) end
shown_by p view es (Raymond tree) end = leads raymond_core raymond_parts p view raymond_known es 0 (at_rest raymond_core p tree) end
