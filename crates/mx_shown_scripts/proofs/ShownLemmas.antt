-- What is shown of a script, text by text.
use Rattle.std.proofs.Common.{◌≡◌, ◌∙◌, ◌<◌, ◌≤◌, ◌+◌, ◌∷◌, ◌++◌, ℕ, List, [], Bool, Option, Result, Ok, Err, Some, add-one, ap, drop, drop-cons, false, get_or, inl, inr, length, refl, subst, sym, true}
use Rattle.std.specs.Bool.{⊤}
use Rattle.std.specs.Io.KnownBytes.{Appends, Keeps}
use Rattle.std.specs.List.{concat}
use Rattle.std.specs.Str.Lines.{lines}
use Rattle.std.specs.Prelude.{IsErrAnd, codes, decimal, if◌then◌else◌, string_bytes}
use Rattle.std.proofs.lemmas.List.{drop_all}
use Rattle.mx_knowledge.specs.Facts.{Known}
use Rattle.mx_nodelaws.specs.Core.{Core}
use Rattle.mx_plan.specs.Text.{Text}
use Rattle.mx_plan.specs.Fields.{Fields}
use Rattle.mx_plan.specs.declared.shape.Shape.{Shape}
use Rattle.mx_format.specs.Parts.{Parts}
use Rattle.mx_lines.specs.Texts.{fault_text}
use Rattle.mx_io.specs.Outputs.{Held, refused_by}
use Rattle.mx_io.specs.declared.output.OutputFault.{OutputFault}
use Rattle.mx_io.specs.declared.output.OutputFault.TheVariants as output_fault
use Rattle.mx_cli.specs.Printing.{AppendsSome, End, IsReport, IsStopWith, Prints, Report, ShowsOne, Sight, comes_to, ends, has_fault, has_line, has_status, is_refused, is_short, stop_of}
use Rattle.mx_cli.specs.declared.faults.Fault.{Fault}
use Rattle.mx_cli.specs.declared.stop.Stop.{Stop}
use Rattle.mx_cli.specs.declared.stop.Stop.TheVariants as stop
use Rattle.mx_cli.proofs.FrameLemmas.{line_prints, memory_prints, prints_as}
use Rattle.mx_cli.proofs.ReadLemmas.{err_is}
use Rattle.mx_cli.proofs.OutputLemmas.{Appends-nil, all_some}
use Rattle.mx_driver.specs.declared.view.View.{View}
use Rattle.mx_driver.specs.Runs.{at_rest}
use Rattle.mx_driver.proofs.RunLemmas.{Printed, members_at_rest, run_lacks, run_refused}
use Rattle.mx_shown_scripts.specs.Happenings.{HasDone}
use Rattle.mx_shown_scripts.specs.Objects.{IsFaultJson}
use Rattle.mx_event_files.specs.ScriptFiles.{IsNotText}
use Rattle.mx_event_files.specs.Scripts.{HasLine}
use Rattle.mx_scripts.specs.Failures.{script_line}
use Rattle.mx_shown_scripts.specs.ShownScripts.{CanShow, IsShownBy, IsShownOf, IsShownScript, IsShownTo, ShowsAll, closing_shown, ends_by, happening_text, line_of, report_shown, shows_asides}
use Rattle.mx_scripts.specs.States.{Brings, RunState, before_any}
use Rattle.mx_event_files.specs.declared.happening.Happening.{Happening}
use Rattle.mx_scripts.specs.declared.line_failure.RefusedLine.{RefusedLine}
use Rattle.mx_shown_scripts.proofs.HappeningLemmas.{reached_shown}
use Rattle.mx_scripts.proofs.StateLemmas.{brings_one}

-- ---- reports

pub nothing_printed : (o : Sight) (r : Report) → Printed o o r r
nothing_printed o r = record { done = []; held = Appends-nil o.held; splits = refl; refused = refl; stays = refl }

module _ {o m : Sight} {r more : Report} (printed : Printed o m r more) where
  -- a run that lacks memory, or whose output refuses
  pub lacks : (res : Result ℕ Stop) → IsErrAnd res (λ s. s ≡ stop.Memory) → Prints (IsReport r) o m res
  lacks res is = rw (err_is res stop.Memory is) (run_lacks printed)

  pub refuses : (n : Sight) (f : OutputFault) (res : Result ℕ Stop) → IsErrAnd res (λ s. s ≡ stop_of f) → Keeps m.held n.held → n.refused ≡ refused_by {T = ⊤} (Err f) m.refused → n.takes_all ≡ m.takes_all
      → (m.takes_all ≡ true → f ≡ output_fault.Memory) → Prints (IsReport r) o n res
  refuses n f res is keeps refused stays takes = rw (err_is res (stop_of f) is) (run_refused printed n f keeps refused stays takes)

-- what is left of a report: these texts, and the last
abbrev pub left : {H S M : Type 0} → Core H S M → Fields → View → (S → List Known) → Text → RunState S M → List Text → Report
left core p view knows fault last texts = record { texts = texts ++ (fault ++ closing_shown core p view knows last) ∷ []; end = has_status 0 }

not_fault : (f : Fault) → ◌≡◌ {A = End} (has_status 0) (has_fault f) → ⊥
not_fault f e = cc

not_line : (t : Text) → ◌≡◌ {A = End} (has_status 0) (has_line t) → ⊥
not_line t e = cc

other_end : (r : Report) (e : End) (takes : Bool) (a b : Held) → r.end ≡ has_status 0 → (has_status 0 ≡ e → ⊥) → ShowsOne (IsReport r) takes a b (comes_to e) → ⊥
other_end r e takes a b well not (inl early) = early.0
other_end r e takes a b well not (inr shown) = not (sym well ∙ ap (λ (q : Report). q.end) (sym shown.1) ∙ shown.2.0)

module _ (P : Report → Type 0) (r : Report) (end : End) (is : P (ends_by end r)) where
  refused_as : (takes : Bool) (a b : Held) → ShowsOne (IsReport r) takes a b is_refused → ShowsOne P takes a b is_refused
  refused_as takes a b (inl early) = inl early
  refused_as takes a b (inr shown) = inr (ends_by end r, is, subst (λ (q : Report). (takes ≡ false) × AppendsSome a b q.texts) shown.1 shown.2)

  short_as : (takes : Bool) (a b : Held) → ShowsOne (IsReport r) takes a b is_short → ShowsOne P takes a b is_short
  short_as takes a b (inl early) = inl early
  short_as takes a b (inr shown) = inr (ends_by end r, is, subst (λ (q : Report). AppendsSome a b q.texts) shown.1 shown.2)

  whole_in : (takes : Bool) (a b : Held) (status : ℕ) → ShowsOne (IsReport r) takes a b (comes_to (has_status status)) → Appends a b (concat r.texts)
  whole_in takes a b status (inl early) = absurd early.0
  whole_in takes a b status (inr shown) = subst (λ (q : Report). Appends a b (concat q.texts)) shown.1 shown.2.1

  module _ (o n : Sight) where
    -- a run that stops before its end
    stopped_prints : r.end ≡ has_status 0 → (s : Stop) → Prints (IsReport r) o n (Err s) → Prints P o n (Err s)
    stopped_prints well (stop.Fault f) h = absurd (other_end r (has_fault f) o.takes_all o.held n.held well (not_fault f) h.shows)
    stopped_prints well (stop.Line line) h = absurd (other_end r (has_line (string_bytes line)) o.takes_all o.held n.held well (not_line (string_bytes line)) h.shows)
    stopped_prints well stop.Writer h = record { shows = refused_as o.takes_all o.held n.held h.shows; refused = h.refused; stays = h.stays }
    stopped_prints well stop.Memory h = record { shows = short_as o.takes_all o.held n.held h.shows; refused = h.refused; stays = h.stays }

    -- a run that comes to its end, and then stops with a line
    ended_prints : (status : ℕ) (text : Text) (s : Stop) → end ≡ has_line text → IsStopWith text s → Prints (IsReport r) o n (Ok status) → Prints P o n (Err s)
    ended_prints status text (stop.Line line) ended same h = record {
      shows = inr (ends_by end r, is, (ended ∙ ap has_line (sym same), whole_in o.takes_all o.held n.held status h.shows));
      refused = h.refused;
      stays = h.stays;
    }
    ended_prints status text (stop.Fault f) ended same h = absurd same
    ended_prints status text stop.Writer ended same h = absurd same
    ended_prints status text stop.Memory ended same h = record {
      shows = inr (ends_by end r, is, all_some o.held n.held r.texts (whole_in o.takes_all o.held n.held status h.shows));
      refused = h.refused;
      stays = h.stays;
    }

-- memory ran out before anything was printed
pub lacks_all : (P : Report → Type 0) (o : Sight) (res : Result ℕ Stop) → IsErrAnd res (λ s. s ≡ stop.Memory) → Prints P o o res
lacks_all P o res is = rw (err_is res stop.Memory is) (memory_prints P o)

-- a script that is not in UTF-8
pub not_text_prints : (p : Fields) (view : View) (script : Text) (o : Sight) (s : Stop) → HasLine (IsNotText script) s → Prints (IsShownScript p view script) o o (Err s)
not_text_prints p view script o (stop.Line line) h = line_prints (IsShownScript p view script) (string_bytes line) o (stop.Line line) (inl (string_bytes line, h, refl)) refl
not_text_prints p view script o (stop.Fault fault) h = absurd h
not_text_prints p view script o stop.Writer h = absurd h
not_text_prints p view script o stop.Memory h = memory_prints (IsShownScript p view script) o

-- a script that is shown by the algorithm of its plan
pub shape_prints : (p : Fields) (view : View) (script : Text) (o n : Sight) (res : Result ℕ Stop) (shape : Shape) (Q : Report → Type 0) → p.shape ≡ shape → ((r : Report) → Q r → IsShownBy p view script r shape)
    → Prints Q o n res → Prints (λ r. IsShownBy p view script r p.shape) o n res
shape_prints p view script o n res shape Q is by h =
    prints_as Q (λ r. IsShownBy p view script r p.shape) (λ r shown. subst (λ (s : Shape). IsShownBy p view script r s) (sym is) (by r shown)) o n res h

-- two states at the start of a plan
pub starts_alike : {H S M : Type 0} (core : Core H S M) (p : Fields) (shape : H) (n : ℕ) (state start : RunState S M) → state ≡ before_any (at_rest core p shape) → start ≡ before_any (at_rest core p shape)
    → core.count shape ≡ n → (state ≡ start) × (length start.cluster.members ≡ n)
starts_alike {H} {S} {M} core p shape n state start x y count = (x ∙ sym y, members_at_rest core p shape n start.cluster (ap (λ (s : RunState S M). s.cluster) y) count)

-- ---- a loop over what happened

module _ {H S M : Type 0} (core : Core H S M) (parts : M → Parts) (p : Fields) (view : View) (knows : S → List Known) where
  abbrev Shown : RunState S M → List Happening → RunState S M → List Text → Type 0
  Shown old hs new texts = ShowsAll core parts p view knows old hs new texts

  -- what stands at a place of the list comes first of what is left
  pub shown_at : (hs : List Happening) (i : ℕ) (h : Happening) (now last : RunState S M) (texts : List Text) → h ≡ get_or hs i h → i < length hs → Shown now (drop i hs) last texts
      → Shown now (h ∷ drop (i + 1) hs) last texts
  shown_at hs i h now last texts is lt x =
      subst (λ (first : Happening). Shown now (first ∷ drop (i + 1) hs) last texts) (sym is)
      (subst (λ (l : List Happening). Shown now l last texts) (drop-cons hs i h lt ∙ ap (λ (n : ℕ). get_or hs i h ∷ drop n hs) (sym (add-one i))) x)

  -- and then the rest happens
  pub shown_next : (h : Happening) (hs : List Happening) (now next last : RunState S M) (texts : List Text) → Brings core now h.event next → Shown now (h ∷ hs) last texts
      → (rest : List Text) × (texts ≡ happening_text core parts p view knows h now next ∷ rest) × Shown next hs last rest
  shown_next h hs now next last texts brings x =
      let same : x.0 ≡ next = brings_one core h.event now x.0 next x.3 brings in (
        x.1,
        x.4 ∙ ap (λ (s : RunState S M). happening_text core parts p view knows h now s ∷ x.1) same,
        subst (λ (s : RunState S M). Shown s hs last x.1) same x.5,
      )

  pub shown_end : (hs : List Happening) (i : ℕ) (now last : RunState S M) (texts : List Text) → length hs ≤ i → Shown now (drop i hs) last texts → (last ≡ now) × (texts ≡ [])
  shown_end hs i now last texts le x = subst (λ (l : List Happening). Shown now l last texts) (drop_all i hs le) x

  -- ---- what the lines of a script did

  module _ (script : Text) (first state now : RunState S M) (same : state ≡ first) (again : now ≡ first) (happened hs : List Happening) (listed : hs ≡ happened) (o : Option RefusedLine)
      (does : HasDone core p (lines script) state happened o) where
    done : HasDone core p (lines script) now hs o
    done =
        subst (λ (s : RunState S M). HasDone core p (lines script) s hs o) (same ∙ sym again)
        (subst (λ (l : List Happening). HasDone core p (lines script) state l o) (sym listed) does)

    shown_done : (texts : List Text) × Shown now hs done.0 texts
    shown_done = reached_shown core parts p view knows (lines script) hs o now done.0 done.1

    -- it can be shown
    pub can_show : CanShow core parts p view knows now hs
    can_show = (done.0, shown_done.0, shown_done.1)

    -- and is what is printed of the script
    pub prints_done : (a b : Sight) (res : Result ℕ Stop)
        → ((last : RunState S M) (texts : List Text) → Shown now hs last texts → Prints (IsShownTo core parts p view knows now texts last o) a b res)
        → Prints (IsShownOf core parts p view knows first script) a b res
    prints_done a b res prints =
        subst (λ (s : RunState S M). Prints (IsShownOf core parts p view knows s script) a b res) again
        (prints_as (IsShownTo core parts p view knows now shown_done.0 done.0 o) (IsShownOf core parts p view knows now script)
        (λ r is. (hs, o, done.0, shown_done.0, done.1, shown_done.1, is)) a b res (prints done.0 shown_done.0 shown_done.1))

  -- ---- a line that is refused

  module _ (start last : RunState S M) (texts : List Text) (refused : RefusedLine) where
    -- it is not shown
    pub line_alone : shows_asides view ≡ false → IsShownTo core parts p view knows start texts last (Some refused) (ends (line_of refused))
    line_alone hidden =
        let fault : Text = codes "{\"line\":" ++ decimal refused.number ++ codes ",\"fault\":\"" ++ fault_text refused.fault ++ codes "\",\"message\":" ++ [] ++ codes "}\n" in
        let shown : Report = ends_by (line_of refused) (report_shown core parts p view knows start texts fault last) in
        (fault, ([], refl), ap (λ (b : Bool). if b then shown else ends (line_of refused)) (sym hidden))

    -- or after what the lines before it did
    module _ (before after fault : Text) (seen : shows_asides view ≡ true) (empty : before ≡ []) (whole : fault ≡ after) (is : IsFaultJson refused before after) (a b : Sight) where
      abbrev report : Report
      report = report_shown core parts p view knows start texts fault last

      line_after : IsShownTo core parts p view knows start texts last (Some refused) (ends_by (line_of refused) report)
      line_after = (
        fault,
        subst (λ (t : Text). IsFaultJson refused t fault) empty (subst (λ (t : Text). IsFaultJson refused before t) (sym whole) is),
        ap (λ (b : Bool). if b then ends_by (line_of refused) report else ends (line_of refused)) (sym seen),
      )

      pub line_stopped : (s : Stop) (res : Result ℕ Stop) → IsErrAnd res (λ e. e ≡ s) → Prints (IsReport report) a b (Err s) → Prints (IsShownTo core parts p view knows start texts last (Some refused)) a b res
      line_stopped s res stops h =
          rw (err_is res s stops) (stopped_prints (IsShownTo core parts p view knows start texts last (Some refused)) report (line_of refused) line_after a b refl s h)

      pub line_ended : (status : ℕ) (s : Stop) → IsStopWith (script_line refused.number refused.fault (string_bytes refused.message)) s → Prints (IsReport report) a b (Ok status)
          → Prints (IsShownTo core parts p view knows start texts last (Some refused)) a b (Err s)
      line_ended status s stops h =
          ended_prints (IsShownTo core parts p view knows start texts last (Some refused)) report (line_of refused) line_after a b status
          (script_line refused.number refused.fault (string_bytes refused.message)) s refl stops h
