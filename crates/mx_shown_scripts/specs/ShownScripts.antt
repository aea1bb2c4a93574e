-- What `replay` shows of a script: of each event what it shows of events and, in JSON, also the line
-- that caused it, each lost parcel, each change of links, and a line that is refused.
use Rattle.std.specs.Prelude.{ℕ, ◌≡◌, ◌⊎◌, ◌&&◌, ◌||◌, ◌==◌, Bool, true, false, List, [], ◌∷◌, ◌++◌, Option, Some, None, if◌then◌else◌, length, not, slice_get, string_bytes}
use Rattle.std.specs.Str.Lines.{lines}
use Rattle.mx_knowledge.specs.Facts.{Known}
use Rattle.mx_nodelaws.specs.Core.{Core}
use Rattle.mx_ricart.specs.Step.{ricart_core}
use Rattle.mx_ricart.specs.Knows.{known_of as ricart_known}
use Rattle.mx_maekawa.specs.Step.{maekawa_core}
use Rattle.mx_maekawa.specs.Knows.{known_of as maekawa_known}
use Rattle.mx_raymond.specs.Step.{raymond_core}
use Rattle.mx_raymond.specs.Knows.{known_of as raymond_known}
use Rattle.mx_member.specs.declared.parcel.Parcel.{Parcel}
use Rattle.mx_plan.specs.Text.{Text}
use Rattle.mx_plan.specs.Fields.{Fields}
use Rattle.mx_plan.specs.declared.shape.Shape.{Shape}
use Rattle.mx_plan.specs.declared.shape.Shape.TheVariants.{Ricart, Maekawa, Raymond}
use Rattle.mx_format.specs.Lines.{texts_from}
use Rattle.mx_format.specs.Parts.{Parts, maekawa_parts, raymond_parts, ricart_parts}
use Rattle.mx_lines.specs.declared.orders.LinkChange.{LinkChange}
use Rattle.mx_lines.specs.declared.orders.LinkChange.TheVariants.{Cut, CutAll, HealLink, HealNode, Heal}
use Rattle.mx_cli.specs.Printing.{End, Report, ends, has_line, has_status}
use Rattle.mx_driver.specs.Runs.{at_rest}
use Rattle.mx_driver.specs.Shown.{closing_with, shown_member, shows, shows_parcel, step_text, where_shown}
use Rattle.mx_driver.specs.declared.view.View.{View}
use Rattle.mx_shown_scripts.specs.Happenings.{Reaches}
use Rattle.mx_shown_scripts.specs.Objects.{IsFaultJson, change_json, line_json, lost_json}
use Rattle.mx_event_files.specs.ScriptFiles.{IsNotText}
use Rattle.mx_scripts.specs.Failures.{script_line}
use Rattle.mx_scripts.specs.Standstill.{stuck_in}
use Rattle.mx_scripts.specs.States.{Brings, IsAllowed, RunState, before_any}
use Rattle.mx_event_files.specs.declared.happening.Happening.{Happening}
use Rattle.mx_scripts.specs.declared.line_failure.RefusedLine.{RefusedLine}
use Rattle.mx_scripts.specs.declared.state.SessionEvent.{SessionEvent}
use Rattle.mx_scripts.specs.declared.state.SessionEvent.TheVariants.{Happens, IsLost, LinksChange}

-- what a line did and, in JSON, before it the line, unless nothing is shown
abbrev pub with_line : Bool → ℕ → Text → Text
with_line is_json number shown =
    (if is_json && not (length shown == 0) then line_json number else []) ++ shown

-- the sender or the addressee of the parcel is shown
abbrev pub shows_sent : {M : Type 0} → Option ℕ → Option (ℕ × ℕ × Parcel M) → Bool
shows_sent wanted None = false
shows_sent wanted (Some parcel) = shows_parcel wanted parcel

-- an end of the links that change is shown
abbrev pub shows_change : Option ℕ → LinkChange → Bool
shows_change wanted (Cut one other) = shows wanted one || shows wanted other
shows_change wanted (CutAll i) = shows wanted i
shows_change wanted (HealLink one other) = shows wanted one || shows wanted other
shows_change wanted (HealNode i) = shows wanted i
shows_change wanted Heal = true

module _ (view : View) where
  -- what a script does beside events is shown
  abbrev pub shows_asides : Bool
  shows_asides = view.is_json && not view.is_quiet

  abbrev pub lost_shown : {M : Type 0} → ℕ → Option (ℕ × ℕ × Parcel M) → Text
  lost_shown k parcel = where_shown (shows_asides && shows_sent view.node parcel) (lost_json k)

abbrev pub change_shown : Fields → View → LinkChange → Text
change_shown p view change =
    where_shown (shows_asides view && shows_change view.node change) (change_json p change)

module _ {H S M : Type 0} (core : Core H S M) (parts : M → Parts) (p : Fields) (view : View)
    (knows : S → List Known) where
  -- what is shown of an event that leads from one state to another
  abbrev pub event_shown : SessionEvent → RunState S M → RunState S M → Text
  event_shown (Happens e) old new =
      step_text core parts p view knows (length old.cluster.trace) old.cluster new.cluster
  event_shown (IsLost k) old new = lost_shown view k (slice_get new.cluster.sent k)
  event_shown (LinksChange change) old new = change_shown p view change

  abbrev pub happening_text : Happening → RunState S M → RunState S M → Text
  happening_text h old new = with_line view.is_json h.line (event_shown h.event old new)

  -- all this happens in turn, each in a state that allows it, and these are the texts
  abbrev pub ShowsAll : RunState S M → List Happening → RunState S M → List Text → Type 0
  ShowsAll old [] new texts = (new ≡ old) × (texts ≡ [])
  ShowsAll old (h ∷ hs) new texts =
      (mid : RunState S M) × (rest : List Text) × IsAllowed old h.event
      × Brings core old h.event mid × (texts ≡ happening_text h old mid ∷ rest)
      × ShowsAll mid hs new rest

  abbrev pub CanShow : RunState S M → List Happening → Type 0
  CanShow old happened =
      (last : RunState S M) × (texts : List Text) × ShowsAll old happened last texts

module _ {H S M : Type 0} (core : Core H S M) (p : Fields) (view : View) (knows : S → List Known)
  where
    -- the nodes before the first event
    abbrev pub starts_shown : RunState S M → Text
    starts_shown s =
        where_shown (view.is_json && not view.is_quiet && view.has_state)
        (texts_from (shown_member p view core knows) 0 s.cluster.members)

    -- the closing lines; a lost parcel is not under way
    abbrev pub closing_shown : RunState S M → Text
    closing_shown s = closing_with p view core knows (stuck_in core knows s) s.cluster

-- the end at a line that is refused
abbrev pub line_of : RefusedLine → End
line_of refused =
    has_line (script_line refused.number refused.fault (string_bytes refused.message))

-- the same texts, and another end
abbrev pub ends_by : End → Report → Report
ends_by end r = record { texts = r.texts; end = end }

module _ {H S M : Type 0} (core : Core H S M) (parts : M → Parts) (p : Fields) (view : View)
    (knows : S → List Known) where
  -- these texts of what happens from one state to another, between the nodes before and the closing
  -- lines; `fault` stands before the closing lines
  abbrev pub report_shown : RunState S M → List Text → Text → RunState S M → Report
  report_shown start texts fault last = record {
    texts = starts_shown core p view knows start
        ∷ (texts ++ ((fault ++ closing_shown core p view knows last) ∷ []));
    end = has_status 0;
  }

  -- the same of all lines that were done; or of those before the line that is refused, which ends
  -- the report, if a refused line is shown: else the report has only the line of the fault
  abbrev pub IsShownTo : RunState S M → List Text → RunState S M → Option RefusedLine → Report
      → Type 0
  IsShownTo start texts last None r = r ≡ report_shown start texts [] last
  IsShownTo start texts last (Some refused) r =
      (fault : Text) × IsFaultJson refused [] fault
      × (r ≡ (if shows_asides view
      then ends_by (line_of refused) (report_shown start texts fault last)
      else ends (line_of refused)))

  -- what is shown of what the lines of a script do, from a state on
  abbrev pub IsShownOf : RunState S M → Text → Report → Type 0
  IsShownOf start script r =
      (happened : List Happening) × (refused : Option RefusedLine) × (last : RunState S M)
      × (texts : List Text) × Reaches core p (lines script) start happened refused last
      × ShowsAll core parts p view knows start happened last texts
      × IsShownTo start texts last refused r

-- what is shown of a script in the cluster of a plan, at rest
abbrev pub IsShownBy : Fields → View → Text → Report → Shape → Type 0
IsShownBy p view script r (Ricart count) =
    IsShownOf ricart_core ricart_parts p view ricart_known
    (before_any (at_rest ricart_core p count)) script r
IsShownBy p view script r (Maekawa family) =
    IsShownOf maekawa_core maekawa_parts p view maekawa_known
    (before_any (at_rest maekawa_core p family)) script r
IsShownBy p view script r (Raymond tree) =
    IsShownOf raymond_core raymond_parts p view raymond_known
    (before_any (at_rest raymond_core p tree)) script r

-- the same; or the line that is printed of a script that is not in UTF-8
abbrev pub IsShownScript : Fields → View → Text → Report → Type 0
IsShownScript p view script r =
    ((line : Text) × IsNotText script line × (r ≡ ends (has_line line)))
    ⊎ IsShownBy p view script r p.shape
