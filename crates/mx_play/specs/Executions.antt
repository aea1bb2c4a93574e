-- What the commands of a session do.
use Rattle.std.specs.Prelude.{ℕ, ◌≡◌, ◌<◌, ◌-◌, List, [], ◌∷◌, ◌++◌, Option, Some, None, codes, length, string_bytes}
use Rattle.std.specs.Str.{IsUtf8, trim}
use Rattle.mx_nodelaws.specs.Core.{Core}
use Rattle.mx_lines.specs.declared.commands.SessionCommand.{SessionCommand}
use Rattle.mx_lines.specs.declared.commands.SessionCommand.TheVariants.{Does, Expects, Undo, Redo, Show, Events, Script, Save, Mark, Help, End, Nothing}
use Rattle.mx_lines.specs.declared.line.Line.{Line}
use Rattle.mx_plan.specs.Text.{Text}
use Rattle.mx_plan.specs.Fields.{Fields}
use Rattle.mx_knowledge.specs.Facts.{Known}
use Rattle.mx_scripts.specs.Expectations.{IsMet, IsNotMet}
use Rattle.mx_format.specs.Files.{file_text, events_of}
use Rattle.mx_scripts.specs.Lines.{Repeats, StopsWithin}
use Rattle.mx_events.specs.Arguments.{AreEventsWithin}
use Rattle.mx_scripts.specs.declared.line_failure.LineFailure.{LineFailure}
use Rattle.mx_scripts.specs.declared.line_failure.LineFailure.TheVariants.{Memory}
use Rattle.mx_scripts.specs.declared.state.SessionEvent.{SessionEvent}
use Rattle.mx_play.specs.Commands.{IsSecondWord}
use Rattle.mx_play.specs.Help.{words_text}
use Rattle.mx_play.specs.Histories.{Leads, Makes, events_in, first_state}
use Rattle.mx_play.specs.Printed.{saved_line, steps_text}
use Rattle.mx_play.specs.Sessions.{SessionState, Undone, line_events}
use Rattle.mx_play.specs.SessionScripts.{session_script}
use Rattle.mx_play.specs.Views.{mark_line, view_text}
use Rattle.mx_play.specs.declared.input_fault.InputFault.{InputFault}
use Rattle.mx_play.specs.declared.input_fault.InputFault.TheVariants as input_fault
use Rattle.mx_play.specs.declared.session.DoneLine.{DoneLine}

-- the names under which texts were saved, in order, each with its text
abbrev pub Saved : Type 0
Saved = List (Text × Text)

-- nothing changed, and this was printed
pub record ShowsOnly {S M : Type 0} (what : Text) (old new : SessionState S M) (text : Text)
    : Type 0 where
  pub same : new ≡ old
  pub printed : text ≡ what

module _ {S M : Type 0} (Does : Type 0) (IsFaultOf : InputFault → Type 0) where
  -- a command does what it is to do; or it is refused with a fault that it can have, and nothing
  -- changed
  abbrev pub DoesOr : Option InputFault → SessionState S M → SessionState S M → Text → Type 0
  DoesOr None old new text = Does
  DoesOr (Some fault) old new text = IsFaultOf fault × ShowsOnly [] old new text

module _ {S M : Type 0} (s : SessionState S M) where
  -- `undo` is refused with this fault: fewer lines were done
  abbrev pub CanRefuseUndo : ℕ → InputFault → Type 0
  CanRefuseUndo count fault =
      (length s.lines < count) × (fault ≡ input_fault.TooFew (length s.lines))

  -- `redo` is refused with this fault: there is no undo
  abbrev pub CanRefuseRedo : InputFault → Type 0
  CanRefuseRedo fault = (s.undone ≡ []) × (fault ≡ input_fault.NoUndo)

module _ {H S M : Type 0} (core : Core H S M) where
  -- the last `count` lines are undone, and kept for `redo`: the session is in the state to which the
  -- lines before them lead
  pub record IsUndone (p : Fields) (shape : H) (count : ℕ) (old new : SessionState S M)
      (text : Text) : Type 0 where
    pub last : Undone
    pub lines : old.lines ≡ new.lines ++ last.items
    pub counted : length last.items ≡ count
    pub undone : new.undone ≡ old.undone ++ last ∷ []
    pub leads : Leads core (first_state core p shape) (line_events new.lines) new.state
    pub printed : text
        ≡ steps_text (codes "undone") last.items (length old.state.cluster.trace
        - length new.state.cluster.trace)

  -- the lines that were undone last are done again
  pub record IsRedone (old new : SessionState S M) (text : Text) : Type 0 where
    pub last : Undone
    pub undone : old.undone ≡ new.undone ++ last ∷ []
    pub lines : new.lines ≡ old.lines ++ last.items
    pub leads : Leads core old.state (line_events last.items) new.state
    pub printed : text
        ≡ steps_text (codes "redone") last.items (length new.state.cluster.trace
        - length old.state.cluster.trace)

  -- a line of a script is refused with this fault: its order stops, which is not for want of memory
  abbrev pub CanRefuseLine : Line → SessionState S M → InputFault → Type 0
  CanRefuseLine line s fault =
      (why : LineFailure) × StopsWithin core line.order line.times s.state why
      × ¬ (why ≡ Memory) × (fault ≡ input_fault.Line why)

-- what is printed of a line of a script that was done: the text of its events, or that it has none
abbrev pub line_text : List SessionEvent → Text → Text
line_text [] made = codes "nothing to do\n"
line_text (e ∷ es) made = made

module _ {H S M : Type 0} (core : Core H S M) (letter_text : Fields → M → Text) where
  -- what a line of a script asks for happened, as often as the line says, and was printed; its
  -- events name only nodes and registers of the plan
  pub record IsDone (p : Fields) (line : Line) (from : Text) (old new : SessionState S M)
      (text : Text) : Type 0 where
    pub last : DoneLine
    pub typed : IsUtf8 from → string_bytes last.text ≡ trim from
    pub repeats : Repeats core line.order line.times old.state last.events.items new.state
    pub made : Text
    pub makes : Makes core letter_text p old.state last.events.items new.state made
    pub printed : text ≡ line_text last.events.items made
    pub over : AreEventsWithin (length p.nodes) (length p.registers) (events_in last.events.items)
    pub lines : new.lines ≡ old.lines ++ last ∷ []
    pub undone : new.undone ≡ []

module _ {S M : Type 0} (from : Text) (s : SessionState S M) where
  -- the newest item has the outcome that the line `from` expects
  abbrev pub IsAsExpected : Type 0
  IsAsExpected = IsUtf8 from → IsMet from s.state.cluster.trace

  -- the line `from` is refused with this fault: there is no item, or the newest has another outcome
  abbrev pub CanRefuseOutcome : InputFault → Type 0
  CanRefuseOutcome fault =
      (why : LineFailure) × (IsUtf8 from → IsNotMet from s.state.cluster.trace why)
      × (fault ≡ input_fault.Line why)

  abbrev pub HasExpected : Option InputFault → Type 0
  HasExpected None = IsAsExpected
  HasExpected (Some fault) = CanRefuseOutcome fault

-- a file is refused with this fault: it cannot be written
abbrev pub CanRefuseSave : InputFault → Type 0
CanRefuseSave fault = fault ≡ input_fault.Unwritten

-- the script of these lines was saved under the name, and that was printed; or it was refused, and
-- nothing was saved or printed
abbrev pub HasSaved : Option InputFault → Fields → List DoneLine → Text → Saved → Text → Text
    → Type 0
HasSaved None p lines word saved old new =
    (saved ≡ (word, session_script p lines) ∷ []) × (new ≡ old ++ saved_line word)
HasSaved (Some fault) p lines word saved old new =
    CanRefuseSave fault × (saved ≡ []) × (new ≡ old)

-- the command of the line `from` is refused with this fault: the line stops or expects another
-- outcome, fewer lines were done than it undoes, nothing was undone that it could redo, or its file
-- cannot be written. Other commands are never refused
abbrev pub CanRefuse : {H S M : Type 0} → Core H S M → SessionCommand → Text → SessionState S M
    → InputFault → Type 0
CanRefuse core (Does line) from s fault = CanRefuseLine core line s fault
CanRefuse core Expects from s fault = CanRefuseOutcome from s fault
CanRefuse core (Undo count) from s fault = CanRefuseUndo s count fault
CanRefuse core Redo from s fault = CanRefuseRedo s fault
CanRefuse core Save from s fault = CanRefuseSave fault
CanRefuse core _ from s fault = ⊥

module _ {H S M : Type 0} (core : Core H S M) (letter_text : Fields → M → Text)
    (knows : S → List Known) (p : Fields) (shape : H) where
  -- the command of the line `from` leads from one session to another, and prints the text; only
  -- `save` saves something: the script of the session, under the second word of the line
  abbrev pub Executes : SessionCommand → Text → SessionState S M → SessionState S M → Text → Saved
      → Type 0
  Executes (Does line) from old new text saved =
      IsDone core letter_text p line from old new text × (saved ≡ [])
  Executes Expects from old new text saved =
      IsAsExpected from old × ShowsOnly [] old new text × (saved ≡ [])
  Executes (Undo count) from old new text saved =
      IsUndone core p shape count old new text × (saved ≡ [])
  Executes Redo from old new text saved = IsRedone core old new text × (saved ≡ [])
  Executes (Show to) from old new text saved =
      ShowsOnly (view_text core letter_text p knows to old.state) old new text × (saved ≡ [])
  Executes Events from old new text saved =
      ShowsOnly (file_text p (events_of old.state.cluster.trace)) old new text × (saved ≡ [])
  Executes Script from old new text saved =
      ShowsOnly (session_script p old.lines) old new text × (saved ≡ [])
  Executes Save from old new text saved =
      (word : Text) × (IsUtf8 from → IsSecondWord from word)
      × ShowsOnly (saved_line word) old new text
      × (saved ≡ (word, session_script p old.lines) ∷ [])
  Executes Mark from old new text saved =
      (word : Text) × (IsUtf8 from → IsSecondWord from word)
      × ShowsOnly (mark_line word) old new text × (saved ≡ [])
  Executes Help from old new text saved = ShowsOnly words_text old new text × (saved ≡ [])
  Executes End from old new text saved = ShowsOnly [] old new text × (saved ≡ [])
  Executes Nothing from old new text saved = ShowsOnly [] old new text × (saved ≡ [])

  -- a command that is refused saves nothing
  abbrev pub HasExecuted : Option InputFault → SessionCommand → Text → SessionState S M
      → SessionState S M → Text → Saved → Type 0
  HasExecuted fault command from old new text saved =
      DoesOr (Executes command from old new text saved)
      (λ why. CanRefuse core command from old why × (saved ≡ [])) fault old new text
