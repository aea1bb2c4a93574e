-- What a session prints and saves of its lines.
use Rattle.std.specs.Prelude.{ℕ, ◌≡◌, ◌⊎◌, ◌+◌, Bool, true, false, List, [], ◌∷◌, ◌++◌, Option, Some, None, IfSome, length}
use Rattle.std.specs.Io.KnownBytes.{Appends}
use Rattle.mx_nodelaws.specs.Core.{Core}
use Rattle.mx_network.specs.Step.{RunsTo}
use Rattle.mx_lines.specs.declared.commands.SessionCommand.{SessionCommand}
use Rattle.mx_plan.specs.Text.{Text}
use Rattle.mx_plan.specs.Fields.{Fields}
use Rattle.mx_knowledge.specs.Facts.{Known}
use Rattle.mx_cli.specs.Reports.{Seen}
use Rattle.mx_io.specs.Stored.{Stored, Stores}
use Rattle.mx_driver.specs.Runs.{closing_text}
use Rattle.mx_events.specs.Arguments.{AreEventsWithin}
use Rattle.mx_play.specs.Commands.{AsksFor, HasFault, ends}
use Rattle.mx_play.specs.Executions.{HasExecuted, Saved, ShowsOnly}
use Rattle.mx_play.specs.Histories.{events_in}
use Rattle.mx_play.specs.Lines.{lines_of}
use Rattle.mx_play.specs.Printed.{AreAsides, IsReported}
use Rattle.mx_play.specs.Sessions.{SessionState, at_start, line_events}
use Rattle.mx_play.specs.declared.input_fault.InputFault.{InputFault}

module _ {H S M : Type 0} (core : Core H S M) (letter_text : Fields → M → Text)
    (knows : S → List Known) (p : Fields) (shape : H) where
  -- a line prints this text, saves this, and has this fault or none: its command is executed or
  -- refused; or the line has the fault itself, and does nothing. `is_last` says whether the line ends
  -- the session
  abbrev pub Does : Text → Option InputFault → Bool → SessionState S M → SessionState S M → Text
      → Saved → Type 0
  Does line fault is_last old new text saved =
      ((command : SessionCommand) × AsksFor p line command
      × HasExecuted core letter_text knows p shape fault command line old new text saved
      × (is_last ≡ ends command))
      ⊎ ((why : InputFault) × HasFault p line why × (fault ≡ Some why) × (is_last ≡ false)
      × ShowsOnly [] old new text × (saved ≡ []))

  -- what line k does and saves, and what the outputs get of it: standard output its text; standard
  -- error prompts, and then the line of its fault, if it has one
  pub record PlaysLine (k : ℕ) (line : Text) (is_last : Bool) (old new : SessionState S M)
      (out err : Text) (saved : Saved) : Type 0 where
    pub fault : Option InputFault
    pub does : Does line fault is_last old new out saved
    pub prompts : Text
    pub asides : AreAsides prompts
    pub said : Text
    pub reported : IsReported k fault said
    pub errors : err ≡ prompts ++ said

  -- these lines are done in turn, from line k on; the outputs get these texts, and this is saved. If a
  -- line ends the session, the lines after it do nothing, and there is no `next`. Otherwise `next` is
  -- the number of the line that follows
  abbrev pub Plays : ℕ → List Text → Option ℕ → SessionState S M → SessionState S M → Text → Text
      → Saved → Type 0
  Plays k [] next old new out err saved =
      (next ≡ Some k) × (new ≡ old) × (out ≡ []) × AreAsides err × (saved ≡ [])
  Plays k (line ∷ lines) next old new out err saved =
      ((next ≡ None) × PlaysLine k line true old new out err saved)
      ⊎ ((mid : SessionState S M) × (first rest told more : Text) × (one others : Saved)
      × PlaysLine k line false old mid first told one × (out ≡ first ++ rest)
      × (err ≡ told ++ more) × (saved ≡ one ++ others)
      × Plays (k + 1) lines next mid new rest more others)

  -- the same of lines that may not be known: then of some lines
  pub record ArePlayed (k : ℕ) (lines : Option (List Text)) (next : Option ℕ)
      (old new : SessionState S M) (out out' : Seen) (store store' : Stored) : Type 0 where
    pub all : List Text
    pub are : IfSome lines (λ known. all ≡ known)
    pub text : Text
    pub told : Text
    pub saved : Saved
    pub plays : Plays k all next old new text told saved
    pub stores : Stores store store' saved
    pub printed : Appends out.out out'.out text
    pub reports : Appends out.err out'.err told

  -- a whole session: of the lines of a script and then of those that come, from the start. At its
  -- end, standard output gets the closing lines of the last cluster. The store gets what the lines save,
  -- in order, and nothing else. The lines that were not undone
  -- lead to that cluster, and name only nodes and registers of the plan
  pub record IsPlayed (script : Text) (lines : Option (List Text)) (out out' : Seen)
      (store store' : Stored) : Type 0 where
    pub others : List Text
    pub are : IfSome lines (λ known. others ≡ known)
    pub next : Option ℕ
    pub last : SessionState S M
    pub text : Text
    pub told : Text
    pub saved : Saved
    pub plays : Plays 1 (lines_of script ++ others) next (at_start core p shape) last text told
        saved
    pub stores : Stores store store' saved
    pub replays : RunsTo core (at_start core p shape).state.cluster
        (events_in (line_events last.lines)) last.state.cluster
    pub over : AreEventsWithin (length p.nodes) (length p.registers) (events_in (line_events last.lines))
    pub printed : Appends out.out out'.out
        (text ++ closing_text core letter_text p last.state.cluster)
    pub reports : Appends out.err out'.err told
