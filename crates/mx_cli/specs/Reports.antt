-- What the two outputs get for help, for wrong words, for a fault, and if memory ran out.
use Rattle.std.specs.Prelude.{◌≡◌, ◌⊎◌, ℕ, Bool, List, false, true}
use Rattle.std.specs.Io.KnownBytes.{Appends, Keeps}
use Rattle.clap.specs.Words.{App}
use Rattle.mx_plan.specs.Text.{Text}
use Rattle.mx_io.specs.Outputs.{Held}
use Rattle.mx_io.specs.declared.output.Output.{Ghosts as OutputOf}
use Rattle.mx_cli.specs.FaultLines.{memory_line}
use Rattle.mx_cli.specs.Words.{AreWrong, AskHelp}

-- what is seen of the outputs: what each holds; whether standard output has refused something, and
-- whether it keeps something back
pub record Seen : Type 0 where
  pub out : Held
  pub err : Held
  pub refused : Bool
  pub kept_back : Bool

-- what is seen of the outputs `out` and `err`, as their types define it
abbrev pub seen : {A B : Type 0} → OutputOf A → OutputOf B → A → B → Seen
seen o e out err =
    record {
      out = o.written out;
      err = e.written err;
      refused = o.has_refused out;
      kept_back = o.keeps_back out;
    }

-- standard error got the line that memory ran out, or nothing
abbrev pub MayReport : Held → Held → Type 0
MayReport old new = Keeps old new ⊎ Appends old new memory_line

-- memory ran out before anything was written to standard output: status 5
abbrev pub RunsOut : Seen → Seen → ℕ → Type 0
RunsOut old new status =
    (status ≡ 5) × Keeps old.out new.out × MayReport old.err new.err × (new.refused ≡ old.refused)

-- ---- help, and words that are no command

-- how a request for help ends: standard output has passed on all that it got (status 0), or it
-- refused (status 1), or memory ran out (status 5). Standard error got at most the line that memory
-- ran out
abbrev pub Helps : Bool → Seen → Seen → ℕ → Type 0
Helps takes_all old new status =
    ((status ≡ 0) × Keeps old.err new.err × (new.kept_back ≡ false))
    ⊎ ((status ≡ 1) × (takes_all ≡ false) × (new.refused ≡ true) × Keeps old.err new.err)
    ⊎ ((status ≡ 5) × MayReport old.err new.err × (new.refused ≡ old.refused))

-- how wrong words end: with status 2, or with 5 if memory ran out; standard output got nothing
abbrev pub ReportsUsage : Seen → Seen → ℕ → Type 0
ReportsUsage old new status =
    Keeps old.out new.out × ((status ≡ 2) ⊎ ((status ≡ 5) × MayReport old.err new.err))

-- if the words ask a command line for help, the run ends as `Helps` says; if the words are wrong,
-- as `ReportsUsage` says
abbrev pub HelpsOrRefuses : App → List Text → Bool → Seen → Seen → ℕ → Type 0
HelpsOrRefuses line words takes_all old new status =
    (AskHelp line words → Helps takes_all old new status)
    × (AreWrong line words → ReportsUsage old new status)

-- nothing was written, and the status is 2; or memory ran out, and the status is 5
abbrev pub Declines : Seen → Seen → ℕ → Type 0
Declines old new status =
    Keeps old.out new.out × (((status ≡ 2) × Keeps old.err new.err)
    ⊎ ((status ≡ 5) × MayReport old.err new.err))

-- ---- faults

-- the line of a fault was written, or memory ran out, or the output refused
abbrev pub ReportsFault : Bool → Text → Held → Held → ℕ → Type 0
ReportsFault takes_all line err err' status =
    ((status ≡ 1) × Appends err err' line) ⊎ ((status ≡ 5) × MayReport err err')
    ⊎ ((status ≡ 1) × (takes_all ≡ false) × Keeps err err')
