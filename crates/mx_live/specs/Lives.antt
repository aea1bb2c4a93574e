use Rattle.std.specs.Prelude.{◌≡◌, ◌≢◌, ◌⊎◌, [], ◌∷◌, Bool, true, false, ℕ, ◌*◌, ◌≤◌, ◌<◌, List, Option, Result, Ok, Err, length, IfSome}
use Rattle.std.specs.Io.KnownBytes.{Appends, Keeps}
use Rattle.mx_journal.specs.declared.receipts.Receipt.{Receipt}
use Rattle.mx_journal.specs.Settled.{JournalState}
use Rattle.mx_plan.specs.Fields.{Fields}
use Rattle.mx_plan.specs.Text.{Text}
use Rattle.mx_cli.specs.Requests.{Request, live, task}
use Rattle.mx_cli.specs.declared.request.LiveOptions.{LiveOptions}
use Rattle.mx_cli.specs.declared.stop.Stop.TheVariants as stop
use Rattle.mx_io.specs.Told.{Asks, Telling}
use Rattle.mx_io.specs.Outputs.{Held}
use Rattle.mx_cli.specs.Reading.{IsPlanTold, Reads}
use Rattle.mx_cli.specs.Reports.{Declines, Seen}
use Rattle.mx_jobs.specs.Serial.{AreSerial}
use Rattle.mx_live.specs.declared.live_error.LiveError.{LiveError}
use Rattle.mx_live.specs.declared.live_error.LiveError.TheVariants.{Plan, TooFewSections, TurnsSpent, GateShut, Writer, Memory, NoThread}
use Rattle.mx_live.specs.LiveErrors.{InVain, ReportsError}
use Rattle.mx_live.specs.Progress.{TellsProgress}
use Rattle.mx_live.specs.Shown.{live_text}
use Rattle.mx_live.specs.Together.{ComeOf, HaveSections}

-- the plan allows the requested sections of all nodes together
abbrev pub Fits : LiveOptions → Fields → Type 0
Fits options p = length p.nodes * options.sections ≤ p.sections

-- The output got the text of a whole run: the plan allows all its sections, all workers are done,
-- and the receipts and the journal gathered from their stations are one serial order, in which each
-- node has its sections.
abbrev pub ShowsLive : Option Telling → LiveOptions → Held → Held → Type 0
ShowsLive told options old new =
    (p : Fields) × (receipts : List Receipt) × (journal : JournalState)
    × IsPlanTold told p × Fits options p × ComeOf p options receipts journal
    × AreSerial receipts journal × HaveSections (length p.nodes) options.sections receipts
    × Appends old new (live_text p (length receipts) journal)

-- why the run has no journal: the plan cannot be read or is refused; or it allows too few sections;
-- or some worker is not done, and the first such worker, in order of the nodes, decides the error.
-- `Writer` needs an output that may refuse. `Memory` is possible for every run, and `NoThread` for
-- every run that begins
abbrev pub Halts : Bool → Option Telling → LiveOptions → LiveError → Type 0
Halts takes told options (Plan fault) =
    IfSome told (λ telling. Reads telling (Err (stop.Fault fault)))
Halts takes told options TooFewSections =
    (p : Fields) × IsPlanTold told p × (p.sections < length p.nodes * options.sections)
Halts takes told options TurnsSpent =
    (p : Fields) × IsPlanTold told p × Fits options p × InVain p options TurnsSpent
Halts takes told options GateShut =
    (p : Fields) × IsPlanTold told p × Fits options p × InVain p options GateShut
Halts takes told options Writer = takes ≢ true
Halts takes told options Memory = Unit {0}
Halts takes told options NoThread = (p : Fields) × IsPlanTold told p × Fits options p

-- nothing was printed; or, if memory ran out or the output refused, perhaps the whole text, which
-- the output need not have passed on completely
abbrev pub PrintsLive : Option Telling → LiveOptions → LiveError → Held → Held → Type 0
PrintsLive told options Writer old new = Keeps old new ⊎ ShowsLive told options old new
PrintsLive told options Memory old new = Keeps old new ⊎ ShowsLive told options old new
PrintsLive told options error old new = Keeps old new

-- how the run ended: `Ok` if its journal was printed, and the output has passed all of it on; `Err`
-- if it ended with this error
abbrev pub Ends : Bool → Option Telling → LiveOptions → Held → Held → Bool → Result (Unit {0}) LiveError
    → Type 0
Ends takes told options old new kept_back (Ok done) =
    ShowsLive told options old new × (kept_back ≡ false)
Ends takes told options old new kept_back (Err error) =
    Halts takes told options error × PrintsLive told options error old new

-- the exit status of a run that ended in this way, and what standard error got: after `Ok`, status
-- 0 and nothing; after an error, what `ReportsError` says. `takes` says whether standard error
-- takes all bytes
abbrev pub ClosesLive : Bool → Text → Result (Unit {0}) LiveError → Held → Held → ℕ → Type 0
ClosesLive takes name (Ok done) old new status = (status ≡ 0) × Keeps old new
ClosesLive takes name (Err error) old new status = ReportsError takes name error old new status

-- A live run of the plan of this name, by its outputs before and after it. Standard error gets the lines of progress that
-- were requested, and then, if there is no journal, the line that says why.
pub record Lives (takes takes_err : Bool) (told : Option Telling) (name : Text)
    (options : LiveOptions) (old new : Seen) (status : ℕ) : Type 0 where
  pub ended : Result (Unit {0}) LiveError
  pub ends : Ends takes told options old.out new.out new.kept_back ended
  pub after_progress : Held
  pub progress : TellsProgress options.progress old.err after_progress
  pub closes : ClosesLive takes_err name ended after_progress new.err status
  -- so, whatever the status, standard output got nothing or the whole text
  pub whole : Keeps old.out new.out ⊎ ShowsLive told options old.out new.out

-- what a request does: a live run; for all others, nothing is written, and the status is 2
abbrev pub LivesAs : (Text → Option Telling) → Request → Bool → Bool → Seen → Seen → ℕ → Type 0
LivesAs told (task files (live options)) t u old new status =
    Lives t u (told files.plan) files.plan options old new status
LivesAs told _ t u old new status = Declines old new status

-- a live run reads the plan's name at most once; all other requests read nothing
abbrev pub AsksLive : Request → Option (List Text) → Option (List Text) → Type 0
AsksLive (task files (live options)) old new = (new ≡ old) ⊎ Asks old new (files.plan ∷ [])
AsksLive _ old new = new ≡ old
