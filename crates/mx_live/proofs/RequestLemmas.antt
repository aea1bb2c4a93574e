-- What requests do.
use Rattle.std.proofs.Common.{ℕ, Bool, List, Option, Err, inl, inr, refl}
use Rattle.mx_plan.specs.Text.{Text}
use Rattle.mx_io.specs.Told.{Telling}
use Rattle.mx_cli.specs.Reports.{RunsOut, Seen}
use Rattle.mx_cli.specs.Requests.{Request, live, task}
use Rattle.mx_cli.specs.declared.request.LiveOptions.{LiveOptions}
use Rattle.mx_live.specs.declared.live_error.LiveError.TheVariants.{Memory}
use Rattle.mx_live.specs.Lives.{AsksLive, Lives, LivesAs}
use Rattle.mx_live.proofs.ProgressLemmas.{tells_none}

-- memory ran out before a live run began
pub short_run : (told : Option Telling) (t u : Bool) (name : Text) (options : LiveOptions) (old new : Seen) (status : ℕ) → RunsOut old new status → Lives t u told name options old new status
short_run told t u name options old new status memory = record {
  ended = Err Memory;
  ends = (tt, inl memory.1);
  after_progress = old.err;
  progress = tells_none options.progress _;
  closes = inr (inl (memory.0, memory.2));
  whole = inl memory.1;
}

-- memory ran out while the words were parsed
pub short_lives : (told : Text → Option Telling) (t u : Bool) (old new : Seen) (status : ℕ) → RunsOut old new status → (request : Request) → LivesAs told request t u old new status
short_lives told t u old new status memory (task files (live options)) = short_run (told files.plan) t u files.plan options old new status memory
short_lives told t u old new status memory _ = (memory.1, inr (memory.0, memory.2))

-- no name was read
pub unread : (request : Request) (asked : Option (List Text)) → AsksLive request asked asked
unread (task files (live options)) asked = inl refl
unread _ asked = refl
