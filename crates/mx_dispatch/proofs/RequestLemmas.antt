-- What requests do.
use Rattle.std.proofs.Common.{ℕ, Bool, List, Option, inl, inr, refl}
use Rattle.mx_plan.specs.Text.{Text}
use Rattle.mx_io.specs.Stored.{Stored}
use Rattle.mx_io.specs.Told.{Telling}
use Rattle.mx_cli.specs.Frames.{FailsAtOnce}
use Rattle.mx_cli.specs.Reports.{Declines, RunsOut, Seen}
use Rattle.mx_cli.specs.Requests.{Request, live, misfit, play, task}
use Rattle.mx_cli.proofs.ClosedLemmas.{not_five}
use Rattle.mx_live.proofs.RequestLemmas.{short_run}
use Rattle.mx_play.proofs.StopLemmas.{five_is_one}
use Rattle.mx_play.proofs.StoreLemmas.{Stores-nil}
use Rattle.mx_dispatch.specs.Program.{AsksOnce, Does, DoesWith, HasReason}

module _ (told : Text → Option Telling) (t u : Bool) (old new : Seen) (status : ℕ) (memory : RunsOut old new status) where
  declines : Declines old new status
  declines = (memory.1, inr (memory.0, memory.2))

  short : FailsAtOnce t old new status
  short = (memory.1, inl (memory.0, memory.2, memory.3))

  -- memory ran out while the words were parsed
  pub short_does : (request : Request) → Does told request t u old new status
  short_does (misfit reason) = (memory.1, inr (memory.0, memory.2))
  short_does (task files (live options)) = declines
  short_does (task files play) = declines
  short_does (task files _) = inl short

  pub short_does_with : (lines : Option (List Text)) (store : Stored) (request : Request) → DoesWith told lines request t u old new store store status
  short_does_with lines store (task files (live options)) = (short_run (told files.plan) t u files.plan options old new status memory, Stores-nil store)
  short_does_with lines store (task files play) = record {
    played = λ zero. absurd (not_five status memory.0 zero);
    passed = λ zero. absurd (not_five status memory.0 zero);
    status_is = inr (inr memory.0);
  }
  short_does_with lines store (misfit reason) = (short_does (misfit reason), Stores-nil store)
  short_does_with lines store (task files asked) = (short_does (task files asked), Stores-nil store)

  pub short_stops : (lines : Option (List Text)) (left : Option ℕ) (request : Request) → HasReason told lines left request t u status
  short_stops lines left (task files play) = λ out err can one. five_is_one status memory.0 one
  short_stops lines left _ = tt

-- no name was read
pub unread : (request : Request) (asked : Option (List Text)) → AsksOnce request asked asked
unread (misfit reason) asked = refl
unread (task files _) asked = inl refl
