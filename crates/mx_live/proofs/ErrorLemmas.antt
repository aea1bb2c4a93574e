-- Why a live run has no journal.
use Rattle.std.proofs.Common.{◌≡◌, ◌⊎◌, Bool, false, inl, inr, List, Option, IfSome, Result, Ok, Err, IfErr, OnErr, OnOk, length, sym, subst}
use Rattle.std.specs.Io.KnownBytes.{Appends, Keeps}
use Rattle.mx_journal.specs.declared.receipts.Receipt.{Receipt}
use Rattle.mx_journal.specs.Settled.{JournalState}
use Rattle.mx_nodelaws.specs.Core.{Core}
use Rattle.mx_plan.specs.Fields.{Fields}
use Rattle.mx_plan.specs.declared.shape.Shape.{Shape}
use Rattle.mx_plan.specs.declared.shape.Shape.TheVariants as planned
use Rattle.mx_ricart.specs.Step.{ricart_core}
use Rattle.mx_maekawa.specs.Step.{maekawa_core}
use Rattle.mx_raymond.specs.Step.{raymond_core}
use Rattle.mx_cli.specs.declared.request.LiveOptions.{LiveOptions}
use Rattle.mx_cli.specs.declared.stop.Stop.{Stop}
use Rattle.mx_cli.specs.declared.stop.Stop.TheVariants as stop
use Rattle.mx_cli.specs.Reading.{IsPlanTold, Reads}
use Rattle.mx_cli.proofs.OutputLemmas.{Keeps-refl}
use Rattle.mx_io.specs.Outputs.{Held}
use Rattle.mx_io.specs.Told.{Telling}
use Rattle.mx_stations.specs.declared.worker.Worked.{Worked}
use Rattle.mx_stations.specs.declared.worker.Worked.TheVariants as worked
use Rattle.mx_jobs.specs.Serial.{AreSerial}
use Rattle.mx_live.specs.declared.live_error.LiveError.{LiveError}
use Rattle.mx_live.specs.declared.live_error.LiveError.TheVariants.{Plan, TooFewSections, TurnsSpent, GateShut, Writer, Memory, NoThread}
use Rattle.mx_live.specs.LiveErrors.{Fails, HasNone, InVain, InVainBy, IsWhy, RunsInVain, unread_error}
use Rattle.mx_live.specs.Shown.{live_text}
use Rattle.mx_live.specs.Together.{ComeOf, HaveSections}
use Rattle.mx_live.specs.Lives.{Ends, Fits, Halts, PrintsLive, ShowsLive}

-- a worker that is not done has spent its turns, or was not let in
why_of : (ended : Worked) (error : LiveError) → IsWhy ended error → (error ≡ TurnsSpent) ⊎ (error ≡ GateShut)
why_of worked.Done error why = absurd why
why_of (worked.NotYet n) error why = inl why
why_of worked.GateShut error why = inr why

vain_of : {H S M : Type 0} (core : Core H S M) (shape : H) (p : Fields) (orders : LiveOptions) (error : LiveError) → RunsInVain core shape p orders error → (error ≡ TurnsSpent) ⊎ (error ≡ GateShut)
vain_of core shape p orders error vain = why_of vain.first.one.1 error vain.first.why

vain_by : (shape : Shape) (p : Fields) (orders : LiveOptions) (error : LiveError) → InVainBy shape p orders error → (error ≡ TurnsSpent) ⊎ (error ≡ GateShut)
vain_by (planned.Ricart count) p orders error vain = vain_of ricart_core count p orders error vain
vain_by (planned.Maekawa family) p orders error vain = vain_of maekawa_core family p orders error vain
vain_by (planned.Raymond tree) p orders error vain = vain_of raymond_core tree p orders error vain

module _ (takes : Bool) (told : Option Telling) (request : LiveOptions) where
  -- what an error says
  abbrev pub Halted : Held → Held → LiveError → Type 0
  Halted old new error = Halts takes told request error × PrintsLive told request error old new

  -- a plan that was not read
  pub plan_halts : (stopped : Stop) (held : Held) → IfSome told (λ telling. Reads telling (Err stopped)) → Halted held held (unread_error stopped)
  plan_halts (stop.Fault fault) held read = (read, Keeps-refl held)
  plan_halts (stop.Line line) held read = (tt, inl (Keeps-refl held))
  plan_halts stop.Writer held read = (tt, inl (Keeps-refl held))
  plan_halts stop.Memory held read = (tt, inl (Keeps-refl held))

  -- threads that ran in vain
  pub vain_halts : (p : Fields) (error : LiveError) (held : Held) → IsPlanTold told p → Fits request p → HasNone p request error → Halted held held error
  vain_halts p error held read fits (inl vain) = elim (vain_by p.shape p request error vain) [
    | inl is ↦ subst (λ h. Halted held held h) (sym is) ((p, read, fits, subst (λ h. InVain p request h) is vain), Keeps-refl held)
    | inr is ↦ subst (λ h. Halted held held h) (sym is) ((p, read, fits, subst (λ h. InVain p request h) is vain), Keeps-refl held)
  ]
  vain_halts p error held read fits (inr (inl is)) = subst (λ h. Halted held held h) (sym is) (tt, inl (Keeps-refl held))
  vain_halts p error held read fits (inr (inr is)) = subst (λ h. Halted held held h) (sym is) ((p, read, fits), Keeps-refl held)

  -- an output that did not take what was printed
  pub output_halts : (error : LiveError) (old new : Held) → Fails takes error → Keeps old new ⊎ ShowsLive told request old new → Halted old new error
  output_halts error old new (inl fails) whole = subst (λ h. Halted old new h) (sym fails.0) (fails.1, whole)
  output_halts error old new (inr is) whole = subst (λ h. Halted old new h) (sym is) (tt, whole)

  -- the end of a run that came to none
  pub none_ends : (p : Fields) (r : Result (Unit {0}) LiveError) (error why : LiveError) (held : Held) (kept_back : Bool) → r ≡ Err error → error ≡ why → IsPlanTold told p → Fits request p → HasNone p request why → Ends takes told request held held kept_back r
  none_ends p r error why held kept_back is from read fits none =
      subst (λ (x : Result (Unit {0}) LiveError). Ends takes told request held held kept_back x) (sym is) (subst (λ h. Halted held held h) (sym from) (vain_halts p why held read fits none))

  -- the end of a run that came to a journal, which was printed, or not
  pub shown_ends : (p : Fields) (receipts : List Receipt) (journal : JournalState) (r : Result (Unit {0}) LiveError) (old new : Held) (kept_back : Bool) → IsPlanTold told p → Fits request p → ComeOf p request receipts journal → AreSerial receipts journal
      → HaveSections (length p.nodes) request.sections receipts → OnOk r (Appends old new (live_text p (length receipts) journal)) → OnOk r (kept_back ≡ false) → IfErr r (Fails takes)
      → OnErr r (Keeps old new ⊎ Appends old new (live_text p (length receipts) journal)) → Ends takes told request old new kept_back r
  shown_ends p receipts journal (Ok done) old new kept_back plan fits come serial have ok passed err whole = ((p, receipts, journal, plan, fits, come, serial, have, ok), passed)
  shown_ends p receipts journal (Err error) old new kept_back plan fits come serial have ok passed err whole = output_halts error old new err (elim whole [
    | inl kept ↦ inl kept
    | inr text ↦ inr (p, receipts, journal, plan, fits, come, serial, have, text)
  ])

  print_whole : (error : LiveError) (old new : Held) → PrintsLive told request error old new → Keeps old new ⊎ ShowsLive told request old new
  print_whole (Plan fault) old new prints = inl prints
  print_whole TooFewSections old new prints = inl prints
  print_whole TurnsSpent old new prints = inl prints
  print_whole GateShut old new prints = inl prints
  print_whole Writer old new prints = prints
  print_whole Memory old new prints = prints
  print_whole NoThread old new prints = inl prints

  -- nothing was printed, or all
  pub ends_whole : (r : Result (Unit {0}) LiveError) (old new : Held) (kept_back : Bool) → Ends takes told request old new kept_back r → Keeps old new ⊎ ShowsLive told request old new
  ends_whole (Ok done) old new kept_back ends = inr ends.0
  ends_whole (Err error) old new kept_back ends = print_whole error old new ends.1
