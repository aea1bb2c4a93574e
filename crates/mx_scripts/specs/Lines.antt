-- What a line of a script does.
use Rattle.std.specs.Prelude.{ℕ, zero, suc, ◌≡◌, ◌≤◌, ◌<◌, ◌⊎◌, Bool, false, List, [], ◌∷◌, ◌++◌, Option, Some, None, Ok, Err, if◌then◌else◌, length, slice_index_or, ◌+◌, ◌-◌, ◌/◌, ◌%◌}
use Rattle.std.specs.Borrow.{Bor}
use Rattle.mx_stamps.specs.declared.limits.TheConstants.{MAX_EVENTS}
use Rattle.mx_nodelaws.specs.Core.{Core}
use Rattle.mx_events.specs.declared.event.Event.TheVariants.{Deliver}
use Rattle.mx_plan.specs.Text.{Text}
use Rattle.mx_plan.specs.Fields.{Fields}
use Rattle.mx_lines.specs.Lines.{line_of}
use Rattle.mx_lines.specs.Names.{known_of, texts_of}
use Rattle.mx_lines.specs.Words.{AreWords, before_comment}
use Rattle.mx_lines.specs.declared.errors.LineFault.{LineFault}
use Rattle.mx_lines.specs.declared.errors.LineFault.TheVariants.{NoParcel, NotUnderWay, NotDelivered, TooMany}
use Rattle.mx_lines.specs.declared.errors.LineError.{LineError}
use Rattle.mx_lines.specs.declared.line.Line.{Line}
use Rattle.mx_lines.specs.declared.line.ScriptLine.{ScriptLine}
use Rattle.mx_lines.specs.declared.line.ScriptLine.TheVariants as script_line
use Rattle.mx_lines.specs.declared.orders.LinkChange.TheVariants.{Cut}
use Rattle.mx_lines.specs.declared.orders.Order.{Order}
use Rattle.mx_lines.specs.declared.orders.Order.TheVariants as order
use Rattle.mx_lines.specs.declared.orders.Scope.TheVariants.{Link}
use Rattle.mx_scripts.specs.Expectations.{IsMet, IsNotMet}
use Rattle.mx_scripts.specs.Fates.{Fates, IsFirst, NoneWaits, can_arrive, is_under_way, is_waiting}
use Rattle.mx_scripts.specs.Links.{is_across}
use Rattle.mx_stamps.specs.Links.{link_of}
use Rattle.mx_scripts.specs.States.{Bars, Brings, IsAllowed, IsNotApplied, RunState}
use Rattle.mx_scripts.specs.declared.line_failure.LineFailure.{LineFailure}
use Rattle.mx_scripts.specs.declared.line_failure.LineFailure.TheVariants as failure
use Rattle.mx_scripts.specs.declared.state.SessionEvent.{SessionEvent}
use Rattle.mx_scripts.specs.declared.state.SessionEvent.TheVariants.{Happens, IsLost, LinksChange}

abbrev pub arrival : ℕ → SessionEvent
arrival k = Happens (Deliver k)

-- the event that cuts the link of this index
abbrev pub cut : ℕ → SessionEvent
cut link = LinksChange (Cut (link / 21) (link % 21))

-- the event of the first number that satisfies `is_so`; `None` if no number does
abbrev pub FindsFirst : (ℕ → Bool) → (ℕ → SessionEvent) → Option SessionEvent → Type 0
FindsFirst is_so event None = (k : ℕ) → is_so k ≡ false
FindsFirst is_so event (Some e) = (k : ℕ) × IsFirst is_so k × (e ≡ event k)

-- the event that loses a parcel, if it is under way
abbrev pub loss_of : Fates → ℕ → Option SessionEvent
loss_of d k = if is_under_way d k then Some (IsLost k) else None

-- the next event of an order that has just one: it satisfies `IsIt`, and once it is done there is
-- none
abbrev pub Once : ℕ → (SessionEvent → Type 0) → Option SessionEvent → Type 0
Once zero IsIt None = ⊥
Once zero IsIt (Some e) = IsIt e
Once (suc done) IsIt next = next ≡ None

-- the event delivers again the parcel that was delivered last over a link
abbrev pub IsAgain : Fates → ℕ → ℕ → SessionEvent → Type 0
IsAgain d from to e =
    (k : ℕ) × (slice_index_or d.last (link_of from to) None ≡ Some k) × (e ≡ arrival k)

module _ {P : Type 0} (d : Fates) (sent : List (ℕ × ℕ × P)) where
  -- the event that an order asks for next, after `done` of its events; `None` if it asks for no
  -- more
  abbrev pub IsNext : Order → ℕ → Option SessionEvent → Type 0
  IsNext (order.Happens event) done next = Once done (λ e. e ≡ Happens event) next
  IsNext (order.Arrives from to) done next =
      Once done (λ e. FindsFirst (is_waiting d sent (Link from to)) arrival (Some e)) next
  IsNext (order.AllArrive scope) done next = FindsFirst (can_arrive d sent scope) arrival next
  IsNext (order.IsLost from to) done next =
      Once done (λ e. FindsFirst (is_waiting d sent (Link from to)) IsLost (Some e)) next
  IsNext (order.ParcelIsLost k) done next = (k < length sent) × (next ≡ loss_of d k)
  IsNext (order.AllAreLost scope) done next = FindsFirst (is_waiting d sent scope) IsLost next
  IsNext (order.ArrivesAgain from to) done next = Once done (λ e. IsAgain d from to e) next
  IsNext (order.LinksChange change) done next = Once done (λ e. e ≡ LinksChange change) next
  IsNext (order.Parts sides) done next = FindsFirst (is_across sides d.links) cut next

  -- an order has no next event, since there is no such parcel
  abbrev pub Misses : Order → ℕ → LineFault → Type 0
  Misses (order.Arrives from to) done fault =
      (done ≡ 0) × (fault ≡ NotUnderWay) × NoneWaits d sent (Link from to)
  Misses (order.IsLost from to) done fault =
      (done ≡ 0) × (fault ≡ NotUnderWay) × NoneWaits d sent (Link from to)
  Misses (order.ParcelIsLost k) done fault = (fault ≡ NoParcel) × (length sent ≤ k)
  Misses (order.ArrivesAgain from to) done fault =
      (done ≡ 0) × (fault ≡ NotDelivered)
      × (slice_index_or d.last (link_of from to) None ≡ None)
  Misses _ done fault = ⊥

-- why an order, after `done` of its events, asks for nothing that can happen: there is no such
-- parcel; or the next event delivers a parcel over a cut link, or would be one too many
abbrev pub IsNoNext : {S M : Type 0} → RunState S M → Order → ℕ → LineFault → Type 0
IsNoNext s order done fault =
    Misses s.fates s.cluster.sent order done fault
    ⊎ ((next : Option SessionEvent) × IsNext s.fates s.cluster.sent order done next
    × Bars s next fault)

-- what the words of a line ask for, without its comment
abbrev pub ReadsLine : Fields → Text → ScriptLine → Type 0
ReadsLine p text read =
    (words : List (Bor Text)) × AreWords (before_comment text) words
    × (line_of (known_of p) (texts_of words) ≡ Ok read)

-- a word of a line is wrong, and that is why the line is not done
abbrev pub Misreads : Fields → Text → LineFailure → Type 0
Misreads p text why =
    (words : List (Bor Text)) × (error : LineError) × AreWords (before_comment text) words
    × (line_of (known_of p) (texts_of words) ≡ Err error) × (why ≡ failure.WrongWord error)

module _ {H S M : Type 0} (core : Core H S M) where
  -- after `done` of its events, an order asks for these events in turn, and then for no more. Each
  -- is allowed, and together they lead from the old state to the new one
  abbrev pub Performs : Order → ℕ → RunState S M → List SessionEvent → RunState S M → Type 0
  Performs order done old [] new =
      (new ≡ old) × IsNext old.fates old.cluster.sent order done None
  Performs order done old (e ∷ es) new =
      (mid : RunState S M) × IsNext old.fates old.cluster.sent order done (Some e)
      × IsAllowed old e × Brings core old e mid × Performs order (suc done) mid es new

  -- the order is performed `times` times, each time from its first event on; these are all its
  -- events
  abbrev pub Repeats : Order → ℕ → RunState S M → List SessionEvent → RunState S M → Type 0
  Repeats order zero old es new = (new ≡ old) × (es ≡ [])
  Repeats order (suc times) old es new =
      (mid : RunState S M) × (first rest : List SessionEvent) × Performs order 0 old first mid
      × (es ≡ first ++ rest) × Repeats order times mid rest new

  -- after `done` of its events, an order stops here: it has no next event that can happen, the next
  -- is not applied, or it has had the greatest number of events
  abbrev pub Stops : Order → ℕ → RunState S M → LineFailure → Type 0
  Stops order done s why =
      ((fault : LineFault) × IsNoNext s order done fault × (why ≡ failure.Refused fault))
      ⊎ (((e : SessionEvent) × (new : RunState S M)
      × IsNext s.fates s.cluster.sent order done (Some e) × IsNotApplied core s e new why)
      ⊎ ((MAX_EVENTS ≤ done) × (why ≡ failure.Refused TooMany)))

  -- the order does these events, and then stops
  abbrev pub StopsAfter : Order → ℕ → RunState S M → List SessionEvent → LineFailure → Type 0
  StopsAfter order done old [] why = Stops order done old why
  StopsAfter order done old (e ∷ es) why =
      (mid : RunState S M) × IsNext old.fates old.cluster.sent order done (Some e)
      × IsAllowed old e × Brings core old e mid × StopsAfter order (suc done) mid es why

  -- the order is to be performed `times` times: it stops in one of them, and those before are
  -- complete
  abbrev pub StopsWithin : Order → ℕ → RunState S M → LineFailure → Type 0
  StopsWithin order zero old why = ⊥
  StopsWithin order (suc times) old why =
      ((es : List SessionEvent) × StopsAfter order 0 old es why)
      ⊎ ((mid : RunState S M) × (es : List SessionEvent) × Performs order 0 old es mid
      × StopsWithin order times mid why)

  -- these events are nothing, and lead nowhere
  abbrev pub IsStill : RunState S M → List SessionEvent → RunState S M → Type 0
  IsStill old es new = (new ≡ old) × (es ≡ [])

  -- what a line asks for was done as often as it says, by these events. A line that expects an
  -- outcome is done if the newest item has that outcome, and does nothing; nor does a line without
  -- words
  abbrev pub DoesRead : Text → ScriptLine → RunState S M → List SessionEvent → RunState S M → Type 0
  DoesRead text (script_line.Does line) old es new = Repeats line.order line.times old es new
  DoesRead text script_line.Expects old es new =
      IsStill old es new × IsMet text old.cluster.trace
  DoesRead text script_line.Nothing old es new = IsStill old es new

  module _ (p : Fields) where
    abbrev pub DoesText : Text → RunState S M → List SessionEvent → RunState S M → Type 0
    DoesText text old es new =
        (read : ScriptLine) × ReadsLine p text read × DoesRead text read old es new

    -- why a line is not done: memory ran out, a word is wrong, its order stops, or the newest item
    -- has not the outcome that it expects
    abbrev pub IsNotDone : Text → RunState S M → LineFailure → Type 0
    IsNotDone text old why =
        (why ≡ failure.Memory)
        ⊎ (Misreads p text why
        ⊎ (((line : Line) × ReadsLine p text (script_line.Does line)
        × StopsWithin line.order line.times old why)
        ⊎ (ReadsLine p text script_line.Expects × IsNotMet text old.cluster.trace why)))
