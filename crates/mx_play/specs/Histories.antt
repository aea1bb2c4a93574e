-- What happens to a cluster and its parcels, one event after another, and what is then printed.
use Rattle.std.specs.Prelude.{◌≡◌, List, [], ◌∷◌, ◌++◌, length, slice_get}
use Rattle.mx_nodelaws.specs.Core.{Core}
use Rattle.mx_events.specs.declared.event.Event.{Event}
use Rattle.mx_plan.specs.Text.{Text}
use Rattle.mx_plan.specs.Fields.{Fields}
use Rattle.mx_driver.specs.Runs.{at_rest, text_of}
use Rattle.mx_scripts.specs.States.{Brings, IsAllowed, RunState, before_any}
use Rattle.mx_scripts.specs.declared.state.SessionEvent.{SessionEvent}
use Rattle.mx_scripts.specs.declared.state.SessionEvent.TheVariants.{Happens, IsLost, LinksChange}
use Rattle.mx_play.specs.Cuts.{change_line}
use Rattle.mx_play.specs.Printed.{lost_text}

-- the cluster of a plan, at rest, before any parcel was sent
abbrev pub first_state : {H S M : Type 0} → Core H S M → Fields → H → RunState S M
first_state core p shape = before_any (at_rest core p shape)

-- the events of the cluster among these
abbrev pub events_in : List SessionEvent → List Event
events_in [] = []
events_in (Happens e ∷ es) = e ∷ events_in es
events_in (IsLost k ∷ es) = events_in es
events_in (LinksChange change ∷ es) = events_in es

module _ {H S M : Type 0} (core : Core H S M) where
  -- these events lead from one state to another: they happen in turn, each in a state that allows
  -- it
  abbrev pub Leads : RunState S M → List SessionEvent → RunState S M → Type 0
  Leads old [] new = new ≡ old
  Leads old (e ∷ es) new =
      (mid : RunState S M) × IsAllowed old e × Brings core old e mid × Leads mid es new

  -- these events can happen in turn, from this state on
  abbrev pub CanLead : RunState S M → List SessionEvent → Type 0
  CanLead old es = (new : RunState S M) × Leads old es new

  module _ (letter_text : Fields → M → Text) (p : Fields) where
    -- what `replay` prints of the events and parcels that are new
    abbrev pub new_text : RunState S M → RunState S M → Text
    new_text old new =
        text_of core letter_text p (length old.cluster.trace) old.cluster new.cluster

    -- what is printed of an event: of an event of the cluster, what `replay` prints; of a loss, the
    -- parcel; of a change of links, that change
    abbrev pub made_text : SessionEvent → RunState S M → RunState S M → Text
    made_text (Happens e) old new = new_text old new
    made_text (IsLost k) old new = lost_text letter_text p k (slice_get new.cluster.sent k)
    made_text (LinksChange change) old new = change_line p change

    -- these events happen in turn, each in a state that allows it, and the text is what is printed
    -- of them
    abbrev pub Makes : RunState S M → List SessionEvent → RunState S M → Text → Type 0
    Makes old [] new text = (new ≡ old) × (text ≡ [])
    Makes old (e ∷ es) new text =
        (mid : RunState S M) × (rest : Text) × IsAllowed old e × Brings core old e mid
        × (text ≡ made_text e old mid ++ rest) × Makes mid es new rest
