-- What the lines of a session did.
use Rattle.std.specs.Prelude.{◌≡◌, List, [], ◌∷◌, ◌++◌, Vec, length, string_bytes}
use Rattle.std.specs.List.{flat_map}
use Rattle.std.specs.declared.alloc.Global.{Global}
use Rattle.mx_nodelaws.specs.Core.{Core}
use Rattle.mx_plan.specs.Text.{Text}
use Rattle.mx_plan.specs.Fields.{Fields}
use Rattle.mx_events.specs.Arguments.{AreEventsWithin}
use Rattle.mx_scripts.specs.States.{RunState}
use Rattle.mx_scripts.specs.declared.state.SessionEvent.{SessionEvent}
use Rattle.mx_play.specs.Histories.{CanLead, Leads, events_in, first_state, made_text}
use Rattle.mx_play.specs.declared.printed_events.PrintedEvents.{PrintedEvents}
use Rattle.mx_play.specs.declared.session.DoneLine.{DoneLine}

-- the lines that one undo took back, in order
abbrev pub Undone : Type 0
Undone = Vec DoneLine Global

-- the cluster and its parcels as they are now; the lines that were done, in order; and those that
-- were undone, the last undo last
pub record SessionState (S M : Type 0) : Type 0 where
  pub state : RunState S M
  pub lines : List DoneLine
  pub undone : List Undone

-- the session before its first line
abbrev pub at_start : {H S M : Type 0} → Core H S M → Fields → H → SessionState S M
at_start core p shape =
    record { state = first_state core p shape; lines = []; undone = [] }

-- the events of these lines
abbrev pub line_events : List DoneLine → List SessionEvent
line_events = flat_map (λ line. line.events.items)

-- the lines of these undos, as they are redone: the last undo first
abbrev pub undone_in : List Undone → List DoneLine
undone_in [] = []
undone_in (u ∷ us) = undone_in us ++ u.items

-- all lines that are done once each undo is redone
abbrev pub all_lines : {S M : Type 0} → SessionState S M → List DoneLine
all_lines s = s.lines ++ undone_in s.undone

-- the lines that were done lead from the cluster of the plan, at rest, to the state of the session,
-- which has a member for each node of the plan; those that were undone can be done again; and the
-- events of them all name only nodes and registers of the plan
pub record IsSession {H S M : Type 0} (core : Core H S M) (p : Fields) (shape : H)
    (s : SessionState S M) : Type 0 where
  pub leads : Leads core (first_state core p shape) (line_events s.lines) s.state
  pub members : length s.state.cluster.members ≡ length p.nodes
  pub redoes : CanLead core (first_state core p shape) (line_events (all_lines s))
  pub over : AreEventsWithin (length p.nodes) (length p.registers) (events_in (line_events (all_lines s)))

module _ {H S M : Type 0} (core : Core H S M) (letter_text : Fields → M → Text) (p : Fields) where
  -- an event, which leads from one state to another, was added to those of a line, and what is
  -- printed of it to their text
  pub record AddsOne (line : PrintedEvents) (event : SessionEvent) (old new : RunState S M)
      (line' : PrintedEvents) : Type 0 where
    pub listed : line'.events.items ≡ line.events.items ++ event ∷ []
    pub printed : string_bytes line'.text
        ≡ string_bytes line.text ++ made_text core letter_text p event old new
