-- What is in an object: an event with its outcome, or a message.
use Rattle.std.specs.Prelude.{◌||◌, List, [], ◌∷◌, Bool, Option, Some, None, Result, Ok, Err, codes, is_some, if◌then◌else◌}
use Rattle.std.specs.Option.{ok_or, option_map_or}
use Rattle.serde_json.specs.Data.{Data}
use Rattle.mx_plan.specs.Fields.{Fields, node_of, register_of}
use Rattle.mx_plan.specs.Text.{Text}
use Rattle.mx_plan.specs.Values.{list_in, text_of}
use Rattle.mx_events.specs.Arguments.{arguments_of, event_of}
use Rattle.mx_events.specs.Words.{kind_named}
use Rattle.mx_events.specs.declared.argument.Argument.{Argument}
use Rattle.mx_events.specs.declared.argument.Argument.TheVariants as argument
use Rattle.mx_events.specs.declared.argument.ArgumentKind.{ArgumentKind}
use Rattle.mx_events.specs.declared.argument.ArgumentKind.TheVariants.{Node, Register, Value, Section, Parcel}
use Rattle.mx_events.specs.declared.event.Event.{Event}
use Rattle.mx_events.specs.declared.event.Event.TheVariants as event
use Rattle.mx_events.specs.declared.kind.EventKind.{EventKind}
use Rattle.mx_events.specs.declared.kind.EventKind.TheVariants.{Deliver}
use Rattle.mx_trace.specs.declared.outcome.Entry.{Entry}
use Rattle.mx_judge.specs.Members.{and_then, has_member, number_at, text_at}
use Rattle.mx_judge.specs.Messages.{delivered_at, message_of}
use Rattle.mx_judge.specs.Outcomes.{outcome_of}
use Rattle.mx_judge.specs.declared.entry_reader.Item.{Item}
use Rattle.mx_judge.specs.declared.entry_reader.Item.TheVariants as in_trace
use Rattle.mx_judge.specs.declared.members.Member.{Member}
use Rattle.mx_judge.specs.declared.members.Member.TheVariants as member
use Rattle.mx_judge.specs.declared.faults.ItemFault.{ItemFault}
use Rattle.mx_judge.specs.declared.faults.ItemFault.TheVariants.{NoOutcome, NotEvent, Wrong}

-- the object is that of a line of a script, a lost parcel or a change of links
abbrev pub is_of_script : Data → Bool
is_of_script d =
    has_member (codes "line") d || has_member (codes "lost") d || has_member (codes "cut") d
    || has_member (codes "heal") d

-- the object is that of a message, a node, a run that stands still, a verdict, or of what a script
-- does beside events
abbrev pub is_passed_over : Data → Bool
is_passed_over d =
    has_member (codes "kind") d || has_member (codes "phase") d || has_member (codes "stuck") d
    || has_member (codes "verdict") d || is_of_script d

-- the text of the first item; empty, if there is none or it is not a text
abbrev pub first_text : List Data → Text
first_text [] = []
first_text (d ∷ ds) = text_of d

-- the value is an array that begins with the word of an event, as an item of a file of events
abbrev pub is_bare_event : Data → Bool
is_bare_event d = is_some (kind_named (first_text (list_in d)))

abbrev pub event_by : EventKind → List Argument → Result Event ItemFault
event_by kind arguments = ok_or (event_of kind arguments) (Wrong member.Act)

module _ (p : Fields) (d : Data) where
  abbrev pub number_in : Member → Result Argument ItemFault
  number_in m = and_then (number_at m d) (λ number. Ok (argument.Number number))

  -- the argument of this kind; m is the member of a node
  abbrev pub argument_at : Member → ArgumentKind → Result Argument ItemFault
  argument_at m Node =
      option_map_or (λ node. Ok (argument.Node node)) (node_of p (text_at m d)) (Err (Wrong m))
  argument_at m Register =
      option_map_or (λ register. Ok (argument.Register register))
      (register_of p (text_at member.Register d)) (Err (Wrong member.Register))
  argument_at m Value = number_in member.Value
  argument_at m Section = number_in member.Upto
  argument_at m Parcel = Err (Wrong member.Act)

  -- the arguments of these kinds, or the fault of the first wrong member. A node is that of m if it
  -- is the first argument, and else that of `from`
  abbrev pub arguments_at : Member → List ArgumentKind → Result (List Argument) ItemFault
  arguments_at m [] = Ok []
  arguments_at m (kind ∷ kinds) =
      and_then (argument_at m kind)
      (λ a. and_then (arguments_at member.From kinds) (λ others. Ok (a ∷ others)))

  abbrev pub event_at : EventKind → Result Event ItemFault
  event_at kind = and_then (arguments_at member.Node (arguments_of kind)) (event_by kind)

  -- the event of a kind. A delivery is that of one of the messages with these names
  abbrev pub event_of_kind : List Text → EventKind → Result Event ItemFault
  event_of_kind names Deliver = and_then (delivered_at names d) (λ k. Ok (event.Deliver k))
  event_of_kind names kind = event_at kind

  abbrev pub event_in : List Text → Result Event ItemFault
  event_in names =
      option_map_or (event_of_kind names) (kind_named (text_at member.Act d))
      (Err (Wrong member.Act))

  abbrev pub entry_of : List Text → Result Entry ItemFault
  entry_of names =
      and_then (event_in names)
      (λ e. and_then (outcome_of e d) (λ outcome. Ok (record { event = e; outcome = outcome })))

  abbrev pub event_item : List Text → Result (Option Item) ItemFault
  event_item names = and_then (entry_of names) (λ entry. Ok (Some (in_trace.Event entry)))

  abbrev pub message_item : List Text → Result (Option Item) ItemFault
  message_item names =
      and_then (message_of p d names) (λ message. Ok (Some (in_trace.Message message)))

  -- the entry of an object that has `act`, or else the message of one that has `kind`; none, of an
  -- object that is passed over; or a fault. It comes after messages of these names
  unfoldable pub item_of : List Text → Result (Option Item) ItemFault
  item_of names =
      if has_member (codes "act") d then event_item names
      else if has_member (codes "kind") d then message_item names
      else if is_passed_over d then Ok None
      else if is_bare_event d then Err NoOutcome
      else Err NotEvent
