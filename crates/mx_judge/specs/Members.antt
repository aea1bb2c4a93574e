-- The members of the objects of events and messages.
use Rattle.std.specs.Prelude.{◌≡◌, ◌⊎◌, ℕ, [], Bool, Result, Ok, Err, codes, is_some, unwrap_or, option_and_then}
use Rattle.std.specs.Option.{ok_or}
use Rattle.serde_json.specs.Data.{Data}
use Rattle.serde_json.specs.Find.{as_number, as_str, as_u64, get}
use Rattle.mx_plan.specs.Text.{Text}
use Rattle.mx_judge.specs.declared.members.Member.{Member}
use Rattle.mx_judge.specs.declared.members.Member.TheVariants.{Act, Node, From, To, Of, Register, Value, Upto, Parcel, Outcome, Number, Count, Cause, Kind, Stamp, Hop, Top, Grant, Last}
use Rattle.mx_judge.specs.declared.faults.ItemFault.{ItemFault}
use Rattle.mx_judge.specs.declared.faults.ItemFault.TheVariants.{Memory, Wrong}

abbrev pub key_of : Member → Text
key_of Act = codes "act"
key_of Node = codes "node"
key_of From = codes "from"
key_of To = codes "to"
key_of Of = codes "of"
key_of Register = codes "register"
key_of Value = codes "value"
key_of Upto = codes "upto"
key_of Parcel = codes "parcel"
key_of Outcome = codes "outcome"
key_of Number = codes "number"
key_of Count = codes "count"
key_of Cause = codes "cause"
key_of Kind = codes "kind"
key_of Stamp = codes "stamp"
key_of Hop = codes "hop"
key_of Top = codes "top"
key_of Grant = codes "grant"
key_of Last = codes "last"

-- the message for a member that is missing or wrong
abbrev pub message_of : Member → Text
message_of Act = codes "no such word"
message_of Node = codes "no such node"
message_of From = codes "no such node"
message_of To = codes "no such node"
message_of Of = codes "no such node"
message_of Register = codes "no such register"
message_of Outcome = codes "not one of its act"
message_of Cause = codes "no such word"
message_of Kind = codes "not a text"
message_of Parcel = codes "not a number or a text"
message_of _ = codes "not a number"

abbrev pub has_member : Text → Data → Bool
has_member key d = is_some (get key d)

-- the text of a member; empty, if the member is missing or its value is not a text
abbrev pub text_at : Member → Data → Text
text_at m d = unwrap_or (option_and_then as_str (get (key_of m) d)) []

-- the number of a member; a fault, if the member is missing or wrong
abbrev pub number_at : Member → Data → Result ℕ ItemFault
number_at m d =
    ok_or (option_and_then as_u64 (option_and_then as_number (get (key_of m) d))) (Wrong m)

-- continues if the first step succeeded
abbrev pub and_then : {A B : Type 0} → Result A ItemFault → (A → Result B ItemFault)
    → Result B ItemFault
and_then (Ok a) f = f a
and_then (Err fault) f = Err fault

-- the result is `wanted`, or memory ran out
abbrev pub AnswersItem : {T : Type 0} → Result T ItemFault → Result T ItemFault → Type 0
AnswersItem wanted r = (r ≡ wanted) ⊎ (r ≡ Err Memory)
