-- The messages of a trace: the parcels that its events send.
use Rattle.std.specs.Prelude.{◌≡◌, ◌⊎◌, ℕ, ◌++◌, List, [], String, Option, Some, None, Result, Ok, Err, codes, decimal, false, is_some, length, nat_le, position, string_bytes, unwrap_or, if◌then◌else◌}
use Rattle.std.specs.Str.{bytes_eq}
use Rattle.std.specs.declared.alloc.Global.{Global}
use Rattle.std.specs.Option.{option_map_or}
use Rattle.serde_json.specs.Data.{Data}
use Rattle.serde_json.specs.Find.{as_str, get}
use Rattle.serde_json.specs.Written.{compact_text}
use Rattle.mx_stamps.specs.declared.stamp.Stamp.{Stamp}
use Rattle.mx_plan.specs.Text.{Text}
use Rattle.mx_plan.specs.Fields.{Fields, node_of}
use Rattle.mx_format.specs.Members.{node_member, number_member, number_start}
use Rattle.mx_judge.specs.Members.{and_then, has_member, key_of, number_at, text_at}
use Rattle.mx_judge.specs.declared.message.MessageParts.{MessageParts}
use Rattle.mx_judge.specs.declared.members.Member.{Member}
use Rattle.mx_judge.specs.declared.members.Member.TheVariants as member
use Rattle.mx_judge.specs.declared.faults.ItemFault.{ItemFault}
use Rattle.mx_judge.specs.declared.faults.ItemFault.TheVariants.{Memory, Wrong}

-- a message: its name as a text of JSON, its number, which counts the messages before it, its nodes,
-- its kind as a text of JSON, and what else it says
pub record SentMessage : Type 0 where
  pub name : Text
  pub parcel : ℕ
  pub from : ℕ
  pub to : ℕ
  pub kind : Text
  pub parts : MessageParts

-- ---- reading

-- the number of a member; none, if the member is missing
abbrev pub optional_at : Member → Data → Result (Option ℕ) ItemFault
optional_at m d =
    if has_member (key_of m) d then and_then (number_at m d) (λ n. Ok (Some n)) else Ok None

-- the name of the message that an object sends or delivers: a text of JSON, or a number
abbrev pub name_at : Data → Result Text ItemFault
name_at d =
    if option_map_or (λ name. is_some (as_str name)) (get (codes "parcel") d) false
    then option_map_or (λ name. Ok (compact_text name)) (get (codes "parcel") d) (Err (Wrong member.Parcel))
    else and_then (number_at member.Parcel d) (λ n. Ok (decimal n))

-- the number of a delivery whose message was not sent, after messages of these names
abbrev pub unsent : List Text → Result ℕ ItemFault → ℕ
unsent names (Ok n) = if nat_le (length names) n then n else 18446744073709551615
unsent names (Err fault) = 18446744073709551615

abbrev pub unsent_at : List Text → Data → ℕ
unsent_at names d = unsent names (number_at member.Parcel d)

-- the number of the message that an object delivers, after messages of these names
abbrev pub delivered_at : List Text → Data → Result ℕ ItemFault
delivered_at names d =
    and_then (name_at d)
    (λ name. Ok (unwrap_or (position (bytes_eq name) names) (unsent_at names d)))

-- the result has the text or the fault that is wanted, or memory ran out
abbrev pub GivesText : Result Text ItemFault → Result (String Global) ItemFault → Type 0
GivesText wanted (Ok text) = wanted ≡ Ok (string_bytes text)
GivesText wanted (Err fault) = (wanted ≡ Err fault) ⊎ (fault ≡ Memory)

-- the kind, which has to be a text, as JSON
abbrev pub kind_at : Data → Result Text ItemFault
kind_at d =
    option_map_or
    (λ kind. if is_some (as_str kind) then Ok (compact_text kind) else Err (Wrong member.Kind))
    (get (codes "kind") d) (Err (Wrong member.Kind))

module _ (p : Fields) (d : Data) where
  abbrev pub node_at : Member → Result ℕ ItemFault
  node_at m = option_map_or (λ i. Ok i) (node_of p (text_at m d)) (Err (Wrong m))

  -- the stamp of the request that the message is about; none, if `stamp` is missing
  abbrev pub stamp_at : Result (Option Stamp) ItemFault
  stamp_at =
      if has_member (codes "stamp") d
      then and_then (number_at member.Stamp d)
      (λ n. and_then (node_at member.Of) (λ i. Ok (Some (record { number = n; node = i }))))
      else Ok None

  abbrev pub parts_at : Result MessageParts ItemFault
  parts_at =
      and_then stamp_at
      (λ s. and_then (optional_at member.Number d)
      (λ number. and_then (optional_at member.Hop d)
      (λ hop. and_then (optional_at member.Top d)
      (λ top. and_then (optional_at member.Grant d)
      (λ grant. and_then (optional_at member.Last d)
      (λ last. and_then (optional_at member.Upto d)
      (λ upto. Ok
      (record {
        stamp = s;
        number = number;
        hop = hop;
        top = top;
        grant = grant;
        last = last;
        upto = upto;
      }))))))))

  -- the message of an object that has `kind`, after messages of these names
  abbrev pub message_of : List Text → Result SentMessage ItemFault
  message_of names =
      and_then (name_at d)
      (λ name. and_then (node_at member.From)
      (λ i. and_then (node_at member.To)
      (λ j. and_then parts_at
      (λ parts. and_then (kind_at d)
      (λ kind. Ok
      (record {
        name = name;
        parcel = length names;
        from = i;
        to = j;
        kind = kind;
        parts = parts;
      }))))))

-- ---- as JSON

abbrev pub part_json : Text → Option ℕ → Text
part_json key None = []
part_json key (Some n) = number_member key n

abbrev pub stamp_json : Fields → Option Stamp → Text
stamp_json p None = []
stamp_json p (Some stamp) =
    number_member (codes "stamp") stamp.number ++ node_member p (codes "of") stamp.node

abbrev pub counts_json : MessageParts → Text
counts_json parts =
    part_json (codes "number") parts.number ++ part_json (codes "hop") parts.hop
    ++ part_json (codes "top") parts.top ++ part_json (codes "grant") parts.grant
    ++ part_json (codes "last") parts.last ++ part_json (codes "upto") parts.upto

-- the members of a message up to its kind
abbrev pub route_json : Fields → SentMessage → Text
route_json p m =
    number_start (codes "parcel") m.parcel ++ node_member p (codes "from") m.from
    ++ node_member p (codes "to") m.to ++ (codes ",\"kind\":" ++ m.kind)

-- the line of a message: its object
abbrev pub message_json : Fields → SentMessage → Text
message_json p m =
    route_json p m ++ stamp_json p m.parts.stamp ++ counts_json m.parts ++ codes "}\n"
