-- Events as arrays of JSON, as files of events have them.
use Rattle.std.specs.Prelude.{◌++◌, codes, decimal}
use Rattle.mx_events.specs.declared.argument.Argument.{Argument}
use Rattle.mx_events.specs.declared.argument.Argument.TheVariants.{Node, Register, Number}
use Rattle.mx_events.specs.declared.event.Event.{Event}
use Rattle.mx_events.specs.Arguments.{given}
use Rattle.mx_events.specs.Events.{kind_of}
use Rattle.mx_events.specs.Words.{word_of}
use Rattle.mx_plan.specs.Text.{Text}
use Rattle.mx_plan.specs.Fields.{Fields}
use Rattle.mx_format.specs.EventTexts.{name_of, register_name_of}
use Rattle.mx_format.specs.Lines.{each_text}

abbrev pub quoted : Text → Text
quoted word = codes "\"" ++ word ++ codes "\""

-- an argument as a value of JSON: a name in quotes, or a number
abbrev pub value_text : Fields → Argument → Text
value_text p (Node node) = quoted (name_of p node)
value_text p (Register register) = quoted (register_name_of p register)
value_text p (Number number) = decimal number

-- an event, as an array of JSON: its word, and then its arguments
abbrev pub item_text : Fields → Event → Text
item_text p event =
    codes "[" ++ quoted (word_of (kind_of event))
    ++ each_text (λ a. codes "," ++ value_text p a) (given event) ++ codes "]"
