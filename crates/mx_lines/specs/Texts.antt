use Rattle.std.specs.Prelude.{codes}
use Rattle.mx_plan.specs.Text.{Text}
use Rattle.mx_lines.specs.declared.errors.LineFault.{LineFault}
use Rattle.mx_lines.specs.declared.errors.LineFault.TheVariants.{NotText, NoWord, WordCount, NoNode, NoRegister, NotNumber, OnBothSides, NoParcel, NotUnderWay, NotDelivered, LinkCut, NoEvent, OtherOutcome, TooMany}

abbrev pub fault_text : LineFault → Text
fault_text NotText = codes "not UTF-8"
fault_text NoWord = codes "no such word"
fault_text WordCount = codes "words missing or too many"
fault_text NoNode = codes "no such node"
fault_text NoRegister = codes "no such register"
fault_text NotNumber = codes "not a number"
fault_text OnBothSides = codes "node on both sides"
fault_text NoParcel = codes "no such parcel"
fault_text NotUnderWay = codes "no such parcel under way"
fault_text NotDelivered = codes "no such parcel delivered"
fault_text LinkCut = codes "the link is cut"
fault_text NoEvent = codes "no event yet"
fault_text OtherOutcome = codes "other outcome"
fault_text TooMany = codes "more than 1000000"
