-- What has happened in a session, as a script.
use Rattle.std.specs.Prelude.{◌++◌, List, codes, decimal}
use Rattle.mx_plan.specs.Text.{Text, line_feed}
use Rattle.mx_plan.specs.Fields.{Fields}
use Rattle.mx_format.specs.EventTexts.{event_text}
use Rattle.mx_format.specs.Lines.{each_text}
use Rattle.mx_scripts.specs.declared.state.SessionEvent.{SessionEvent}
use Rattle.mx_scripts.specs.declared.state.SessionEvent.TheVariants.{Happens, IsLost, LinksChange}
use Rattle.mx_play.specs.Cuts.{change_line}
use Rattle.mx_play.specs.declared.session.DoneLine.{DoneLine}

-- the line of a script that asks for this event
abbrev pub asking_line : Fields → SessionEvent → Text
asking_line p (Happens event) = event_text p event ++ line_feed
asking_line p (IsLost k) = codes "lose " ++ decimal k ++ line_feed
asking_line p (LinksChange change) = change_line p change

-- the script that asks for the events of these lines, one after another
abbrev pub session_script : Fields → List DoneLine → Text
session_script p = each_text (λ line. each_text (asking_line p) line.events.items)
