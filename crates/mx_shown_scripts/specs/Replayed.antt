-- What `replay` prints of a script, with its options.
use Rattle.std.specs.Prelude.{◌||◌, Option, Some, None, if◌then◌else◌, option_map}
use Rattle.mx_plan.specs.Text.{Text}
use Rattle.mx_plan.specs.Fields.{Fields}
use Rattle.mx_cli.specs.Printing.{Report}
use Rattle.mx_cli.specs.Requests.{View as Options}
use Rattle.mx_driver.specs.Viewed.{IsReplayed, node_in, view_on}
use Rattle.mx_driver.specs.declared.view.View.{View}
use Rattle.mx_event_files.specs.Printed.{IsOnScript}
use Rattle.mx_shown_scripts.specs.ShownScripts.{IsShownScript}

-- the view in which more is shown of a script than of its events: JSON, or states; `None`, also if
-- the plan lacks the node
abbrev pub own_view : Options → Fields → Option View
own_view options p =
    if options.is_json || options.has_state
    then option_map (view_on options) (node_in p options.node)
    else None

abbrev pub IsReplayedBy : Option View → Options → Fields → Text → Report → Type 0
IsReplayedBy (Some view) options p = IsShownScript p view
IsReplayedBy None options p = IsOnScript (IsReplayed options) p

-- a report of `replay` of a script: what is shown of it; or the report of `replay` of its events
abbrev pub IsReplayedScript : Options → Fields → Text → Report → Type 0
IsReplayedScript options p = IsReplayedBy (own_view options p) options p
