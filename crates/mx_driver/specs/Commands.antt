-- What `check` and `replay` print.
use Rattle.std.specs.Prelude.{Bool, if◌then◌else◌}
use Rattle.mx_plan.specs.Text.{Text}
use Rattle.mx_plan.specs.Fields.{Fields}
use Rattle.mx_cli.specs.Printing.{IsReport, IsWhole, Report}
use Rattle.mx_format.specs.PlanTexts.{plan_text_by}
use Rattle.mx_format.specs.AskTexts.{plan_asks_text_by}
use Rattle.mx_driver.specs.Jobs.{report_of_events}

-- what a plan says and, if `has_asks`, whom each of its nodes asks; as lines, or as objects of JSON
abbrev pub check_text : Bool → Bool → Fields → Text
check_text has_asks is_json p =
    if has_asks then plan_asks_text_by is_json p else plan_text_by is_json p

abbrev pub IsCheck : Bool → Bool → Fields → Text → Report → Type 0
IsCheck has_asks is_json p text = IsWhole (check_text has_asks is_json p) 0

-- the lines of the events of a text, or the fault of the text
abbrev pub IsReplay : Fields → Text → Report → Type 0
IsReplay p text = IsReport (report_of_events text p)
