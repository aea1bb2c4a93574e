-- What `judge` prints.
use Rattle.std.specs.Prelude.{◌++◌, Bool, List, [], Result, Ok, Err, codes, decimal, length, if◌then◌else◌}
use Rattle.mx_plan.specs.Text.{Text, line_feed}
use Rattle.mx_plan.specs.Fields.{Fields}
use Rattle.mx_trace.specs.declared.outcome.Entry.{Entry}
pub use Rattle.mx_explorer.specs.Verdict.{IsVerdictOf}
use Rattle.mx_explorer.specs.declared.verdict.Verdict.{Verdict}
use Rattle.mx_explorer.specs.declared.verdict.Verdict.TheVariants.{Sound, Broken}
use Rattle.mx_explorer.specs.VerdictLines.{clause_word, verdict_line, verdict_status}
use Rattle.mx_cli.specs.Printing.{IsWhole, Report}
use Rattle.mx_format.specs.Lines.{texts_from}
use Rattle.mx_format.specs.Members.{number_member, word_member, word_start}
use Rattle.mx_judge.specs.EntryJson.{sending_json}
use Rattle.mx_judge.specs.Faults.{IsFaultReport}
use Rattle.mx_judge.specs.Listed.{ReadTrace, place_of}
use Rattle.mx_judge.specs.Reasons.{entered_in, reason_for}
use Rattle.mx_judge.specs.Traces.{place_word, trace_at}
use Rattle.mx_judge.specs.declared.faults.TraceFault.{TraceFault}

-- how many events there are, and how many sections were entered
abbrev pub counts_line : List Entry → Text
counts_line trace =
    codes "events " ++ decimal (length trace) ++ codes ", sections " ++ decimal (entered_in trace)
    ++ line_feed

-- the start of the object of a verdict
abbrev pub verdict_start : Verdict → Text
verdict_start Sound = word_start (codes "verdict") (codes "sound")
verdict_start (Broken k clause) =
    word_start (codes "verdict") (codes "broken") ++ number_member (codes "index") k
    ++ word_member (codes "clause") (clause_word clause)

abbrev pub counts_members : List Entry → Text
counts_members trace =
    number_member (codes "events") (length trace)
    ++ number_member (codes "sections") (entered_in trace)

module _ (word : Text) (t : ReadTrace) (reason : Text) where
  -- where the k-th event is, and why it breaks a rule
  abbrev pub reason_lines : Verdict → Text
  reason_lines Sound = []
  reason_lines (Broken k clause) =
      word ++ codes " " ++ decimal (place_of t k) ++ codes ": " ++ reason ++ line_feed

  abbrev pub judged_lines : Verdict → Text
  judged_lines verdict = counts_line t.entries ++ verdict_line verdict ++ reason_lines verdict

  -- the same as members of the verdict's object
  abbrev pub reason_members : Verdict → Text
  reason_members Sound = []
  reason_members (Broken k clause) =
      number_member word (place_of t k) ++ word_member (codes "reason") reason

  abbrev pub verdict_object : Verdict → Text
  verdict_object verdict =
      verdict_start verdict ++ counts_members t.entries ++ reason_members verdict ++ codes "}\n"

  -- an object for each entry and each message, and then that of the verdict
  abbrev pub judged_json : Fields → Verdict → Text
  judged_json p verdict = texts_from (sending_json p t) 0 t.entries ++ verdict_object verdict

  abbrev pub judged_text : Bool → Fields → Verdict → Text
  judged_text is_json p verdict = if is_json then judged_json p verdict else judged_lines verdict

-- what is printed of a trace with this verdict, if its places are called by this word
abbrev pub judgement_text : Bool → Fields → Text → ReadTrace → Verdict → Text
judgement_text is_json p word t verdict =
    judged_text word t (reason_for p t.entries verdict) is_json p verdict

-- the counts, the line of the verdict and, if the trace is broken, why, with status 0 or 4; as
-- JSON, an object for each event and each message, and one for the verdict. Or the line of the fault
-- of a text that lists no trace
abbrev pub IsJudged : Bool → Fields → Text → Result ReadTrace TraceFault → Report → Type 0
IsJudged is_json p word (Ok t) r =
    (verdict : Verdict) × IsVerdictOf t.entries verdict
    × IsWhole (judgement_text is_json p word t verdict) (verdict_status verdict) r
IsJudged is_json p word (Err fault) r = IsFaultReport fault r

-- a report of `judge` on the trace in a text
abbrev pub IsJudgement : Bool → Fields → Text → Report → Type 0
IsJudgement is_json p text = IsJudged is_json p (place_word text) (trace_at p text)
