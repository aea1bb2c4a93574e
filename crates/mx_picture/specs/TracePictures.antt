-- What `picture --trace` prints.
use Rattle.std.specs.Prelude.{ℕ, Option, None, Some, MatchResult, false}
use Rattle.mx_plan.specs.Text.{Text}
use Rattle.mx_plan.specs.Fields.{Fields}
use Rattle.mx_explorer.specs.declared.verdict.Verdict.{Verdict}
use Rattle.mx_explorer.specs.VerdictLines.{verdict_status}
use Rattle.mx_cli.specs.Printing.{IsWhole, Report}
use Rattle.mx_cli.specs.Requests.{Part}
use Rattle.mx_driver.specs.Viewed.{node_in}
use Rattle.mx_judge.specs.Faults.{IsFaultReport}
use Rattle.mx_judge.specs.Judged.{IsVerdictOf, judgement_text}
use Rattle.mx_judge.specs.Listed.{ReadTrace}
use Rattle.mx_judge.specs.Traces.{place_word, trace_at}
use Rattle.mx_picture.specs.Drawn.{IsTracePicture}
use Rattle.mx_picture.specs.Pictures.{IsUnknown}

-- the picture of a trace, whose title has what `judge` prints of the trace, with the status of its
-- verdict
abbrev pub IsTraceShown : Fields → Text → ReadTrace → Report → Type 0
IsTraceShown p word t r =
    (verdict : Verdict) × IsVerdictOf t.entries verdict × (picture : Text)
    × IsTracePicture p (judgement_text false p word t verdict) picture
    × IsWhole picture (verdict_status verdict) r

-- the same of the trace in a text; or the line of the fault of a text that lists no trace
abbrev pub IsTraceDrawn : Fields → Text → Report → Type 0
IsTraceDrawn p text r =
    MatchResult (trace_at p text) (λ t. IsTraceShown p (place_word text) t r)
    (λ fault. IsFaultReport fault r)

abbrev pub IsTracePicturedBy : Option (Option ℕ) → Fields → Text → Report → Type 0
IsTracePicturedBy (Some _) p text r = IsTraceDrawn p text r
IsTracePicturedBy None p text r = IsUnknown r

-- a report of `picture --trace`: of the trace in a text, or the line that the plan lacks the named
-- node
abbrev pub IsTracePictured : Part → Fields → Text → Report → Type 0
IsTracePictured part p = IsTracePicturedBy (node_in p part.node) p
