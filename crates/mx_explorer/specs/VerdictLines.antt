-- The line of a verdict, its object of JSON, and its status.
use Rattle.std.specs.Prelude.{ℕ, ◌++◌, Bool, codes, decimal, if◌then◌else◌}
use Rattle.mx_explorer.specs.declared.verdict.Clause.{Clause}
use Rattle.mx_explorer.specs.declared.verdict.Clause.TheVariants.{Overlap, Number, Read}
use Rattle.mx_explorer.specs.declared.verdict.Verdict.{Verdict}
use Rattle.mx_explorer.specs.declared.verdict.Verdict.TheVariants.{Sound, Broken}
use Rattle.mx_plan.specs.Text.{Text, line_feed}

abbrev pub clause_word : Clause → Text
clause_word Overlap = codes "overlap"
clause_word Number = codes "number"
clause_word Read = codes "read"

abbrev pub verdict_line : Verdict → Text
verdict_line Sound = codes "verdict sound" ++ line_feed
verdict_line (Broken k clause) =
    codes "verdict broken at " ++ decimal k ++ codes ": " ++ clause_word clause ++ line_feed

abbrev pub verdict_status : Verdict → ℕ
verdict_status Sound = 0
verdict_status (Broken k clause) = 4

-- ---- as JSON

abbrev pub broken_json : ℕ → Text → Text
broken_json k clause =
    codes "{\"verdict\":\"broken\",\"index\":" ++ decimal k ++ codes ",\"clause\":\"" ++ clause
    ++ codes "\"}\n"

abbrev pub verdict_json : Verdict → Text
verdict_json Sound = codes "{\"verdict\":\"sound\"}\n"
verdict_json (Broken k clause) = broken_json k (clause_word clause)

-- a verdict as JSON, or as a line
abbrev pub verdict_text : Bool → Verdict → Text
verdict_text is_json verdict = if is_json then verdict_json verdict else verdict_line verdict
