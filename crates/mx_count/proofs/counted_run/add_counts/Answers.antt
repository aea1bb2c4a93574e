use Rattle.std.proofs.Common.{◌≡◌, ◌∙◌, ◌++◌, List, ap, arith, string_bytes}
use Rattle.mx_explorer.specs.declared.verdict.Verdict.{Verdict}
use Rattle.mx_explorer.specs.declared.verdict.Verdict.TheVariants.{Sound}
use Rattle.mx_format.specs.Parts.{word_by}
use Rattle.mx_explorer.specs.VerdictLines.{verdict_status, verdict_text}
use Rattle.mx_count.specs.Counted.{rows_in, rows_text}
use Rattle.mx_count.specs.Rows.{Row, rows_of}
use Rattle.mx_count.proofs.RowLemmas.{joined}
use Rattle.mx_count.proofs.counted_run.add_counts.Goals as goal

pub add_rows-requires : goal.add_rows-requires
add_rows-requires g c = omega arith

pub add_verdict-requires : goal.add_verdict-requires
add_verdict-requires g c = omega arith

pub trace-requires : goal.trace-requires
trace-requires g c = omega arith

pub verdict_status-requires : goal.verdict_status-requires
verdict_status-requires g c = omega arith

pub returns-clause-zero : goal.returns-clause-zero
returns-clause-zero g c = c.verdict_status.ensures ∙ ap verdict_status (c.judge-verdict.ensures.serial c.trace.ensures.serial)

pub returns-clause-text : goal.returns-clause-text
returns-clause-text g c =
    let json = c.args.options.is_json in
    let all = rows_in (word_by g.C.Msg.Letter.parts) g.C.Msg.Letter.words c.args.options c.args.plan.now c.args.events c.args.cluster.now in
    let rows : rows_of c.as_slice.result.now ≡ all =
    ap rows_of c.as_slice.ensures.value ∙ c.in_ok-add_rows.ensures ∙ ap (λ l. rows_of l ++ all) c.new-rows.ensures.items in
    joined (string_bytes c.args.text.now) (string_bytes c.add_text.new.text) (string_bytes c.add_verdict.new.text) (rows_text json c.args.plan.now all) (verdict_text json Sound)
    (c.in_ok-add_text.ensures ∙ ap (λ (l : List Row). string_bytes c.args.text.now ++ rows_text json c.args.plan.now l) rows)
    (c.in_ok-add_verdict.ensures ∙ ap (λ (v : Verdict). string_bytes c.add_text.new.text ++ verdict_text json v) (c.judge-verdict.ensures.serial c.trace.ensures.serial))
