use Rattle.std.proofs.Common.{◌∙◌, ◌++◌, ap, codes, string_bytes}
use Rattle.mx_plan.specs.Text.{Text, line_feed}
use Rattle.mx_format.specs.FactTexts.{fact_text}
use Rattle.mx_format.specs.Lines.{joined}
use Rattle.mx_format.proofs.FactLemmas.{facts_seen}
use Rattle.mx_format.proofs.NodeLemmas.{three}
use Rattle.mx_format.proofs.facts.add_facts_line.Goals as goal

pub returns : goal.returns
returns c =
    let text = fact_text c.args.plan.now in
    three c.push_str-2.result (string_bytes c.args.text.now) (string_bytes c.push_str.new.self) (string_bytes c.add_joined.new.text) (string_bytes c.push_str-2.new.self)
    (codes "  ") (joined (codes ", ") text c.args.facts.now) line_feed c.in_ok-push_str.ensures.bytes
    (c.in_ok-add_joined.ensures ∙ ap (λ (l : Text). string_bytes c.push_str.new.self ++ l) (facts_seen (codes ", ") text c.as_slice.result.now c.args.facts.now c.as_slice.ensures))
    c.push_str-2.ensures.bytes
