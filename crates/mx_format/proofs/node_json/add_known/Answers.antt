use Rattle.std.proofs.Common.{◌≡◌, ◌∙◌, ◌++◌, ap, codes, map, string_bytes}
use Rattle.mx_plan.specs.Text.{Text}
use Rattle.mx_knowledge.specs.Facts.{fact_of}
use Rattle.mx_format.specs.FactTexts.{fact_json, knows_json}
use Rattle.mx_format.specs.Members.{array_member}
use Rattle.mx_format.proofs.FactLemmas.{facts_seen}
use Rattle.mx_format.proofs.PlanLemmas.{appended}
use Rattle.mx_format.proofs.node_json.add_known.Goals as goal

pub returns : goal.returns
returns g c =
    let json = fact_json c.args.plan.now in
    let facts = c.as_slice.result.now in
    let known = g.C.Knowledge.knows c.args.member.now.core in
    let is : map fact_of facts ≡ known = c.as_slice.ensures ∙ c.in_ok-facts.ensures ∙ ap g.C.Knowledge.knows c.core.ensures in
    appended c.add_array.result (string_bytes c.args.text.now) (string_bytes c.add_array.new.text) (array_member (codes "knows") (λ fact. json (fact_of fact)) facts) (knows_json c.args.plan.now known)
    c.add_array.ensures (ap (λ (l : Text). codes ",\"knows\":[" ++ l ++ codes "]") (facts_seen (codes ",") json facts known is))
