use Rattle.std.proofs.Common.{◌≡◌, ◌∙◌, ℕ, IfOk, List, None, Some, ap, subst}
use Rattle.mx_format.specs.StuckTexts.{nodes_in, others_in}
use Rattle.mx_format.proofs.FactLemmas.{others_seen}
use Rattle.mx_format.proofs.stuck.others_in.Goals as goal

pub returns-in-Some : goal.returns-in-Some
returns-in-Some c =
    let fact = c.in-Some.fact.now in
    let found : nodes_in fact.items.items ≡ others_in c.args.facts.now = others_seen c.as_slice.result.now c.args.facts.now (Some fact) c.as_slice.ensures c.in-Some.ensures in
    subst (λ (ns : List ℕ). IfOk c.nodes_in.result (λ others. others.items ≡ ns)) (ap nodes_in c.as_slice-in-Some.ensures.value ∙ found) c.nodes_in.ensures

pub returns-in-None : goal.returns-in-None
returns-in-None c = c.new.ensures.items ∙ others_seen c.as_slice.result.now c.args.facts.now None c.as_slice.ensures c.in-None.ensures
