use Rattle.std.proofs.Common.{◌≡◌, ◌∙◌, ap, sym, Ok, Err, append-nil, map, get_or, ◌++◌, ◌∷◌, [], ◌+◌}
use Rattle.serde_json.specs.View.{view}
use Rattle.mx_plan.specs.Values.{each}
use Rattle.mx_plan.specs.TreeKeys.{edge_of}
use Rattle.mx_plan.proofs.EachLemmas.{after, gives_fault, rest, rest_end, rest_err, rest_ok}
use Rattle.mx_plan.proofs.tree_reader.each_edge.Goals as goal

pub returns-in_err-edge : goal.returns-in_err-edge
returns-in_err-edge c =
    let values = c.args.values.now in
    let rule = edge_of c.args.nodes.now in
    let i = c.loop-value.value-index in
    let item = c.value-item.result in
    let is : rule (view (get_or values i item)) ≡ Err c.in_err-edge.field-0.0 =
    ap (λ v. rule (view v)) (sym c.value-item.is) ∙ sym c.edge_in.ensures ∙ c.in_err-edge.was in
    let wanted : each rule (map view values) ≡ Err c.in_err-edge.field-0.0 =
    c.loop-value.invariant ∙ rest_err view (λ _. rule) values c.loop-value.edges.items i item c.in_err-edge.field-0.0 c.loop-value-test.true is in
    gives_fault _ c.in_err-edge.field-0.0 c.from_residual.result c.from_residual.ensures.1 wanted

pub loop-value-preserved : goal.loop-value-preserved
loop-value-preserved c =
    let values = c.args.values.now in
    let rule = edge_of c.args.nodes.now in
    let i = c.loop-value.value-index in
    let item = c.value-item.result in
    let is : rule (view (get_or values i item)) ≡ Ok c.in_ok-edge.edge =
    ap (λ v. rule (view v)) (sym c.value-item.is) ∙ sym c.edge_in.ensures ∙ c.in_ok-edge.was in
    let grown : c.push.new.self.items ≡ c.loop-value.edges.items ++ c.in_ok-edge.edge ∷ [] = c.in_ok-push.ensures.items in
    c.loop-value.invariant
    ∙ rest_ok view (λ _. rule) values c.loop-value.edges.items i item c.in_ok-edge.edge c.loop-value-test.true is
    ∙ ap (λ ns. after ns (rest view (λ _. rule) values (i + 1))) (sym grown)

pub returns : goal.returns
returns c =
    let rule = edge_of c.args.nodes.now in
    c.loop-value.invariant
    ∙ ap (after c.loop-value.edges.items) (rest_end view (λ _. rule) c.args.values.now c.loop-value.value-index c.loop-value-test.false)
    ∙ ap Ok (append-nil c.loop-value.edges.items)
