use Rattle.std.proofs.Common.{◌≡◌, ◌∙◌, ap, sym, rules, Ok, Err, append-nil, map, get_or, ◌++◌, ◌∷◌, [], ◌+◌}
use Rattle.serde_json.specs.View.{view}
use Rattle.mx_plan.specs.Events.{event_of, events_from}
use Rattle.mx_plan.proofs.EachLemmas.{after, gives_fault, rest, rest_end, rest_err, rest_ok}
use Rattle.mx_plan.proofs.event_reader.each_event.Goals as goal

pub returns-in_err-event : goal.returns-in_err-event
returns-in_err-event c =
    let p = c.args.plan.now in
    let values = c.args.values.now in
    let k = c.loop-k.k in
    let is : event_of p k (view (get_or values k c.index-values-k.result)) ≡ Err c.in_err-event.field-0.0 =
    ap (λ v. event_of p k (view v)) (sym c.index-values-k.is) ∙ sym c.event_in.ensures ∙ c.in_err-event.was in
    let wanted : events_from p 0 (map view values) ≡ Err c.in_err-event.field-0.0 =
    c.loop-k.invariant ∙ rest_err view (event_of p) values c.loop-k.events.items k c.index-values-k.result c.in_err-event.field-0.0 c.loop-k-test.true is in
    gives_fault _ c.in_err-event.field-0.0 c.from_residual.result c.from_residual.ensures.1 wanted

pub loop-k-preserved : goal.loop-k-preserved
loop-k-preserved c =
    let p = c.args.plan.now in
    let values = c.args.values.now in
    let k = c.loop-k.k in
    let is : event_of p k (view (get_or values k c.index-values-k.result)) ≡ Ok c.in_ok-event.event =
    ap (λ v. event_of p k (view v)) (sym c.index-values-k.is) ∙ sym c.event_in.ensures ∙ c.in_ok-event.was in
    let grown : c.push.new.self.items ≡ c.loop-k.events.items ++ c.in_ok-event.event ∷ [] = search rules in
    c.loop-k.invariant
    ∙ rest_ok view (event_of p) values c.loop-k.events.items k c.index-values-k.result c.in_ok-event.event c.loop-k-test.true is
    ∙ ap (λ es. after es (rest view (event_of p) values (k + 1))) (sym grown)

pub returns : goal.returns
returns c = c.loop-k.invariant ∙ ap (after c.loop-k.events.items) (rest_end view (event_of c.args.plan.now) c.args.values.now c.loop-k.k c.loop-k-test.false) ∙ ap Ok (append-nil c.loop-k.events.items)
