use Rattle.std.proofs.Common.{◌≡◌, ◌∙◌, ◌+◌, Err, ap, refl, subst, sym}
use Rattle.serde_json.specs.View.{view}
use Rattle.mx_judge.specs.Entries.{item_of}
use Rattle.mx_judge.specs.Faults.{list_fault}
use Rattle.mx_judge.specs.Listed.{listed, nothing}
use Rattle.mx_judge.specs.Traces.{GivesTrace, with_item}
use Rattle.mx_judge.specs.declared.faults.ItemFault.{ItemFault}
use Rattle.mx_judge.specs.declared.faults.TraceFault.{TraceFault}
use Rattle.mx_judge.proofs.ItemLemmas.{added, gives_refused, refused, rest, rest_end, rest_err, rest_ok}
use Rattle.mx_judge.proofs.trace_reader.read_items.Goals as goal

pub returns-in-Err : goal.returns-in-Err
returns-in-Err c =
    let item = item_of c.args.plan.now in
    let items = c.args.items.now in
    let t = listed c.loop-index.trace in
    let k = c.loop-index.index in
    let x = c.index-items-index.result in
    let fault = c.in-Err.fault in
    let wanted = rest view item list_fault items nothing 0 in
    let found = refused (k + 1) t c.item_in-item.result (item (view x) t.names) fault c.item_in-item.ensures c.in-Err.ensures.err in
    let named = λ (e : ItemFault) (is : with_item (k + 1) t (item (view x) t.names) ≡ Err e).
    c.loop-index.invariant ∙ rest_err view item list_fault items t k x e c.loop-index-test.true (ap (λ v. with_item (k + 1) t (item (view v) t.names)) (sym c.index-items-index.is) ∙ is) in
    subst (λ (f : TraceFault). GivesTrace wanted (Err f)) (sym c.of_item.ensures)
    (gives_refused list_fault (k + 1) wanted (with_item (k + 1) t (item (view x) t.names)) fault refl named found)

pub loop-index-preserved : goal.loop-index-preserved
loop-index-preserved c =
    let item = item_of c.args.plan.now in
    let t = listed c.loop-index.trace in
    let k = c.loop-index.index in
    let x = c.index-items-index.result in
    let more = listed c.add_item.new.trace in
    let read = added (k + 1) t more c.item_in-item.result (item_of c.args.plan.now (view c.index-items-index.result) t.names) c.item_in-item.ensures c.in_default.ensures.ok in
    let is = ap (λ v. with_item (k + 1) t (item (view v) t.names)) (sym c.index-items-index.is) ∙ read in
    c.loop-index.invariant ∙ rest_ok view item list_fault c.args.items.now t more k x c.loop-index-test.true is

pub returns : goal.returns
returns c =
    c.loop-index.invariant
    ∙ rest_end view (item_of c.args.plan.now) list_fault c.args.items.now (listed c.loop-index.trace) c.loop-index.index c.loop-index-test.false
