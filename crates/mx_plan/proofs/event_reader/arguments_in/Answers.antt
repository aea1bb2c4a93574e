use Rattle.std.proofs.Common.{◌∙◌, ap, sym, arith, map, Ok, append-nil, get_or, refl, ◌+◌}
use Rattle.serde_json.specs.View.{view}
use Rattle.mx_events.specs.declared.argument.ArgumentKind.TheVariants.{Node}
use Rattle.mx_plan.proofs.Lists.{length-map'}
use Rattle.mx_plan.proofs.EachLemmas.{after, after-nil, is_fault}
use Rattle.mx_plan.proofs.EventLemmas.{argument_err, argument_ok, arguments_end, arguments_from, as_many}
use Rattle.mx_plan.specs.Events.{argument_in, arguments_in}
use Rattle.mx_plan.proofs.event_reader.arguments_in.Goals as goal

pub loop-i-init : goal.loop-i-init
loop-i-init c =
    let all = arguments_in c.args.plan.now c.args.k c.args.kinds.now (map view c.args.values.now) in
    record {
      so_far = after-nil all ∙ ap (λ items. after items all) (sym c.new-arguments.ensures);
      count = rw c.new-arguments.ensures refl;
      as_many = as_many c.args.kinds.now (map view c.args.values.now) c.requires.form ∙ length-map' view c.args.values.now;
    }

pub returns-in_err-argument-clause-err : goal.returns-in_err-argument-clause-err
returns-in_err-argument-clause-err c =
    let kind = get_or c.args.kinds.now c.loop-i.i Node in
    let is = ap (λ value. argument_in c.args.plan.now c.args.k kind (view value)) (sym c.index-values-i.is) ∙ sym c.argument_in.ensures ∙ c.in_err-argument.was in
    is_fault _ c.in_err-argument.field-0.0 c.from_residual.result c.from_residual.ensures.1
    (c.loop-i.invariant.so_far
    ∙ argument_err view c.args.kinds.now c.args.values.now c.args.plan.now c.args.k c.loop-i.arguments.items c.loop-i.i Node c.index-values-i.result
    c.in_err-argument.field-0.0 c.loop-i-test.true (omega arith) is)

pub loop-i-preserved : goal.loop-i-preserved
loop-i-preserved c =
    let kind = get_or c.args.kinds.now c.loop-i.i Node in
    let is = ap (λ value. argument_in c.args.plan.now c.args.k kind (view value)) (sym c.index-values-i.is) ∙ sym c.argument_in.ensures ∙ c.in_ok-argument.was in
    let rest = arguments_from view c.args.kinds.now c.args.values.now c.args.plan.now c.args.k (c.loop-i.i + 1) in
    record {
      so_far = c.loop-i.invariant.so_far
          ∙ argument_ok view c.args.kinds.now c.args.values.now c.args.plan.now c.args.k c.loop-i.arguments.items c.loop-i.i Node c.index-values-i.result
          c.in_ok-argument.argument c.loop-i-test.true (omega arith) is
          ∙ ap (λ items. after items rest) (sym c.push.ensures.items);
      count = omega (arith, c.push.ensures.len);
      as_many = c.loop-i.invariant.as_many;
    }

pub returns-clause-ok : goal.returns-clause-ok
returns-clause-ok c =
    c.loop-i.invariant.so_far
    ∙ ap (after c.loop-i.arguments.items) (arguments_end view c.args.kinds.now c.args.values.now c.args.plan.now c.args.k c.loop-i.i c.loop-i-test.false)
    ∙ ap Ok (append-nil c.loop-i.arguments.items)
