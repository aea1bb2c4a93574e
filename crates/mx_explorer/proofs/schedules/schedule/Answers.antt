use Rattle.std.proofs.Common.{suc, ◌≡◌, ◌+◌, ◌++◌, [], ◌∷◌, length, sym, ◌∙◌, ap, subst, arith, refl}
use Rattle.mx_stamps.specs.Lists.{IsIn}
use Rattle.mx_stamps.proofs.Lists.{append_append, append_nil}
use Rattle.mx_explorer.specs.Drawn.{after_drawn, drawn_list}
use Rattle.mx_explorer.specs.Weather.{generator_of}
use Rattle.mx_explorer.proofs.DrawnEvents.{all_within}
use Rattle.mx_explorer.proofs.schedules.schedule.Goals as goal

pub loop-init : goal.loop-init
loop-init c = record {
  count = c.new-events.ensures.len;
  value = λ rest is.
      let all : rest ≡ c.args.steps = omega (arith, is) in
      rw (c.new-events.ensures.items, c.seed_from_u64-words.ensures, all) refl;
}

pub loop-preserved : goal.loop-preserved
loop-preserved c =
    let items = c.loop.events.items in
    let nodes = c.nodes-nodes.result in
    let registers = c.registers-registers.result in
    record {
      count = c.in_ok-push.ensures.len ∙ ap (λ n. n + 1) c.loop.invariant.count;
      value = λ rest is.
          ap (λ l. l ++ drawn_list rest nodes registers c.draw.new.words) c.in_ok-push.ensures.items
          ∙ append_append items (c.draw.result ∷ []) (drawn_list rest nodes registers c.draw.new.words)
          ∙ ap (λ g. items ++ c.draw.result ∷ drawn_list rest nodes registers g) c.draw.ensures.next
          ∙ ap (λ e. items ++ e ∷ drawn_list rest nodes registers (after_drawn e c.loop.words)) c.draw.ensures.value
          ∙ c.loop.invariant.value (suc rest) (omega (arith, is));
    }

whole : (c : goal.After-loop) → c.loop.events.items ≡ drawn_list c.args.steps (length c.args.plan.now.nodes) (length c.args.plan.now.registers) (generator_of c.args.seed)
whole c =
    rw (← c.nodes-nodes.ensures.value, ← c.registers-registers.ensures.value)
    (sym (append_nil c.loop.events.items) ∙ c.loop.invariant.value 0 (omega (arith, c.loop-test.false, c.loop.auto.counter-end)))

pub returns-clause-value : goal.returns-clause-value
returns-clause-value c = whole c

pub returns-clause-named : goal.returns-clause-named
returns-clause-named c = λ e h.
    all_within c.args.steps (length c.args.plan.now.nodes) (length c.args.plan.now.registers) (generator_of c.args.seed) (omega (arith, c.nodes-nodes.ensures)) (omega (arith, c.registers-registers.ensures)) e (subst (IsIn e) (whole c) h)
