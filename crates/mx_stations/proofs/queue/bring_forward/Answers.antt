use Rattle.std.proofs.Common.{◌≡◌, ◌+◌, ap, arith, length, subst, take, ◌∙◌}
use Rattle.std.specs.List.{SwappedAt}
use Rattle.mx_stamps.specs.Lists.{IsIn}
use Rattle.mx_stations.proofs.Waits.{brought, brought_among, brought_itself, refilled}
use Rattle.mx_stations.proofs.queue.bring_forward.Goals as goal

pub returns-then-kept-index-clause-front : goal.returns-then-kept-index-clause-front
returns-then-kept-index-clause-front g c = λ x there.
    let same = c.as_mut_slice.ensures.value in
    ap (take (c.args.kept + 1)) (refilled c.args.waiting.now.items c.swap.new.self (c.swap.ensures.len ∙ ap length same))
    ∙ brought c.args.waiting.now.items c.swap.new.self c.args.kept c.args.index x c.if-kept-index.true there
    (subst (λ xs. SwappedAt xs c.swap.new.self c.args.kept c.args.index) same c.swap.ensures.by_index)

pub returns-else-kept-index-clause-front : goal.returns-else-kept-index-clause-front
returns-else-kept-index-clause-front g c = λ x there. let same : c.args.kept ≡ c.args.index = (let t = c.if-kept-index.false in let low = c.requires.low in omega arith) in brought_itself c.args.waiting.now.items c.args.kept c.args.index x same there

pub returns-then-kept-index-clause-among : goal.returns-then-kept-index-clause-among
returns-then-kept-index-clause-among g c = λ x h.
    let same = c.as_mut_slice.ensures.value in
    brought_among c.args.waiting.now.items c.swap.new.self c.args.kept c.args.index x c.if-kept-index.true c.requires.within
    (subst (λ xs. SwappedAt xs c.swap.new.self c.args.kept c.args.index) same c.swap.ensures.by_index)
    (subst (λ xs. IsIn x xs) (refilled c.args.waiting.now.items c.swap.new.self (c.swap.ensures.len ∙ ap length same)) h)

pub returns-else-kept-index-clause-among : goal.returns-else-kept-index-clause-among
returns-else-kept-index-clause-among g c = λ x h. h
