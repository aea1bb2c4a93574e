use Rattle.std.proofs.Common.{◌++◌, ◌∷◌, [], sym, ap, ◌∙◌, take, append-nil, arith}
use Rattle.std.proofs.lemmas.List.{take_all}
use Rattle.mx_stations.proofs.Waits.{filled}
use Rattle.mx_stations.proofs.queue.store_up.Goals as goal
use Rattle.mx_stations.proofs.queue.store_up.Goals.{then-len-lt-WAITING_ROOM, else-len-lt-WAITING_ROOM}

pub loop-sent-init : goal.loop-sent-init
loop-sent-init g c = sym (ap (take 64) (append-nil c.args.waiting.now.items) ∙ take_all 64 c.args.waiting.now.items (let e = c.len-count.ensures.value in let f = c.len-count.ensures.fits in omega arith))

pub loop-sent-preserved : goal.loop-sent-preserved
loop-sent-preserved g c =
    let both = filled 64 c.args.waiting.now.items _ c.loop-sent.waiting.items c.loop-sent.sent-index c.sent-item.result c.loop-sent-test.true c.sent-item.is c.loop-sent.invariant in
    let long = c.len.ensures.value in
    elim c.if-len-lt-WAITING_ROOM.branch [
      | then-len-lt-WAITING_ROOM w ↦ ap (λ v. v.items) w.waiting-is ∙ w.push.ensures.items ∙ ap (λ z. c.loop-sent.waiting.items ++ (c.sent-item.result.0, z) ∷ []) w.copy.ensures ∙ both.0 (let low = w.if-len-lt-WAITING_ROOM.true in omega arith)
      | else-len-lt-WAITING_ROOM w ↦ ap (λ v. v.items) w.waiting-is ∙ both.1 (let low = w.if-len-lt-WAITING_ROOM.false in omega arith)
    ]
