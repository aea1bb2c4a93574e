use Rattle.std.proofs.Common.{◌≡◌, ◌∙◌, ◌≤◌, ◌+◌, ap, arith, length}
use Rattle.std.specs.List.{count_by}
use Rattle.mx_format.specs.Parts.{word_by}
use Rattle.mx_count.specs.Kinds.{is_in}
use Rattle.mx_count.proofs.CountLemmas.{count_first, count_fits, count_numbered}
use Rattle.mx_count.proofs.parcel_rows.count_parcels.Goals as goal

pub loop-sent-init : goal.loop-sent-init
loop-sent-init g c =
    let counts = is_in (word_by g.C.Msg.Letter.parts) c.args.group.now in
    let all = ap (count_by (λ x. counts x.1)) (c.into_iter-sent-iterator.ensures.into_iter_gives ∙ c.parcels_from-sent-items.ensures) ∙ count_numbered counts 0 c.args.cluster.now.sent in
    omega (arith, all)

pub overflow_add-count : goal.overflow_add-count
overflow_add-count g c =
    let counts = is_in (word_by g.C.Msg.Letter.parts) c.args.group.now in
    let sent = c.args.cluster.now.sent in
    let one = count_first (λ x. counts x.1) c.loop-sent.sent-iterator c.next.new.self _ c.is_in.result c.from-count.result c.in-Some.ensures.steps c.is_in.ensures c.from-count.ensures in
    let whole = c.loop-sent.invariant in
    let fits : c.loop-sent.count + c.from-count.result ≤ length sent = count_fits counts sent (c.loop-sent.count + c.from-count.result) (count_by (λ x. counts x.1) c.next.new.self) (omega (arith, one, whole)) in
    let all : c.sent.result ≡ length sent = c.sent.ensures in
    omega arith

pub loop-sent-preserved : goal.loop-sent-preserved
loop-sent-preserved g c =
    let counts = is_in (word_by g.C.Msg.Letter.parts) c.args.group.now in
    let one = count_first (λ x. counts x.1) c.loop-sent.sent-iterator c.next.new.self _ c.is_in.result c.from-count.result c.in-Some.ensures.steps c.is_in.ensures c.from-count.ensures in
    let whole = c.loop-sent.invariant in
    omega (arith, one, whole)

pub returns : goal.returns
returns g c =
    let counts = is_in (word_by g.C.Msg.Letter.parts) c.args.group.now in
    let none : count_by (λ x. counts x.1) c.loop-sent.sent-iterator ≡ 0 = ap (count_by (λ x. counts x.1)) c.in-None.ensures.steps.0 in
    let whole = c.loop-sent.invariant in
    omega (arith, none, whole)
