use Rattle.std.proofs.Common.{rules, ap, ◌∙◌, arith, ℕ, ◌≡◌, true, false, [], length, suc}
use Rattle.std.specs.Arc.{arc_value}
use Rattle.mx_stations.specs.Opened.{starts_of}
use Rattle.mx_stations.specs.Running.{fresh}
use Rattle.mx_stations.proofs.Opens.{all_length, one_more, first_of, first_out}
use Rattle.mx_stations.proofs.Posts.{opened}
use Rattle.mx_stations.proofs.Waits.{none_wait}
use Rattle.mx_stations.proofs.Seats.{splits}
use Rattle.mx_stations.proofs.creation.seat_all.Goals as goal

pub of-requires : goal.of-requires
of-requires g c = omega arith

pub loop-index-init : goal.loop-index-init
loop-index-init g c =
    let r = c.requires in
    (r.table, r.nodes, (c.args.setup.now.nodes, omega arith, r.all, c.in_ok-members.ensures), (search rules, λ j s at. absurd (search rules)))

pub unreachable-requires : goal.unreachable-requires
unreachable-requires g c = let bad : false ≡ true = c.in_default.ensures.some.1 (let t = c.loop-index-test.true in let h = c.requires.named in omega arith) in cc

pub split_seat-own-requires : goal.split_seat-own-requires
split_seat-own-requires g c =
    let X = g.C.Exclusion in
    (search rules, search rules, splits X.core X.Good _ _ _)

pub remove-requires : goal.remove-requires
remove-requires g c =
    let i = c.loop-index.invariant in let t = c.loop-index-test.true in let k : ℕ = c.loop-index.index in
    let long : length c.loop-index.members.items ≡ i.2.0 = ap length i.2.3 ∙ all_length k i.2.0 (starts_of g.C.Exclusion.core c.args.setup.now) in
    let sum = i.2.1 in
    let o = c.loop-index.members.ok in
    omega (arith, o)

pub invariant_of-push_reserved : goal.invariant_of-push_reserved
invariant_of-push_reserved g c =
    let i = c.loop-index.invariant in let n : ℕ = c.args.setup.now.nodes in let k : ℕ = c.loop-index.index in
    let starts = starts_of g.C.Exclusion.core c.args.setup.now in
    let first = first_of k i.2.0 n (λ z. fresh z (starts z)) _ (ap (λ m. m.0) i.2.2) i.2.1 c.loop-index-test.true in
    let out = first_out k i.2.0 n starts c.loop-index.members.items c.remove.result i.2.3 i.2.1 c.loop-index-test.true c.remove.ensures.value in
    let own = c.split_seat-own.ensures in
    let node = c.in-Some.ensures.value in
    (search rules, (opened starts k _ _ c.remove.result c.new.result.items (own.4 ∙ ap (λ v. (v, [])) first.0) node out.0 c.new.ensures.items).0, search rules, none_wait _ _ _ c.new-in-loop-index-2.ensures)

pub loop-index-preserved : goal.loop-index-preserved
loop-index-preserved g c =
    let i = c.loop-index.invariant in let n : ℕ = c.args.setup.now.nodes in let k : ℕ = c.loop-index.index in
    let starts = starts_of g.C.Exclusion.core c.args.setup.now in
    let first = first_of k i.2.0 n (λ z. fresh z (starts z)) _ (ap (λ m. m.0) i.2.2) i.2.1 c.loop-index-test.true in
    let out = first_out k i.2.0 n starts c.loop-index.members.items c.remove.result i.2.3 i.2.1 c.loop-index-test.true c.remove.ensures.value in
    let own = c.split_seat-own.ensures in
    let node = c.in-Some.ensures.value in
    let left : suc first.1.0 ≡ i.2.0 = (let a = first.1.1 in let b = i.2.1 in omega arith) in (
      own.0 ∙ i.0,
      i.1,
      (first.1.0, first.1.1, own.2 ∙ (λ j. (first.1.2 j, (i.2.2 j).1)), c.remove.ensures.items ∙ out.1 first.1.0 left),
      one_more starts n _ k _ _ _ _ i.3 c.reserve.ensures.items c.push_reserved.ensures.items (search rules) (search rules)
          (opened starts k _ _ c.remove.result c.new.result.items (own.4 ∙ ap (λ v. (v, [])) first.0) node out.0 c.new.ensures.items).1 c.new-in-loop-index-2.ensures,
    )

pub returns : goal.returns
returns g c =
    let i = c.loop-index.invariant in
    let e : c.loop-index.index ≡ c.args.setup.now.nodes = (let t = c.loop-index-test.false in let a = c.loop-index.auto.index-end in omega arith) in
    (i.3.0 ∙ e, ((arc_value c.args.field).board.shared.table_id, λ j s at. i.3.1 j s at))

pub start_members-requires : goal.start_members-requires
start_members-requires g c = let r = c.requires in (search rules, (r.counted, (r.named, (r.low, (r.high, (r.some, r.few))))))

pub push_reserved-requires : goal.push_reserved-requires
push_reserved-requires g c = search rules
