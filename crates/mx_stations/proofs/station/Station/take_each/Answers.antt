use Rattle.std.proofs.Common.{rules, ◌≡◌, ℕ, true, false, [], refl, ◌∙◌, subst, arith}
use Rattle.mx_stations.specs.Turns.{TakesFated}
use Rattle.mx_stations.proofs.Going.{goes_nodes, goes_on, stays}
use Rattle.mx_stations.proofs.Posts.{on_err}
use Rattle.mx_stations.proofs.Turning.{few_more, one_more_taken}
use Rattle.mx_stations.proofs.station.Station.take_each.Goals as goal

pub loop-index-init : goal.loop-index-init
loop-index-init g c = record { far = ([], refl, refl, refl); goes = stays g.C.Exclusion.core _ _ refl; empty = c.requires.empty; nodes = refl; few = c.requires.few }

pub unreachable-requires : goal.unreachable-requires
unreachable-requires g c = let bad : false ≡ true = c.in_default.ensures.some.1 (let t = c.loop-index-test.true in let h = c.nodes-index-end.ensures.few in omega arith) in cc

pub returns-in_err-took-clause-goes : goal.returns-in_err-took-clause-goes
returns-in_err-took-clause-goes g c = goes_on g.C.Exclusion.core _ _ _ c.loop-index.invariant.goes c.take_fated.ensures.goes

pub note_taken-requires : goal.note_taken-requires
note_taken-requires g c =
    let t = c.loop-index-test.true in let h = c.nodes-index-end.ensures.few in
    let f = c.loop-index.invariant.few in record { taken = omega (arith, f.0); dropped = omega (arith, f.1); twice = omega (arith, f.2) }

pub loop-index-preserved : goal.loop-index-preserved
loop-index-preserved g c =
    let i = c.loop-index.invariant in let e = c.in_ok-took.ensures in record {
      far = one_more_taken g.C.Exclusion.core _ _ _ _ _ _ _ _ i.far (subst (λ (k : ℕ). TakesFated g.C.Exclusion.core k c.in_ok-took.took c.loop-index.self c.take_fated.new.self) c.in-Some.ensures.value e.taken) c.note_taken.ensures;
      goes = goes_on g.C.Exclusion.core _ _ _ i.goes e.goes;
      empty = e.empty;
      nodes = goes_nodes g.C.Exclusion.core _ _ e.goes ∙ i.nodes;
      few = few_more _ c.in_ok-took.took _ _ i.few c.note_taken.ensures;
    }

pub returns : goal.returns
returns g c =
    let i = c.loop-index.invariant in
    let end : c.loop-index.index ≡ c.args.self.now.nodes = (let t = c.loop-index-test.false in let a = c.loop-index.auto.index-end in let n = c.nodes-index-end.ensures.value in omega arith) in
    record { taken = (i.far.0, i.far.1, i.far.2 ∙ end, i.far.3); none_put = (i.few.3, i.few.4); goes = i.goes; kept = tt }

pub take_fated-requires : goal.take_fated-requires
take_fated-requires g c =
    let is = c.in-Some.ensures.value in let low = c.loop-index-test.true in let count = c.nodes-index-end.ensures.value in let i = c.loop-index.invariant in
    (search rules, (omega (arith, is, low, count, i.nodes), i.empty))

pub returns-in_err-took-clause-kept : goal.returns-in_err-took-clause-kept
returns-in_err-took-clause-kept g c = on_err c.from_residual.result _ c.in_err-took.ensures.kept

pub returns-in_err-took-clause-none_put : goal.returns-in_err-took-clause-none_put
returns-in_err-took-clause-none_put g c = (c.loop-index.invariant.few.3, c.loop-index.invariant.few.4)
