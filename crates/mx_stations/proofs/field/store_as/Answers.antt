use Rattle.std.proofs.Common.{arith, subst}
use Rattle.mx_stations.specs.Running.{GoToNodes}
use Rattle.mx_stations.proofs.Acting.{acts_at}
use Rattle.mx_stations.proofs.field.store_as.Goals as goal

pub store-requires : goal.store-requires
store-requires g c =
    let f = c.args.field.now in let r = c.requires in
    let X = g.C.Exclusion in let laws = g.met.C.Exclusion in
    (r.table, (let is = c.get.ensures.value in omega (arith, f.words, r.within)), acts_at X.core X.IsShape X.Good laws.phases laws.laws _ _ _ _ _ _ _ _ _ _ _ _ _ _ f.key r.count r.alone r.node r.act c.status_of-new.ensures r.next c.get.ensures.value)

pub returns-clause-sent : goal.returns-clause-sent
returns-clause-sent g c =
    subst (λ k. GoToNodes k c.store.new.seat.me.0) c.requires.count c.store.ensures.2.1
