use Rattle.std.proofs.Common.{arith, subst, ℕ}
use Rattle.mx_stations.specs.Together.{ShowsNode}
use Rattle.mx_stations.proofs.Tells.{tells}
use Rattle.mx_stations.proofs.together.see_as.Goals as goal

pub load-requires : goal.load-requires
load-requires g c =
    let f = c.args.field.now in let r = c.requires in let X = g.C.Exclusion in let laws = g.met.C.Exclusion in
    (r.table, omega (arith, f.words, r.within), tells X.core X.IsShape X.Good laws.laws _ _ _ _ _ _ _ f.key r.count r.within)

pub returns-clause-seen : goal.returns-clause-seen
returns-clause-seen g c =
    let X = g.C.Exclusion in let e = c.load.ensures.2 in
    subst (λ m. ShowsNode X.core X.Good c.args.field.now.nodes c.args.node c.load.result m.0) e.0
    (subst (λ (n : ℕ). ShowsNode X.core X.Good n c.args.node c.load.result c.load.new.seat.me.0) c.requires.count e.1)
