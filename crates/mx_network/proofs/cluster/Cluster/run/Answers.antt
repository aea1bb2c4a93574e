use Rattle.std.proofs.Common.{arith, List, [], ◌∷◌, ◌++◌, IfSome, Option, take, subst, sym, ap, ◌∙◌}
use Rattle.std.proofs.lemmas.List.{take_all, take_more}
use Rattle.mx_events.specs.declared.event.Event.{Event}
use Rattle.mx_network.specs.Step.{ClusterState, IsFaultOf, RunsTo, step_of}
use Rattle.mx_network.proofs.Happening.{at_place}
use Rattle.mx_network.proofs.Keeps.{RunsTo-snoc}
use Rattle.mx_network.proofs.cluster.Cluster.run.Goals as goal

pub loop-index-preserved : goal.loop-index-preserved
loop-index-preserved g c =
    subst (λ (es : List Event). RunsTo g.C.Exclusion.core c.args.self.now es c.advance.new.self)
    (sym (take_more c.args.events.now c.loop-index.index c.index-events-index.result c.loop-index-test.true ∙ ap (λ (x : Event). take c.loop-index.index c.args.events.now ++ x ∷ []) (sym c.index-events-index.is)))
    (RunsTo-snoc g.C.Exclusion.core c.args.self.now c.loop-index.self c.advance.new.self (take c.loop-index.index c.args.events.now) c.index-events-index.result c.loop-index.invariant c.in_default.ensures.ok)

pub returns-in-Err-clause-fault : goal.returns-in-Err-clause-fault
returns-in-Err-clause-fault g c =
    subst (λ (o : Option Event). IfSome o (λ e. IsFaultOf (step_of g.C.Exclusion.core c.advance.new.self e) c.in-Err.fault))
    (sym (at_place c.args.events.now c.loop-index.index c.index-events-index.result c.loop-index-test.true c.index-events-index.is))
    (subst (λ (s : ClusterState g.row.C.Denot g.row.C-Msg.Denot). IsFaultOf (step_of g.C.Exclusion.core s c.index-events-index.result) c.in-Err.fault) (sym c.in-Err.ensures.err) c.in-Err.ensures.fault)

pub returns-clause-ok : goal.returns-clause-ok
returns-clause-ok g c =
    subst (λ (es : List Event). RunsTo g.C.Exclusion.core c.args.self.now es c.loop-index.self)
    (take_all c.loop-index.index c.args.events.now c.loop-index-test.false) c.loop-index.invariant

pub bounds-events-index : goal.bounds-events-index
bounds-events-index g c = c.loop-index-test.true

pub returns-in-Err-clause-err : goal.returns-in-Err-clause-err
returns-in-Err-clause-err g c = (c.loop-index-test.true, subst (λ (s : ClusterState g.row.C.Denot g.row.C-Msg.Denot). RunsTo g.C.Exclusion.core c.args.self.now (take c.loop-index.index c.args.events.now) s) (sym c.in-Err.ensures.err) c.loop-index.invariant)

pub loop-index-smaller : goal.loop-index-smaller
loop-index-smaller g c = (let t = c.loop-index-test.true in omega arith)
