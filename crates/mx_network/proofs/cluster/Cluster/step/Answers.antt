use Rattle.std.proofs.Common.{[], ◌∙◌, Err, Ok, ◌∷◌, ◌++◌, ap, sym}
use Rattle.mx_trace.specs.declared.outcome.Entry.{Entry}
use Rattle.mx_trace.specs.declared.outcome.Outcome.{Outcome}
use Rattle.mx_network.specs.Step.{ClusterState}
use Rattle.mx_network.proofs.Happening.{noted}
use Rattle.mx_network.proofs.Refusals.{no_node, no_parcel}
use Rattle.mx_network.proofs.Refused.{never_settled, refused_unchanged}
use Rattle.mx_network.proofs.Seen.{seen_kept}
use Rattle.mx_network.proofs.cluster.Cluster.step.Goals as goal

pub newest-requires : goal.newest-requires
newest-requires g c =
    let n = noted g.C.Exclusion.core c.args.self.now c.args.event c.apply_with_room.new.self c.in-Ok.ensures.ok in
    let entry : Entry = record { event = c.args.event; outcome = n.0 } in
    let ends_so = c.deref.ensures.value ∙ ap (λ (x : ClusterState g.row.C.Denot g.row.C-Msg.Denot). x.trace) c.self-2.view_is ∙ n.1 in
    record {
      ends = (
        c.args.self.now.trace,
        entry,
        ends_so,
        λ receipt is. c.in-Ok.ensures.room receipt (n.1 ∙ ap (λ (o : Outcome). c.args.self.now.trace ++ record { event = c.args.event; outcome = o } ∷ []) is),
      );
    }

pub returns-clause-ok : goal.returns-clause-ok
returns-clause-ok g c = c.in-Ok.ensures.ok

pub returns-clause-outcome : goal.returns-clause-outcome
returns-clause-outcome g c =
    let n = noted g.C.Exclusion.core c.args.self.now c.args.event c.apply_with_room.new.self c.in-Ok.ensures.ok in
    let entry : Entry = record { event = c.args.event; outcome = n.0 } in
    let ends_so = c.deref.ensures.value ∙ ap (λ (x : ClusterState g.row.C.Denot g.row.C-Msg.Denot). x.trace) c.self-2.view_is ∙ n.1 in
    n.1 ∙ ap (λ (o : Outcome). c.args.self.now.trace ++ record { event = c.args.event; outcome = o } ∷ []) (sym (c.newest.ensures c.args.self.now.trace entry ends_so))

pub returns-clause-no_node : goal.returns-clause-no_node
returns-clause-no_node g c =
    no_node g.C.Exclusion.core g.C.Exclusion.Good c.args.self.now c.apply_with_room.new.self c.args.event (Ok c.newest.result)
    (seen_kept _ _ c.self.view_is c.self.invariant.1)
    c.in-Ok.ensures.ok tt

pub returns-in-Err-clause-no_node : goal.returns-in-Err-clause-no_node
returns-in-Err-clause-no_node g c =
    no_node g.C.Exclusion.core g.C.Exclusion.Good c.args.self.now c.apply_with_room.new.self c.args.event (Err c.in-Err.fault)
    (seen_kept _ _ c.self.view_is c.self.invariant.1)
    tt c.in-Err.ensures.fault

pub returns-clause-no_parcel : goal.returns-clause-no_parcel
returns-clause-no_parcel g c =
    no_parcel g.C.Exclusion.core g.C.Exclusion.Good c.args.self.now c.apply_with_room.new.self c.args.event (Ok c.newest.result)
    (seen_kept _ _ c.self.view_is c.self.invariant.1)
    c.in-Ok.ensures.ok tt

pub returns-in-Err-clause-no_parcel : goal.returns-in-Err-clause-no_parcel
returns-in-Err-clause-no_parcel g c =
    no_parcel g.C.Exclusion.core g.C.Exclusion.Good c.args.self.now c.apply_with_room.new.self c.args.event (Err c.in-Err.fault)
    (seen_kept _ _ c.self.view_is c.self.invariant.1)
    tt c.in-Err.ensures.fault

pub returns-clause-refused : goal.returns-clause-refused
returns-clause-refused g c =
    refused_unchanged g.C.Exclusion.core g.met.C.Exclusion.phases c.args.self.now c.apply_with_room.new.self c.args.event (Ok c.newest.result) c.in-Ok.ensures.ok (returns-clause-outcome g c)

pub returns-clause-unsettled : goal.returns-clause-unsettled
returns-clause-unsettled g c =
    never_settled g.C.Exclusion.core g.C.Exclusion.Good c.args.self.now c.apply_with_room.new.self
    (seen_kept _ _ c.self.view_is c.self.invariant.1)
    c.args.event (Ok c.newest.result) c.in-Ok.ensures.ok (returns-clause-outcome g c)

pub returns-in-Err-clause-fault : goal.returns-in-Err-clause-fault
returns-in-Err-clause-fault g c = c.in-Err.ensures.fault

pub returns-in-Err-clause-err : goal.returns-in-Err-clause-err
returns-in-Err-clause-err g c = c.in-Err.ensures.err
