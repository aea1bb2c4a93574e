use Rattle.std.proofs.Common.{◌<◌, ◌∙◌, arith, length, refl, rules, subst, sym}
use Rattle.mx_events.specs.declared.event.Event.TheVariants as event
use Rattle.mx_member.specs.declared.acts.Act.TheVariants as act
use Rattle.mx_network.specs.declared.faults.StepFault.TheVariants.{Memory, NoParcel}
use Rattle.mx_network.specs.Step.{ClusterState}
use Rattle.mx_network.specs.Kept.{IsKept}
use Rattle.mx_network.proofs.Happening.{at_place, done, has_fault, has_happened, has_that_fault, memory_alone, no_part, same_parts, unchanged, without}
use Rattle.mx_network.proofs.Headline.{taken_at}
use Rattle.mx_network.proofs.Keeps.{delivers, kept_by}
use Rattle.mx_network.proofs.Seen.{seen_step}
use Rattle.mx_network.proofs.cluster.Cluster.deliver.Goals as goal

pub index_mut-requires : goal.index_mut-requires
index_mut-requires g c =
    let before : ClusterState g.row.C.Denot g.row.C-Msg.Denot = record { members = c.self.inside.members.items; sent = c.self.inside.parcel_log.sent; trace = c.self.inside.trace.items } in
    let d = delivers g.C.Exclusion.core g.C.Exclusion.IsShape g.C.Exclusion.Good g.met.C.Exclusion.phases g.met.C.Exclusion.laws before c.args.number c.in-Some.found.from c.in-Some.found.to c.in-Some.found.parcel.now c.reserve-room.new.parcel_log.sent c.reserve-room.ensures.sent c.in-Some.ensures c.self.invariant.1 in
    let i = c.get-index.ensures.value in let l = c.self.inside.members.ok.0 in omega (arith, i, l, d.1)

pub returns-in_err-room-in-Some : goal.returns-in_err-room-in-Some
returns-in_err-room-in-Some g c =
    let core = g.C.Exclusion.core in
    let e = event.Deliver c.args.number in
    let before : ClusterState g.row.C.Denot g.row.C-Msg.Denot = record { members = c.self.inside.members.items; sent = c.self.inside.parcel_log.sent; trace = c.self.inside.trace.items } in
    let d = delivers core g.C.Exclusion.IsShape g.C.Exclusion.Good g.met.C.Exclusion.phases g.met.C.Exclusion.laws before c.args.number c.in-Some.found.from c.in-Some.found.to c.in-Some.found.parcel.now c.reserve-room.new.parcel_log.sent c.reserve-room.ensures.sent c.in-Some.ensures c.self.invariant.1 in
    seen_step core before c.args.self.now _ e _ c.self.view_is
    (has_that_fault core before _ e Memory _ c.from_residual.ensures.1
    (memory_alone core before e (c.in-Some.found.to, act.Deliver c.in-Some.found.from c.in-Some.found.parcel.now) d.0 d.1)
    (same_parts _ _ _ _ _ _ refl c.reserve-room.ensures.sent c.reserve-room.ensures.trace))

pub returns-in-None : goal.returns-in-None
returns-in-None g c =
    let core = g.C.Exclusion.core in
    let e = event.Deliver c.args.number in
    let before : ClusterState g.row.C.Denot g.row.C-Msg.Denot = record { members = c.self.inside.members.items; sent = c.self.inside.parcel_log.sent; trace = c.self.inside.trace.items } in
    seen_step core before c.args.self.now _ e _ c.self.view_is
    (has_fault core before _ e NoParcel
    (without core before e NoParcel (no_part (length c.self.inside.members.items) c.reserve-room.new.parcel_log.sent c.self.inside.parcel_log.sent c.args.number c.reserve-room.ensures.sent c.in-None.ensures))
    (same_parts _ _ _ _ _ _ refl c.reserve-room.ensures.sent c.reserve-room.ensures.trace))

pub send_all-requires : goal.send_all-requires
send_all-requires g c = (search rules, c.in_ok-room-in-Some.ensures.room)

pub take_and_note-requires : goal.take_and_note-requires
take_and_note-requires g c =
    let core = g.C.Exclusion.core in
    let before : ClusterState g.row.C.Denot g.row.C-Msg.Denot = record { members = c.self.inside.members.items; sent = c.self.inside.parcel_log.sent; trace = c.self.inside.trace.items } in
    let d = delivers core g.C.Exclusion.IsShape g.C.Exclusion.Good g.met.C.Exclusion.phases g.met.C.Exclusion.laws before c.args.number c.in-Some.found.from c.in-Some.found.to c.in-Some.found.parcel.now c.reserve-room.new.parcel_log.sent c.reserve-room.ensures.sent c.in-Some.ensures c.self.invariant.1 in
    let low : c.get-index.result < length c.self.inside.members.items = let i = c.get-index.ensures.value in omega (arith, i, d.1) in
    let at = at_place c.self.inside.members.items c.get-index.result c.index_mut.result.now low c.index_mut.ensures.value in
    let can = taken_at core g.C.Exclusion.Good before c.self.invariant.1 c.args.number c.in-Some.found.from c.in-Some.found.to c.get-index.result c.in-Some.found.parcel.now c.index_mut.result.now c.reserve-room.new.parcel_log.sent c.reserve-room.ensures.sent c.in-Some.ensures c.get-index.ensures.value at in
    (search rules, (search rules, (c.self.invariant.0, (can, c.in_ok-room-in-Some.ensures.item))))

pub returns-in_err-take_and_note-in-Some : goal.returns-in_err-take_and_note-in-Some
returns-in_err-take_and_note-in-Some g c =
    let core = g.C.Exclusion.core in
    let e = event.Deliver c.args.number in
    let before : ClusterState g.row.C.Denot g.row.C-Msg.Denot = record { members = c.self.inside.members.items; sent = c.self.inside.parcel_log.sent; trace = c.self.inside.trace.items } in
    let d = delivers core g.C.Exclusion.IsShape g.C.Exclusion.Good g.met.C.Exclusion.phases g.met.C.Exclusion.laws before c.args.number c.in-Some.found.from c.in-Some.found.to c.in-Some.found.parcel.now c.reserve-room.new.parcel_log.sent c.reserve-room.ensures.sent c.in-Some.ensures c.self.invariant.1 in
    let low : c.get-index.result < length c.self.inside.members.items = let i = c.get-index.ensures.value in omega (arith, i, d.1) in
    let at = at_place c.self.inside.members.items c.get-index.result c.index_mut.result.now low c.index_mut.ensures.value in
    let stays = c.in_err-take_and_note-in-Some.ensures.err in
    seen_step core before c.args.self.now _ e _ c.self.view_is
    (has_that_fault core before _ e Memory _ c.from_residual-in_err-take_and_note-in-Some.ensures.1
    (memory_alone core before e (c.in-Some.found.to, act.Deliver c.in-Some.found.from c.in-Some.found.parcel.now) d.0 d.1)
    (unchanged c.self.inside.members.items c.self.inside.parcel_log.sent _ c.self.inside.trace.items _ c.get-index.result c.index_mut.result.now c.take_and_note.new.member
    at stays.0 c.reserve-room.ensures.sent (stays.2 ∙ c.reserve-room.ensures.trace)))

pub returns-in_ok-take_and_note-in-Some : goal.returns-in_ok-take_and_note-in-Some
returns-in_ok-take_and_note-in-Some g c =
    let core = g.C.Exclusion.core in
    let e = event.Deliver c.args.number in
    let before : ClusterState g.row.C.Denot g.row.C-Msg.Denot = record { members = c.self.inside.members.items; sent = c.self.inside.parcel_log.sent; trace = c.self.inside.trace.items } in
    let d = delivers core g.C.Exclusion.IsShape g.C.Exclusion.Good g.met.C.Exclusion.phases g.met.C.Exclusion.laws before c.args.number c.in-Some.found.from c.in-Some.found.to c.in-Some.found.parcel.now c.reserve-room.new.parcel_log.sent c.reserve-room.ensures.sent c.in-Some.ensures c.self.invariant.1 in
    let low : c.get-index.result < length c.self.inside.members.items = let i = c.get-index.ensures.value in omega (arith, i, d.1) in
    let at = at_place c.self.inside.members.items c.get-index.result c.index_mut.result.now low c.index_mut.ensures.value in
    let step = done core before e (act.Deliver c.in-Some.found.from c.in-Some.found.parcel.now) c.index_mut.result.now c.take_and_note.new.member c.take_and_note.new.out c.reserve-room.new.parcel_log.sent c.send_all.new.self.sent c.reserve-room.new.trace.items c.take_and_note.new.trace.items
    c.get-index.result c.in-Some.found.to c.get-index.ensures.value d.0 at c.reserve-room.ensures.sent c.reserve-room.ensures.trace c.send_all.ensures.sent c.in_ok-take_and_note-in-Some.ensures.ok in
    seen_step core before c.args.self.now _ e _ c.self.view_is (has_happened core before _ e step)

pub invariant_of-self-in-Some : goal.invariant_of-self-in-Some
invariant_of-self-in-Some g c =
    let core = g.C.Exclusion.core in
    let e = event.Deliver c.args.number in
    let before : ClusterState g.row.C.Denot g.row.C-Msg.Denot = record { members = c.self.inside.members.items; sent = c.self.inside.parcel_log.sent; trace = c.self.inside.trace.items } in
    let d = delivers core g.C.Exclusion.IsShape g.C.Exclusion.Good g.met.C.Exclusion.phases g.met.C.Exclusion.laws before c.args.number c.in-Some.found.from c.in-Some.found.to c.in-Some.found.parcel.now c.reserve-room.new.parcel_log.sent c.reserve-room.ensures.sent c.in-Some.ensures c.self.invariant.1 in
    let low : c.get-index.result < length c.self.inside.members.items = let i = c.get-index.ensures.value in omega (arith, i, d.1) in
    let at = at_place c.self.inside.members.items c.get-index.result c.index_mut.result.now low c.index_mut.ensures.value in
    let step = done core before e (act.Deliver c.in-Some.found.from c.in-Some.found.parcel.now) c.index_mut.result.now c.take_and_note.new.member c.take_and_note.new.out c.reserve-room.new.parcel_log.sent c.send_all.new.self.sent c.reserve-room.new.trace.items c.take_and_note.new.trace.items
    c.get-index.result c.in-Some.found.to c.get-index.ensures.value d.0 at c.reserve-room.ensures.sent c.reserve-room.ensures.trace c.send_all.ensures.sent c.in_ok-take_and_note-in-Some.ensures.ok in (
      c.send_all.ensures.out,
      kept_by core g.C.Exclusion.IsShape g.C.Exclusion.Good g.met.C.Exclusion.phases g.met.C.Exclusion.laws before e _ _ (has_happened core before _ e step) c.self.invariant.1,
    )

pub invariant_of-self-in_err-take_and_note-in-Some : goal.invariant_of-self-in_err-take_and_note-in-Some
invariant_of-self-in_err-take_and_note-in-Some g c =
    let core = g.C.Exclusion.core in
    let before : ClusterState g.row.C.Denot g.row.C-Msg.Denot = record { members = c.self.inside.members.items; sent = c.self.inside.parcel_log.sent; trace = c.self.inside.trace.items } in
    let d = delivers core g.C.Exclusion.IsShape g.C.Exclusion.Good g.met.C.Exclusion.phases g.met.C.Exclusion.laws before c.args.number c.in-Some.found.from c.in-Some.found.to c.in-Some.found.parcel.now c.reserve-room.new.parcel_log.sent c.reserve-room.ensures.sent c.in-Some.ensures c.self.invariant.1 in
    let low : c.get-index.result < length c.self.inside.members.items = let i = c.get-index.ensures.value in omega (arith, i, d.1) in
    let at = at_place c.self.inside.members.items c.get-index.result c.index_mut.result.now low c.index_mut.ensures.value in
    let stays = c.in_err-take_and_note-in-Some.ensures.err in (
      stays.1,
      subst (λ (x : ClusterState g.row.C.Denot g.row.C-Msg.Denot). IsKept core g.C.Exclusion.Good x)
          (sym (unchanged c.self.inside.members.items c.self.inside.parcel_log.sent c.reserve-room.new.parcel_log.sent c.self.inside.trace.items c.take_and_note.new.trace.items c.get-index.result c.index_mut.result.now c.take_and_note.new.member
          at stays.0 c.reserve-room.ensures.sent (stays.2 ∙ c.reserve-room.ensures.trace))) c.self.invariant.1,
    )
