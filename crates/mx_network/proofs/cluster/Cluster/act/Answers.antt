use Rattle.std.proofs.Common.{◌<◌, ◌∙◌, ap, arith, length, refl, rules, subst, sym}
use Rattle.mx_network.specs.declared.faults.StepFault.TheVariants.{Memory, NoNode}
use Rattle.mx_network.specs.Step.{own_act, own_node, ClusterState}
use Rattle.mx_network.specs.Kept.{IsKept}
use Rattle.mx_network.proofs.EventParts.{own_fault, own_part}
use Rattle.mx_network.proofs.Happening.{at_place, done, gone, has_that_fault, has_fault, has_happened, memory_alone, same_parts, unchanged, without}
use Rattle.mx_network.proofs.Keeps.{kept_by}
use Rattle.mx_network.proofs.Seen.{seen_step}
use Rattle.mx_network.proofs.cluster.Cluster.act.Goals as goal

pub returns-in_err-node : goal.returns-in_err-node
returns-in_err-node g c =
    let core = g.C.Exclusion.core in
    let before : ClusterState g.row.C.Denot g.row.C-Msg.Denot = record { members = c.self.inside.members.items; sent = c.self.inside.parcel_log.sent; trace = c.self.inside.trace.items } in
    seen_step core before c.args.self.now _ c.args.event.now _ c.self.view_is
    (has_that_fault core before _ c.args.event.now _ _ c.from_residual.ensures.1
    (without core before c.args.event.now _ (own_fault (length c.self.inside.members.items) c.self.inside.parcel_log.sent c.args.event.now _ c.requires
    (c.in_err-node.ensures ∙ ap (λ n. own_node n c.args.event.now) (c.len.ensures ∙ c.self.inside.members.ok.0))))
    (sym c.self.view_is))

pub returns-then-index-len : goal.returns-then-index-len
returns-then-index-len g c =
    let core = g.C.Exclusion.core in
    let before : ClusterState g.row.C.Denot g.row.C-Msg.Denot = record { members = c.self.inside.members.items; sent = c.self.inside.parcel_log.sent; trace = c.self.inside.trace.items } in
    let part = own_part (length c.self.inside.members.items) c.self.inside.parcel_log.sent c.args.event.now c.in_ok-node.node c.requires (c.in_ok-node.ensures ∙ ap (λ n. own_node n c.args.event.now) (c.len.ensures ∙ c.self.inside.members.ok.0)) in
    seen_step core before c.args.self.now _ c.args.event.now _ c.self.view_is
    (has_fault core before _ c.args.event.now NoNode
    (gone core before c.args.event.now (c.in_ok-node.node, own_act c.args.event.now) part
    (let t = c.if-index-len.true in let l = c.len-2.ensures in let o = c.self.inside.members.ok.0 in let i = c.get-index.ensures.value in omega (arith, t, l, o, i)))
    (sym c.self.view_is))

pub returns-in_err-reserve : goal.returns-in_err-reserve
returns-in_err-reserve g c =
    let core = g.C.Exclusion.core in
    let before : ClusterState g.row.C.Denot g.row.C-Msg.Denot = record { members = c.self.inside.members.items; sent = c.self.inside.parcel_log.sent; trace = c.self.inside.trace.items } in
    let part = own_part (length c.self.inside.members.items) c.self.inside.parcel_log.sent c.args.event.now c.in_ok-node.node c.requires (c.in_ok-node.ensures ∙ ap (λ n. own_node n c.args.event.now) (c.len.ensures ∙ c.self.inside.members.ok.0)) in
    seen_step core before c.args.self.now _ c.args.event.now _ c.self.view_is
    (has_that_fault core before _ c.args.event.now Memory _ c.from_residual-in_err-reserve.ensures.1
    (memory_alone core before c.args.event.now (c.in_ok-node.node, own_act c.args.event.now) part
    (let t = c.if-index-len.false in let l = c.len-2.ensures in let o = c.self.inside.members.ok.0 in let i = c.get-index.ensures.value in omega (arith, t, l, o, i)))
    (same_parts _ _ _ _ _ _ refl c.in_err-reserve.ensures.sent c.in_err-reserve.ensures.trace))

pub do_and_note-requires : goal.do_and_note-requires
do_and_note-requires g c = (search rules, (search rules, (c.self.invariant.0, (c.requires, c.in_ok-reserve.ensures.item))))

pub send_all-requires : goal.send_all-requires
send_all-requires g c = (search rules, c.in_ok-reserve.ensures.room)

pub returns-in_err-do_and_note : goal.returns-in_err-do_and_note
returns-in_err-do_and_note g c =
    let core = g.C.Exclusion.core in
    let before : ClusterState g.row.C.Denot g.row.C-Msg.Denot = record { members = c.self.inside.members.items; sent = c.self.inside.parcel_log.sent; trace = c.self.inside.trace.items } in
    let part = own_part (length c.self.inside.members.items) c.self.inside.parcel_log.sent c.args.event.now c.in_ok-node.node c.requires (c.in_ok-node.ensures ∙ ap (λ n. own_node n c.args.event.now) (c.len.ensures ∙ c.self.inside.members.ok.0)) in
    let low : c.get-index.result < length c.self.inside.members.items = let t = c.if-index-len.false in let l = c.len-2.ensures in let o = c.self.inside.members.ok.0 in omega (arith, t, l, o) in
    let at = at_place c.self.inside.members.items c.get-index.result c.index_mut.result.now low c.index_mut.ensures.value in
    let e = c.in_err-do_and_note.ensures.err in
    seen_step core before c.args.self.now _ c.args.event.now _ c.self.view_is
    (has_that_fault core before _ c.args.event.now Memory _ c.from_residual-in_err-do_and_note.ensures.1
    (memory_alone core before c.args.event.now (c.in_ok-node.node, own_act c.args.event.now) part (let i = c.get-index.ensures.value in omega (arith, low, i)))
    (unchanged c.self.inside.members.items c.self.inside.parcel_log.sent _ c.self.inside.trace.items _ c.get-index.result c.index_mut.result.now c.do_and_note.new.member
    at e.0 c.in_ok-reserve.ensures.sent (e.2 ∙ c.in_ok-reserve.ensures.trace)))

pub invariant_of-self-in_err-do_and_note : goal.invariant_of-self-in_err-do_and_note
invariant_of-self-in_err-do_and_note g c =
    let core = g.C.Exclusion.core in
    let before : ClusterState g.row.C.Denot g.row.C-Msg.Denot = record { members = c.self.inside.members.items; sent = c.self.inside.parcel_log.sent; trace = c.self.inside.trace.items } in
    let low : c.get-index.result < length c.self.inside.members.items = let t = c.if-index-len.false in let l = c.len-2.ensures in let o = c.self.inside.members.ok.0 in omega (arith, t, l, o) in
    let at = at_place c.self.inside.members.items c.get-index.result c.index_mut.result.now low c.index_mut.ensures.value in
    let e = c.in_err-do_and_note.ensures.err in (
      e.1,
      subst (λ (x : ClusterState g.row.C.Denot g.row.C-Msg.Denot). IsKept core g.C.Exclusion.Good x)
          (sym (unchanged c.self.inside.members.items c.self.inside.parcel_log.sent c.reserve.new.parcel_log.sent c.self.inside.trace.items c.do_and_note.new.trace.items c.get-index.result c.index_mut.result.now c.do_and_note.new.member
          at e.0 c.in_ok-reserve.ensures.sent (e.2 ∙ c.in_ok-reserve.ensures.trace))) c.self.invariant.1,
    )

pub invariant_of-self : goal.invariant_of-self
invariant_of-self g c = (
  c.self.invariant.0,
  subst (λ (x : ClusterState g.row.C.Denot g.row.C-Msg.Denot). IsKept g.C.Exclusion.core g.C.Exclusion.Good x)
      (sym (same_parts c.self.inside.members.items c.self.inside.members.items c.self.inside.parcel_log.sent c.reserve.new.parcel_log.sent c.self.inside.trace.items c.reserve.new.trace.items refl c.in_err-reserve.ensures.sent c.in_err-reserve.ensures.trace)) c.self.invariant.1,
)

pub invariant_of-self-2 : goal.invariant_of-self-2
invariant_of-self-2 g c =
    let core = g.C.Exclusion.core in
    let before : ClusterState g.row.C.Denot g.row.C-Msg.Denot = record { members = c.self.inside.members.items; sent = c.self.inside.parcel_log.sent; trace = c.self.inside.trace.items } in
    let part = own_part (length c.self.inside.members.items) c.self.inside.parcel_log.sent c.args.event.now c.in_ok-node.node c.requires (c.in_ok-node.ensures ∙ ap (λ n. own_node n c.args.event.now) (c.len.ensures ∙ c.self.inside.members.ok.0)) in
    let low : c.get-index.result < length c.self.inside.members.items = let t = c.if-index-len.false in let l = c.len-2.ensures in let o = c.self.inside.members.ok.0 in omega (arith, t, l, o) in
    let at = at_place c.self.inside.members.items c.get-index.result c.index_mut.result.now low c.index_mut.ensures.value in
    let step = done core before c.args.event.now (own_act c.args.event.now) c.index_mut.result.now c.do_and_note.new.member c.do_and_note.new.out c.reserve.new.parcel_log.sent c.send_all.new.self.sent c.reserve.new.trace.items c.do_and_note.new.trace.items
    c.get-index.result c.in_ok-node.node c.get-index.ensures.value part at c.in_ok-reserve.ensures.sent c.in_ok-reserve.ensures.trace c.send_all.ensures.sent c.in_ok-do_and_note.ensures.ok in (
      c.send_all.ensures.out,
      kept_by core g.C.Exclusion.IsShape g.C.Exclusion.Good g.met.C.Exclusion.phases g.met.C.Exclusion.laws before c.args.event.now _ _ (has_happened core before _ c.args.event.now step) c.self.invariant.1,
    )

pub returns : goal.returns
returns g c =
    let core = g.C.Exclusion.core in
    let before : ClusterState g.row.C.Denot g.row.C-Msg.Denot = record { members = c.self.inside.members.items; sent = c.self.inside.parcel_log.sent; trace = c.self.inside.trace.items } in
    let part = own_part (length c.self.inside.members.items) c.self.inside.parcel_log.sent c.args.event.now c.in_ok-node.node c.requires (c.in_ok-node.ensures ∙ ap (λ n. own_node n c.args.event.now) (c.len.ensures ∙ c.self.inside.members.ok.0)) in
    let low : c.get-index.result < length c.self.inside.members.items = let t = c.if-index-len.false in let l = c.len-2.ensures in let o = c.self.inside.members.ok.0 in omega (arith, t, l, o) in
    let at = at_place c.self.inside.members.items c.get-index.result c.index_mut.result.now low c.index_mut.ensures.value in
    let step = done core before c.args.event.now (own_act c.args.event.now) c.index_mut.result.now c.do_and_note.new.member c.do_and_note.new.out c.reserve.new.parcel_log.sent c.send_all.new.self.sent c.reserve.new.trace.items c.do_and_note.new.trace.items
    c.get-index.result c.in_ok-node.node c.get-index.ensures.value part at c.in_ok-reserve.ensures.sent c.in_ok-reserve.ensures.trace c.send_all.ensures.sent c.in_ok-do_and_note.ensures.ok in
    seen_step core before c.args.self.now _ c.args.event.now _ c.self.view_is (has_happened core before _ c.args.event.now step)
