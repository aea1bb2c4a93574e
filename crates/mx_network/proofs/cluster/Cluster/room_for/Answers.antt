use Rattle.std.proofs.Common.{◌≡◌, ◌<◌, ◌∙◌, Result, Ok, Err, OnErr, ap, arith, length, sym}
use Rattle.mx_events.specs.declared.event.Event.{Event}
use Rattle.mx_events.specs.declared.event.Event.TheVariants.{Leave}
use Rattle.mx_member.specs.declared.acts.Act.TheVariants as act
use Rattle.mx_network.specs.Step.{part_of, ClusterState}
use Rattle.mx_network.proofs.Happening.{memory_alone}
use Rattle.mx_network.proofs.cluster.Cluster.room_for.Goals as goal
use Rattle.mx_network.proofs.cluster.Cluster.room_for.Goals.{in_default-via-in-Leave+else-get-len, in_default-via-in_default}

-- what holds anyway holds of an error
on_err : {A E : Type 0} (r : Result A E) (P : Type 0) → P → OnErr r P
on_err (Ok a) P h = tt
on_err (Err e) P h = h

pub returns-in_err-new-in-Leave-clause-err : goal.returns-in_err-new-in-Leave-clause-err
returns-in_err-new-in-Leave-clause-err g c =
    let seen = c.args.self.now in
    let same : length c.self.inside.members.items ≡ length seen.members = ap (λ (x : ClusterState g.row.C.Denot g.row.C-Msg.Denot). length x.members) c.self.view_is in
    let low : c.in-Leave.node < length seen.members = let t = c.if-get-len.true in let l = c.len.ensures in let o = c.self.inside.members.ok.0 in let i = c.get.ensures.value in omega (arith, t, l, o, i, same) in
    on_err c.from_residual.result _
    (memory_alone g.C.Exclusion.core seen c.args.event.now (c.in-Leave.node, act.Leave) (ap (part_of (length seen.members) seen.sent) c.in-Leave.is) low)

pub returns-in_default-clause-some : goal.returns-in_default-clause-some
returns-in_default-clause-some g c = λ node is low. elim c.in_default.branch [
  | in_default-via-in-Leave+else-get-len w ↦
      let has : ◌≡◌ {A = Event} (Leave w.in-Leave.node) (Leave node) = sym w.in-Leave.is ∙ is in
      let this : w.in-Leave.node ≡ node = cc in
      let same : length c.self.inside.members.items ≡ length c.args.self.now.members = ap (λ (x : ClusterState g.row.C.Denot g.row.C-Msg.Denot). length x.members) c.self.view_is in
      let t = w.if-get-len.false in let l = w.len.ensures in let o = c.self.inside.members.ok.0 in let i = w.get.ensures.value in absurd (omega (arith, t, l, o, i, same, this, low))
  | in_default-via-in_default w ↦ absurd (w.in_default.not-Leave node is)
]
