use Rattle.std.proofs.Common.{rules, inl, sym, subst}
use Rattle.mx_stations.specs.Works.{MayLeave}
use Rattle.mx_stations.proofs.Leaving.{leave_trying}
use Rattle.mx_stations.proofs.worker.leave_if_due.Goals as goal
use Rattle.mx_stations.proofs.worker.leave_if_due.Goals.{else-stance-via-then-stance+else-is_ok, else-stance-via-else-stance}

pub returns-then-is_ok : goal.returns-then-is_ok
returns-then-is_ok g c = leave_trying g.C.Exclusion.core c.leave.result _ _ c.leave.ensures.done c.leave.ensures.refused

pub returns-else-stance : goal.returns-else-stance
returns-else-stance g c =
    elim c.else-stance.branch [
      | else-stance-via-then-stance+else-is_ok w ↦
          subst (λ s. MayLeave g.C.Exclusion.core c.args.station.now s) (sym w.station-is)
          (leave_trying g.C.Exclusion.core w.leave.result _ _ w.leave.ensures.done w.leave.ensures.refused)
      | else-stance-via-else-stance w ↦ inl w.station-is
    ]

pub leave-requires : goal.leave-requires
leave-requires g c = search rules
