use Rattle.std.proofs.Common.{◌⊎◌, IfErr, inl, inr, subst, sym}
use Rattle.std.proofs.lemmas.Result.{IfErr-weaker, err_from_is_err_and}
use Rattle.mx_live.specs.LiveErrors.{IsShort, RunsInVain}
use Rattle.mx_live.proofs.SectionLemmas.{both_ok, come_gathered}
use Rattle.mx_live.proofs.WorkerLemmas.{of_one_table}
use Rattle.mx_live.proofs.node_runs.live_at.Goals as goal

pub run_stations-requires-send-C : goal.run_stations-requires-send-C
run_stations-requires-send-C g c κs within = c.type_bounds.send-C

pub run_stations-requires-send-C-Msg : goal.run_stations-requires-send-C-Msg
run_stations-requires-send-C-Msg g c κs within = c.type_bounds.send-C-Msg

pub run_stations-requires-send-C-Shape : goal.run_stations-requires-send-C-Shape
run_stations-requires-send-C-Shape g c κs within = c.type_bounds.send-C-Shape

pub gather_left-requires : goal.gather_left-requires
gather_left-requires g c =
    let at = c.requires in
    (search (c.requires-raw.1.1.1.1.1.1), of_one_table g.C.Exclusion.core at.0 c.args.plan.now _ _ (record { stations = c.args.stations.items; rested = at.1; worked = c.in_ok-left.ensures.left }))

pub returns-clause-come : goal.returns-clause-come
returns-clause-come g c = λ shape rested.
    both_ok c.gather_left.result _ _ _ c.gather_left.ensures.done c.gather_left.ensures.gathered
    (λ all done gathered. come_gathered g.C.Exclusion.core shape c.args.plan.now _ _ _ _ (record { stations = c.args.stations.items; rested = rested; worked = c.in_ok-left.ensures.left }) done gathered)

pub returns-clause-err : goal.returns-clause-err
returns-clause-err g c = λ shape rested.
    IfErr-weaker c.gather_left.result _ _
    (λ error vain. elim vain [
      | inl first ↦ inl (record { left = _; run = record { stations = c.args.stations.items; rested = rested; worked = c.in_ok-left.ensures.left }; first = first })
      | inr out ↦ inr (inl out.1)
    ])
    c.gather_left.ensures.err

pub returns-in_err-left-clause-err : goal.returns-in_err-left-clause-err
returns-in_err-left-clause-err g c = λ shape at.
    let e = err_from_is_err_and c.from_residual.result c.from_residual.ensures.1 in
    subst (λ r. IfErr r (λ error. RunsInVain g.C.Exclusion.core shape c.args.plan.now c.args.options.now error ⊎ IsShort error)) (sym e.1)
    (inr (subst IsShort (sym e.2) c.in_err-left.ensures.short))

pub run_stations-requires-after_bounds : goal.run_stations-requires-after_bounds
run_stations-requires-after_bounds g c κs within = search (c.requires-raw.1.1.1.1.1.1)

pub run_stations-requires-send-R : goal.run_stations-requires-send-R
run_stations-requires-send-R g c κs within = c.type_bounds.send-R

pub run_stations-requires-sync-R : goal.run_stations-requires-sync-R
run_stations-requires-sync-R g c κs within = c.type_bounds.sync-R
