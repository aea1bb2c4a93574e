use Rattle.std.proofs.Common.{List, inl, inr, refl, subst, sym}
use Rattle.std.proofs.lemmas.Result.{IfErr-weaker, IfOk-weaker}
use Rattle.mx_stations.specs.declared.worker.Worked.{Worked}
use Rattle.mx_stations.specs.Gathered.{IsGathered, OfOneTable}
use Rattle.mx_stations.specs.Turns.{Station}
use Rattle.mx_live.specs.LiveErrors.{FirstNotDone}
use Rattle.mx_live.specs.Workers.{AreDone}
use Rattle.mx_live.proofs.node_runs.gather_left.Goals as goal

pub gather_all-requires : goal.gather_all-requires
gather_all-requires g c = (search (c.requires-raw), subst (λ (ss : List (Station g.C.Exclusion.core)). OfOneTable ss) (sym c.in-Ok.ensures) c.requires)

pub returns-in-Ok-clause-done : goal.returns-in-Ok-clause-done
returns-in-Ok-clause-done g c = IfOk-weaker c.gather_all.result _ _ (λ all is. subst (λ (l : List (Station g.C.Exclusion.core × Worked)). AreDone l) c.as_slice.ensures.value c.in-None.ensures.none) c.gather_all.ensures.gathered

pub returns-in-Ok-clause-gathered : goal.returns-in-Ok-clause-gathered
returns-in-Ok-clause-gathered g c =
    IfOk-weaker c.gather_all.result _ _ (λ all is. subst (λ (ss : List (Station g.C.Exclusion.core)). IsGathered ss all.journal all.receipts.items) c.in-Ok.ensures is) c.gather_all.ensures.gathered

pub returns-in-Ok-clause-err : goal.returns-in-Ok-clause-err
returns-in-Ok-clause-err g c =
    IfErr-weaker c.gather_all.result _ _ (λ error is. inr (subst (λ (l : List (Station g.C.Exclusion.core × Worked)). AreDone l) c.as_slice.ensures.value c.in-None.ensures.none, is)) c.gather_all.ensures.err

pub returns-in-Some-clause-err : goal.returns-in-Some-clause-err
returns-in-Some-clause-err g c = inl (subst (λ (l : List (Station g.C.Exclusion.core × Worked)). FirstNotDone l c.in-Some.error) c.as_slice.ensures.value c.in-Some.ensures.some)

pub returns-in-Err-clause-err : goal.returns-in-Err-clause-err
returns-in-Err-clause-err g c = inr (subst (λ (l : List (Station g.C.Exclusion.core × Worked)). AreDone l) c.as_slice.ensures.value c.in-None.ensures.none, refl)
