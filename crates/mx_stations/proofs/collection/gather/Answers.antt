use Rattle.std.proofs.Common.{rules, refl, Err, subst, ap}
use Rattle.mx_stations.specs.declared.collection.GatherFault.TheVariants.{Memory}
use Rattle.mx_stations.specs.Gathered.{Disagree, IsReady, IsTogether, IsWhole, Refuses, owned_in}
use Rattle.mx_stations.proofs.Deciding.{gathers, never_empty, refused}
use Rattle.mx_stations.proofs.Whole.{gathered, no_disagreement}
use Rattle.mx_stations.proofs.collection.gather.Goals as goal

pub returns-in-Some : goal.returns-in-Some
returns-in-Some g c =
    let told = refused g.C.Exclusion.core _ c.in-Some.fault (subst (λ l. Refuses g.C.Exclusion.core l c.in-Some.fault) c.as_slice.ensures.value c.in-Some.ensures.some) in
    record { ok = tt; merged = tt; not_all = told.0; still_inside = told.1; ready = told.2; kept = refl }

pub returns-in-Err-Memory : goal.returns-in-Err-Memory
returns-in-Err-Memory g c =
    let told = refused g.C.Exclusion.core _ Memory (subst (IsReady g.C.Exclusion.core) c.as_slice.ensures.value c.in_default.ensures.none) in
    record { ok = tt; merged = tt; not_all = told.0; still_inside = told.1; ready = told.2; kept = refl }

pub join_all-requires : goal.join_all-requires
join_all-requires g c = (search rules, (c.requires, never_empty _ (subst IsWhole c.as_slice.ensures.value c.in_default.ensures.none.0)))

pub join_all-requires-in-Err-Conflict : goal.join_all-requires-in-Err-Conflict
join_all-requires-in-Err-Conflict g c = (search rules, (c.requires, never_empty _ (subst IsWhole c.as_slice.ensures.value c.in_default.ensures.none.0)))

pub unreachable-requires : goal.unreachable-requires
unreachable-requires g c =
    no_disagreement g.C.Exclusion.core g.C.Exclusion.Good c.args.stations.items c.join_all-in-Err-Conflict.ensures
    (subst (λ l. Disagree (owned_in l)) c.as_slice-2.ensures.value (c.in-Err-Conflict.ensures.conflict c.in-Err-Conflict.field-0-0 (ap (λ f. Err f) c.in-Err-Conflict.field-0-is)))

pub returns-in-Ok : goal.returns-in-Ok
returns-in-Ok g c =
    let X = g.C.Exclusion in
    let together = subst (λ l. IsTogether l c.in-Ok.gathered.journal c.in-Ok.gathered.receipts.items) c.as_slice-2.ensures.value c.in-Ok.ensures.ok in
    let is_ready = subst (IsReady X.core) c.as_slice.ensures.value c.in_default.ensures.none in
    let told = gathers X.core _ is_ready in record {
      ok = gathered X.core X.Good c.args.stations.items c.join_all.ensures is_ready.0 _ _ together;
      merged = together.join;
      not_all = told.0;
      still_inside = told.1;
      ready = told.2;
      kept = tt;
    }
