use Rattle.std.proofs.Common.{rules}
use Rattle.std.proofs.lemmas.List.{nil_from_length}
use Rattle.mx_live.proofs.StationLemmas.{ended, first, moved}
use Rattle.mx_live.proofs.node_runs.only_stations.Goals as goal

pub loop-one-init : goal.loop-one-init
loop-one-init g c = first _ _ _ _ (search rules) c.into_iter-one-iterator.ensures.into_iter_gives.0

pub loop-one-preserved : goal.loop-one-preserved
loop-one-preserved g c = moved _ _ _ _ _ _ _ c.in_ok-push.ensures.items c.in-Some.ensures.steps.0 c.loop-one.invariant

pub returns : goal.returns
returns g c = ended _ _ _ _ (nil_from_length _ (search rules)) c.loop-one.invariant
