use Rattle.std.proofs.Common.{rules, suc, sym, subst, []}
use Rattle.atomic_table.proofs.Lists.{at_index}
use Rattle.mx_journal.specs.Records.{Ascending}
use Rattle.mx_journal.specs.Settled.{DoAgree, JournalState}
use Rattle.mx_member.specs.Running.{IsJoinOfNodes}
use Rattle.mx_member.proofs.Joining.{join_nothing}
use Rattle.mx_stations.specs.Entries.{owned_of}
use Rattle.mx_stations.proofs.Gathers.{join_station, join_whole, no_conflict, owned_at}
use Rattle.mx_stations.proofs.collection.merge_all.Goals as goal

pub loop-station-init : goal.loop-station-init
loop-station-init g c = record {
  join = subst (λ (j : JournalState). IsJoinOfNodes {S = g.row.C.Denot} [] j) (sym c.new-all.ensures) join_nothing;
  ordered = subst (λ (j : JournalState). Ascending (suc j.base.upto) j.records) (sym c.new-all.ensures) tt;
}

pub returns-in_err-merge-clause-conflict : goal.returns-in_err-merge-clause-conflict
returns-in_err-merge-clause-conflict g c n is = (
  c.loop-station.station-index,
  owned_of c.station-item.result.me,
  c.loop-station.all,
  owned_at c.args.stations.now c.loop-station.station-index c.station-item.result (at_index _ _ _ c.loop-station-test.true c.station-item.is),
  c.loop-station.invariant.join,
  (λ agree. no_conflict c.in_err-merge.field-0.0 c.from_residual.result n
      (c.in_err-merge.ensures.agreed.1 (subst (λ (j : JournalState). DoAgree c.loop-station.all j) (sym c.journal.ensures) agree)) c.from_residual.ensures.1 is),
)

pub loop-station-preserved : goal.loop-station-preserved
loop-station-preserved g c =
    let done = c.in_ok-merge.ensures in
    record {
      join = join_station c.args.stations.now c.loop-station.station-index c.station-item.result c.loop-station.all c.journal.result.now c.merge.new.journal
          (at_index _ _ _ c.loop-station-test.true c.station-item.is) c.loop-station.invariant.join c.journal.ensures done.ok.0 done.join;
      ordered = done.ordered;
    }

pub returns-clause-join : goal.returns-clause-join
returns-clause-join g c = join_whole c.args.stations.now c.loop-station.station-index c.loop-station.all c.loop-station.invariant.join c.loop-station-test.false

pub journal-requires : goal.journal-requires
journal-requires g c = search rules

pub returns-clause-ordered : goal.returns-clause-ordered
returns-clause-ordered g c = c.loop-station.invariant.ordered
