use Rattle.std.proofs.Common.{rules, ap, ◌∙◌, ◌++◌, subst}
use Rattle.std.specs.List.Sorted.{IsPermutation}
use Rattle.std.proofs.lemmas.List.{take_all}
use Rattle.std.proofs.lemmas.List.Sorted.{IsNonDecreasingBy-from_sort_by_key}
use Rattle.atomic_table.proofs.Lists.{at_index}
use Rattle.mx_journal.specs.declared.receipts.Receipt.{Receipt}
use Rattle.mx_stations.specs.Gathered.{receipts_of}
use Rattle.mx_stations.proofs.Gathers.{receipts_more}
use Rattle.mx_stations.proofs.collection.sorted_receipts.Goals as goal

pub loop-station-preserved : goal.loop-station-preserved
loop-station-preserved g c =
    receipts_more c.args.stations.now c.loop-station.station-index c.station-item.result _ _ (at_index _ _ _ c.loop-station-test.true c.station-item.is) c.loop-station.invariant
    (c.in_ok-add_copies.ensures ∙ ap (λ l. c.loop-station.all.items ++ l) c.receipts.ensures)

pub returns-clause-each : goal.returns-clause-each
returns-clause-each g c =
    subst (λ l. IsPermutation l c.sort_unstable_by_key.new.self.items) (c.loop-station.invariant ∙ ap receipts_of (take_all c.loop-station.station-index c.args.stations.now c.loop-station-test.false))
    c.sort_unstable_by_key.ensures.permutation

pub returns-clause-sorted : goal.returns-clause-sorted
returns-clause-sorted g c =
    IsNonDecreasingBy-from_sort_by_key (λ (r : Receipt). r.number) _ c.sort_unstable_by_key.ensures.sorted (λ a r q k. search rules)

pub receipts-requires : goal.receipts-requires
receipts-requires g c = search rules
